-- Commands as sorts.
use Rattle.std.proofs.Common.{◌≡◌, false, refl, IsTrue}
use Rattle.std.proofs.lemmas.Bool.{false≢true}
use Rattle.elem_core.specs.declared.words.Name.{Name}
use Rattle.plain_space.specs.Change.{edit_command}
use Rattle.plain_space.specs.declared.edit.Edit.{Edit}
use Rattle.plain_space.specs.declared.edit.Edit.TheVariants as edits
use Rattle.shell_terms.specs.Kinds.{only_asks, uses_store}
use Rattle.shell_words.specs.Shown.{plain_command}
use Rattle.shell_words.specs.declared.Command.{Command}
use Rattle.shell_words.specs.declared.Command.TheVariants as it
use Rattle.work_lines.specs.Commands.{is_made}

-- an edit asks nothing, and uses no store
pub edit-asks : (change : Edit) → only_asks (edit_command change) ≡ false
edit-asks (edits.New name) = refl
edit-asks _ = refl

pub edit-alone : (change : Edit) → uses_store (edit_command change) ≡ false
edit-alone (edits.New name) = refl
edit-alone _ = refl

-- a command of a made line is one of these
pub others-made : (command : Command) → ((change : Edit) → command ≡ it.Edit change → ⊥) → ((version : Name) → command ≡ it.Mark version → ⊥) → (command ≡ it.Undo → ⊥) → (command ≡ it.Redo → ⊥) → IsTrue (is_made (plain_command command)) → ⊥
others-made (it.Edit change) edits marks undo redo is = edits change refl
others-made (it.Mark version) edits marks undo redo is = marks version refl
others-made it.Undo edits marks undo redo is = undo refl
others-made it.Redo edits marks undo redo is = redo refl
others-made _ edits marks undo redo is = absurd (false≢true is)
