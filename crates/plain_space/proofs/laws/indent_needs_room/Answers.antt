use Rattle.std.proofs.Common.{◌≡◌, ℕ, ◌+◌, ◌<◌, Bool, true, false, length, refl, sym, ◌∙◌}
use Rattle.std.proofs.lemmas.Bool.{le-leb, lt-leb, false≢true}
use Rattle.elem_core.specs.declared.TheConstants.{MAX_LINE}
use Rattle.shell_terms.specs.Edit.{Bytes}
use Rattle.plain_space.specs.Workspace.{Workspace, all_lines_pass}
use Rattle.plain_space.specs.Refusing.{has_room_for}
use Rattle.plain_space.specs.Lines.{IsLineIn}
use Rattle.plain_space.specs.Answer.{answer}
use Rattle.plain_space.proofs.LineLemmas.{lines-decided}
use Rattle.plain_space.proofs.laws.indent_needs_room.Goals as goal

-- one line that is too long is enough
not_all : (work : Workspace) (count : ℕ) (text : Bytes) → IsLineIn work text → MAX_LINE < length text + count
    → (b : Bool) → all_lines_pass (has_room_for count) work ≡ b → b ≡ false
not_all work count text is long true all =
    absurd (false≢true (sym (lt-leb (length text + count) MAX_LINE long) ∙ (lines-decided (has_room_for count) work).0 all text is))
not_all work count text is long false all = refl

pub returns : goal.returns
unfolding answer
returns c =
    record {
      too_long = λ work count file text unbatched few is long.
          let within = le-leb count 80 few in
          let no = not_all work count text is long (all_lines_pass (has_room_for count) work) refl in
          rw (unbatched, within, no) refl;
      room = λ work count file unbatched few each.
          let within = le-leb count 80 few in
          let yes = (lines-decided (has_room_for count) work).1 (λ text is. le-leb (length text + count) MAX_LINE (each text is)) in
          rw (unbatched, within, yes) refl;
    }
