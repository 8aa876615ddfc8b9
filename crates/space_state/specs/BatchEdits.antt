-- What an edit in place makes of a workspace, and which edits a batch makes so.
use Rattle.std.specs.Prelude.{if◌then◌else◌, [], Option, None, Some}
use Rattle.shell_terms.specs.Edit.{Bytes, new, add, set}
use Rattle.shell_terms.specs.Command.{PlainCommand, edit}
use Rattle.plain_space.specs.Workspace.{Workspace, in_batch, undo_with}

-- the command is an edit that a batch makes in place
abbrev pub IsInPlace : PlainCommand → Type 0
IsInPlace (edit (new name)) = Unit {0}
IsInPlace (edit (add name text)) = Unit {0}
IsInPlace (edit (set name index text)) = Unit {0}
IsInPlace _ = ⊥

-- the workspace that an edit in place begins with: outside a batch undo ends with the current state, and redo is empty
abbrev pub current_kept : Workspace → Workspace
current_kept W = record W { undo = if in_batch W then W.undo else undo_with W W.current; redo = if in_batch W then W.redo else [] }

-- the text by which a buffer is made: its name where there is no such buffer, and none where there is one
abbrev pub new_key : {X : Type 0} → Option X → Bytes → Option Bytes
new_key None name = Some name
new_key (Some lines) name = None
