-- Which commands the made lines are.
use Rattle.std.specs.Prelude.{◌≡◌, ℕ, ◌+◌, ◌/◌, ◌%◌, ◌^◌, ◌<◌, nat_lt, ◌==◌, if◌then◌else◌, List, ◌++◌, Ok, Bool, true, false, IsTrue, codes}
use Rattle.std.specs.Fmt.{decimal}
use Rattle.elem_core.specs.Cell.{IsCell}
use Rattle.shell_terms.specs.Edit.{Bytes, new, add, set, put, del, cat, copy}
use Rattle.shell_terms.specs.Command.{PlainCommand, edit, mark, undo, redo}
use Rattle.shell_words.specs.Grammar.{meaning}
use Rattle.work_lines.specs.Lines.{line_by, new_line}

-- The name of a buffer, the name of a version, and a text.
abbrev pub buffer : ℕ → Bytes
buffer a = codes "w" ++ decimal a

abbrev pub version : ℕ → Bytes
version n = codes "v" ++ decimal n

abbrev pub line_text : ℕ → Bytes
line_text n = codes "t" ++ decimal n

-- The command of a kind, two buffers and a size.
unfoldable pub command_by : ℕ → ℕ → ℕ → ℕ → PlainCommand
command_by kind a b n =
    if nat_lt kind 7 then edit (add (buffer a) (line_text n))
    else if nat_lt kind 9 then edit (set (buffer a) (n % 256) (line_text n))
    else if kind == 9 then edit (put (buffer a) (n % 256) (line_text n))
    else if kind == 10 then edit (del (buffer a) (n % 16) (n % 16 + n / 16 % 16))
    else if kind == 11 then edit (copy (buffer a) (buffer b))
    else if kind == 12 then undo
    else if kind == 13 then redo
    else if kind == 14 then edit (cat (buffer a) (buffer b))
    else mark (version n)

-- The sorts of commands that the made lines are: edits, versions, and steps back and forward. Each changes the space alone.
abbrev pub is_made : PlainCommand → Bool
is_made (edit change) = true
is_made (mark version) = true
is_made undo = true
is_made redo = true
is_made _ = false

-- The line may stand on an input, and is this command, which is of these sorts.
pub record IsLineOf (line : List ℕ) (command : PlainCommand) : Type 0 where
  pub cell : IsCell line
  pub means : meaning line ≡ Ok command
  pub made : IsTrue (is_made command)

-- Each made line is the command that its parts say.
pub record LinesMean : Type 0 where
  pub first : (b : ℕ) → b < 8 → IsLineOf (new_line b) (edit (new (buffer b)))
  pub later : (kind a b n : ℕ) → a < 8 → b < 8 → n < 2 ^ 22 → IsLineOf (line_by kind a b n) (command_by kind a b n)

-- The line is a command that changes the space.
pub record ChangesSpace (line : List ℕ) : Type 0 where
  pub command : PlainCommand
  pub is : IsLineOf line command
