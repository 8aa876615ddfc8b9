-- What the answer of `read_line` shows: the command with its names, numbers and texts as values.
use Rattle.std.specs.Prelude.{Result, Ok, Err}
use Rattle.shell_terms.specs.Command.{PlainCommand, mark, unmark, back, undo, redo, begin, «end», abort, history, get, len, show, list, stars, marks, same, eqv, stats, made, read, write, save, load, part, chain, indent, dedent, quit}
use Rattle.elem_core.specs.Shown.{name_bytes}
use Rattle.plain_space.specs.Change.{edit_command}
use Rattle.shell_words.specs.declared.Command.{Command}
use Rattle.shell_words.specs.declared.Command.TheVariants.{Edit, Mark, Unmark, Back, Undo, Redo, Begin, End, Abort, History, Get, Len, Show, List, Stars, Marks, Same, Eqv, Stats, Made, Read, Write, Save, Load, Part, Chain, Indent, Dedent, Quit}
use Rattle.shell_words.specs.declared.BadLine.{BadLine}

-- The command with its names and texts as their bytes.
abbrev pub plain_command : Command → PlainCommand
plain_command (Edit e) = edit_command e
plain_command (Mark v) = mark (name_bytes v)
plain_command (Unmark v) = unmark (name_bytes v)
plain_command (Back v) = back (name_bytes v)
plain_command Undo = undo
plain_command Redo = redo
plain_command Begin = begin
plain_command End = end
plain_command Abort = abort
plain_command (History n) = history n
plain_command (Get b i) = get (name_bytes b) i
plain_command (Len b) = len (name_bytes b)
plain_command (Show b i j) = show (name_bytes b) i j
plain_command List = list
plain_command Stars = stars
plain_command Marks = marks
plain_command (Same b c) = same (name_bytes b) (name_bytes c)
plain_command (Eqv v w) = eqv (name_bytes v) (name_bytes w)
plain_command Stats = stats
plain_command Made = made
plain_command (Read b f) = read (name_bytes b) (name_bytes f)
plain_command (Write b f) = write (name_bytes b) (name_bytes f)
plain_command (Save f) = save (name_bytes f)
plain_command (Load f) = load (name_bytes f)
plain_command (Part f k) = part (name_bytes f) k
plain_command (Chain f k) = chain (name_bytes f) k
plain_command (Indent n f) = indent n (name_bytes f)
plain_command (Dedent n f) = dedent n (name_bytes f)
plain_command Quit = quit

-- Goes on with what was read, or stays with the refusal.
abbrev pub go_on : {A : Type 0}
    → Result A BadLine → (A → Result PlainCommand BadLine) → Result PlainCommand BadLine
go_on (Ok found) more = more found
go_on (Err bad) more = Err bad

-- An answer of `read_line`, with names and texts as their bytes.
abbrev pub plain_answer : Result Command BadLine → Result PlainCommand BadLine
plain_answer (Ok command) = Ok (plain_command command)
plain_answer (Err bad) = Err bad
