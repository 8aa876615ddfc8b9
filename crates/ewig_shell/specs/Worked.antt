-- The longest line, beside the first that is too long, and the line that ends a run.
use Rattle.std.specs.Prelude.{ℕ, List, ◌++◌, codes, replicate, IsTrue}
use Rattle.shell_terms.specs.Edit.{add}
use Rattle.shell_terms.specs.Command.{edit}
use Rattle.ewig_shell.specs.Quits.{is_quit}
use Rattle.ewig_shell.specs.Step.{Machine, Step, Obeys, Refuses}

-- A line that adds a text of so many bytes. The number of the byte `x` is 120.
abbrev pub adds_text : ℕ → List ℕ
adds_text count = codes "add a " ++ replicate count 120

-- A line of 65,536 bytes is a command, and one of 65,537 isn't.
pub record WorkedLines : Type 0 where
  pub longest : (old new : Machine) (reply : List ℕ) → Step old (adds_text 65530) reply new → Obeys (edit (add (codes "a") (replicate 65530 120))) old reply new
  pub longer : (old new : Machine) (reply : List ℕ) → Step old (adds_text 65531) reply new → Refuses old (codes "long") reply new
  pub quits : IsTrue (is_quit (codes "quit"))
