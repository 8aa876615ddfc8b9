-- Which pieces end a run.
use Rattle.std.specs.Prelude.{ℕ, Bool, true, false, not, ◌&&◌, List, [], ◌∷◌, if◌then◌else◌, Result, Ok, IsTrue}
use Rattle.std.specs.List.{list_any}
use Rattle.shell_terms.specs.Command.{PlainCommand, quit}
use Rattle.shell_words.specs.Grammar.{meaning}
use Rattle.shell_words.specs.declared.BadLine.{BadLine}
use Rattle.ewig_shell.specs.Step.{is_long}

-- Whether a line that reads so asks to quit.
abbrev pub asks_to_quit : Result PlainCommand BadLine → Bool
asks_to_quit (Ok quit) = true
asks_to_quit _ = false

-- Whether the piece is a line that asks to quit.
unfoldable pub is_quit : List ℕ → Bool
is_quit piece = not (is_long piece) && asks_to_quit (meaning piece)

-- One of the pieces is.
abbrev pub HasQuit : List (List ℕ) → Type 0
HasQuit pieces = IsTrue (list_any is_quit pieces)

-- The elements up to the first that passes the test, that one included; all where none does.
abbrev pub up_to : {X : Type 0} → (X → Bool) → List X → List X
up_to test [] = []
up_to test (x ∷ xs) = if test x then x ∷ [] else x ∷ up_to test xs

-- The pieces up to the first that asks to quit, that piece included.
abbrev pub until_quit : List (List ℕ) → List (List ℕ)
until_quit pieces = up_to is_quit pieces
