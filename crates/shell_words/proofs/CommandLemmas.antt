-- From the table of commands to the meaning of a line.
use Rattle.std.proofs.Common.{◌≡◌, ℕ, false, List, Option, Some, None, Result, Ok, Err, refl, sym, ap, ◌∙◌, bytes_eq, IsUtf8, MatchResult, IsOkAnd}
use Rattle.std.specs.Map.{lookup}
use Rattle.std.specs.Str.{is_utf8}
use Rattle.std.proofs.lemmas.Str.{is_utf8-from_IsUtf8, IsUtf8-from_is_utf8}
use Rattle.std.proofs.lemmas.Bool.{false_from_ne_true}
use Rattle.std.proofs.lemmas.Slice.Eq.{bytes_eq-Decides}
use Rattle.shell_terms.specs.Command.{PlainCommand}
use Rattle.shell_words.specs.declared.BadLine.{BadLine}
use Rattle.shell_words.specs.declared.BadLine.TheVariants as refused
use Rattle.shell_words.specs.declared.Command.{Command}
use Rattle.shell_words.specs.Shown.{plain_command, plain_answer, go_on}
use Rattle.shell_words.specs.Grammar.{RestMeaning, first_piece, after_piece, commands, command_of, meaning}

-- a line whose word stands in the table is read as the table says
pub meaning-word : (line word : List ℕ) (read : RestMeaning) → IsUtf8 line → first_piece line ≡ word → lookup (bytes_eq word) commands ≡ Some read → meaning line ≡ read (after_piece line)
unfolding meaning command_of
meaning-word line word read utf8 e found =
    let text = is_utf8-from_IsUtf8 line utf8 in
    rw (text, e, found) refl

-- any other line of text is no command
pub meaning-unknown : (line word : List ℕ) → IsUtf8 line → first_piece line ≡ word → lookup (bytes_eq word) commands ≡ None → meaning line ≡ Err refused.Command
unfolding meaning command_of
meaning-unknown line word utf8 e none =
    let text = is_utf8-from_IsUtf8 line utf8 in
    rw (text, e, none) refl

-- and a line that is no text is refused first
pub meaning-bytes : (line : List ℕ) → (IsUtf8 line → ⊥) → meaning line ≡ Err refused.Utf8
unfolding meaning
meaning-bytes line bytes =
    let e = false_from_ne_true (is_utf8 line) (λ test. bytes (IsUtf8-from_is_utf8 line test)) in
    rw e refl

-- another word
pub other_word : (word key : List ℕ) → (word ≡ key → ⊥) → bytes_eq word key ≡ false
other_word word key other = false_from_ne_true (bytes_eq word key) (λ test. other ((bytes_eq-Decides word key).0 test))

-- what a map over the pieces of a command answers
mapped : {A : Type 0} (pieces : Result A BadLine) (answer : Result Command BadLine) (P : A → Command → Type 0) (f : A → PlainCommand) → MatchResult pieces (λ x. IsOkAnd answer (P x)) (λ bad. answer ≡ Err bad) → ((x : A) (command : Command) → P x command → plain_command command ≡ f x) → plain_answer answer ≡ go_on pieces (λ x. Ok (f x))
mapped (Ok x) (Ok command) P f h each = ap (λ v. Ok v) (each x command h)
mapped (Ok x) (Err bad) P f h each = absurd h
mapped (Err bad) answer P f h each = rw h refl

-- the answer for a word of the table, made of what its pieces gave
pub answers_word : {A : Type 0} (line word : List ℕ) (read : RestMeaning) (rest : Option (List ℕ)) (pieces : Result A BadLine) (answer : Result Command BadLine) (P : A → Command → Type 0) (f : A → PlainCommand) → IsUtf8 line → first_piece line ≡ word → lookup (bytes_eq word) commands ≡ Some read → rest ≡ after_piece line → read rest ≡ go_on pieces (λ x. Ok (f x)) → MatchResult pieces (λ x. IsOkAnd answer (P x)) (λ bad. answer ≡ Err bad) → ((x : A) (command : Command) → P x command → plain_command command ≡ f x) → plain_answer answer ≡ meaning line
answers_word line word read rest pieces answer P f utf8 e found behind gave is each =
    mapped pieces answer P f is each ∙ sym gave ∙ ap read behind ∙ sym (meaning-word line word read utf8 e found)
