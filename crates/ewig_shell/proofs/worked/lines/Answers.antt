use Rattle.std.proofs.Common.{◌≡◌, ℕ, ◌+◌, ◌<◌, ◌≤◌, Bool, true, List, replicate, codes, length, Ok, Result, subst, refl, rules, arith, MatchBool, length-append}
use Rattle.std.specs.Str.{is_utf8}
use Rattle.std.proofs.lemmas.Bool.{lt-ltb, le-ltb}
use Rattle.std.proofs.lemmas.List.{length-replicate}
use Rattle.std.proofs.lemmas.List.Elements.{All-append, All-replicate}
use Rattle.std.proofs.lemmas.Str.Ascii.{IsAscii-from_all}
use Rattle.std.proofs.lemmas.Str.{IsUtf8-from_ascii, is_utf8-from_IsUtf8}
use Rattle.elem_core.specs.Naming.{is_name}
use Rattle.elem_core.specs.declared.TheConstants.{MAX_LINE}
use Rattle.shell_terms.specs.Edit.{add}
use Rattle.shell_terms.specs.Command.{PlainCommand, edit}
use Rattle.shell_words.specs.Grammar.{meaning, first_piece, after_piece, command_of, commands, a_name, the_text, if_named}
use Rattle.shell_words.specs.declared.BadLine.{BadLine}
use Rattle.ewig_shell.specs.Step.{Machine, Step, Obeys, Refuses, Means}
use Rattle.ewig_shell.specs.Worked.{adds_text}
use Rattle.ewig_shell.proofs.QuitLemmas.{quit-line}
use Rattle.ewig_shell.proofs.worked.lines.Goals as goal

-- how long such a line is
length_is : (n : ℕ) → length (adds_text n) ≡ 6 + n
length_is n = omega (arith, length-append (codes "add a ") (replicate n 120), length-replicate {A = ℕ} n 120)

-- it is a text, and this command
is_text : (n : ℕ) → is_utf8 (adds_text n) ≡ true
is_text n =
    is_utf8-from_IsUtf8 (adds_text n) (IsUtf8-from_ascii (adds_text n) (IsAscii-from_all (adds_text n)
    (All-append (λ (b : ℕ). b < 128) (codes "add a ") (replicate n 120) (search rules) (All-replicate (λ (b : ℕ). b < 128) n 120 (omega arith)))))

means : (n : ℕ) → meaning (adds_text n) ≡ Ok (edit (add (codes "a") (replicate n 120)))
unfolding meaning first_piece after_piece command_of commands a_name the_text if_named is_name
means n = rw (is_text n) refl

-- up to the greatest length it is obeyed
obeyed : (n : ℕ) → 6 + n ≤ MAX_LINE → (old new : Machine) (reply : List ℕ) → Step old (adds_text n) reply new → Obeys (edit (add (codes "a") (replicate n 120))) old reply new
obeyed n few old new reply step =
    subst (λ (r : Result PlainCommand BadLine). Means old r reply new) (means n)
    (subst (λ (b : Bool). MatchBool b (Refuses old (codes "long") reply new) (Means old (meaning (adds_text n)) reply new)) (le-ltb MAX_LINE (length (adds_text n)) (omega (arith, few, length_is n))) step)

refused : (n : ℕ) → MAX_LINE < 6 + n → (old new : Machine) (reply : List ℕ) → Step old (adds_text n) reply new → Refuses old (codes "long") reply new
refused n many old new reply step =
    subst (λ (b : Bool). MatchBool b (Refuses old (codes "long") reply new) (Means old (meaning (adds_text n)) reply new)) (lt-ltb MAX_LINE (length (adds_text n)) (omega (arith, many, length_is n))) step

pub returns : goal.returns
returns c = record { longest = obeyed 65530 (omega arith); longer = refused 65531 (omega arith); quits = quit-line }
