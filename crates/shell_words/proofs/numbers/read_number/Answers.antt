use Rattle.std.proofs.Common.{◌≡◌, ◌∙◌, ◌<◌, List, ℕ, true, sym, subst}
use Rattle.std.specs.Prelude.{IfSome, IfNone}
use Rattle.std.specs.Str.{all_ascii_digits}
use Rattle.std.specs.Str.Parse.{digits_value}
use Rattle.std.proofs.lemmas.Bool.{eqb-true, eqb-false}
use Rattle.shell_words.proofs.NumberLemmas.{number_to-empty, number_to-zero, number_to-digits}
use Rattle.shell_words.proofs.numbers.read_number.Goals as goal
use Rattle.shell_words.proofs.numbers.read_number.Goals.{then-is_empty-via-then-is_empty, then-is_empty-via-else-is_empty+then-has_leading_zero}

pub returns-then-is_empty-clause-read : goal.returns-then-is_empty-clause-read
returns-then-is_empty-clause-read c = elim c.then-is_empty.branch [
  | then-is_empty-via-then-is_empty w ↦ sym (number_to-empty _ _ (eqb-true _ _ (sym c.is_empty.ensures ∙ w.if-is_empty.true)))
  | then-is_empty-via-else-is_empty+then-has_leading_zero w ↦ sym (number_to-zero _ _ (sym w.has_leading_zero.ensures ∙ w.if-has_leading_zero.true))
]

pub returns-clause-read : goal.returns-clause-read
returns-clause-read c =
    let same = c.as_bytes.ensures.value in
    number_to-digits c.args.most c.args.text.now c.digits_read.result (eqb-false _ _ (sym c.is_empty.ensures ∙ c.if-is_empty.false)) (sym c.has_leading_zero.ensures ∙ c.if-has_leading_zero.false)
    (subst (λ (bytes : List ℕ). IfSome c.digits_read.result (λ n. (all_ascii_digits bytes ≡ true) × (n ≡ digits_value 10 bytes))) same c.digits_read.ensures.read) c.digits_read.ensures.bound
    (subst (λ (bytes : List ℕ). IfNone c.digits_read.result (all_ascii_digits bytes ≡ true → c.args.most < digits_value 10 bytes)) same c.digits_read.ensures.none)
