use Rattle.std.proofs.Common.{◌≡◌, ℕ, ◌%◌, ◌*◌, ◌^◌, get_or, ap, sym, ◌∙◌, arith}
use Rattle.std.specs.Prelude.{nat_eq}
use Rattle.std.specs.List.{list_all}
use Rattle.std.proofs.lemmas.Bool.{ne_eqb}
use Rattle.std.proofs.lemmas.List.{take_all}
use Rattle.std.proofs.lemmas.List.Folds.{list_all_at}
use Rattle.pool_check.proofs.DigitSteps.{same-first}
use Rattle.pool_check.proofs.trie_row.agree_above.Goals as goal

abbrev high : ℕ → ℕ → ℕ
high depth c = c % 2 ^ (5 * depth)

pub returns-then-masked : goal.returns-then-masked
returns-then-masked c =
    let depth = c.args.depth in
    let codes = c.args.codes.now in
    let i = c.loop-code.code-index in
    let here : c.masked.result ≡ high depth (get_or codes i 0) = c.masked.ensures.kept ∙ ap (λ d. get_or codes i 0 % 2 ^ (5 * d)) c.from-bits.ensures in
    let first : c.masked-in-loop-code.result ≡ high depth (get_or codes 0 0) = c.masked-in-loop-code.ensures.kept ∙ ap (λ d. get_or codes 0 0 % 2 ^ (5 * d)) c.from-bits.ensures in
    sym (same-first (high depth) codes
    ∙ list_all_at (λ c. nat_eq (high depth (get_or codes 0 0)) (high depth c)) codes i 0 c.loop-code-test.true (ne_eqb (high depth (get_or codes 0 0)) (high depth (get_or codes i 0)) (λ same. c.if-masked.true (here ∙ sym same ∙ sym first))))

pub returns : goal.returns
returns c =
    let depth = c.args.depth in
    let codes = c.args.codes.now in
    sym (same-first (high depth) codes ∙ ap (list_all (λ c. nat_eq (high depth (get_or codes 0 0)) (high depth c))) (sym (take_all c.loop-code.code-index codes (omega arith))) ∙ c.loop-code.invariant)
