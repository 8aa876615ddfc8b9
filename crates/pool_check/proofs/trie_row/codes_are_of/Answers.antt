use Rattle.std.proofs.Common.{◌≡◌, ◌≤◌, ◌<◌, ◌^◌, false, length, sym, ◌∙◌, arith, rules}
use Rattle.std.specs.Prelude.{count_ones}
use Rattle.std.proofs.lemmas.List.{length-take-le}
use Rattle.champ_trie.specs.Bits.{rank}
use Rattle.champ_trie.proofs.BitLemmas.{count-rank}
use Rattle.pool_check.specs.Keeping.{codes_stand}
use Rattle.pool_check.proofs.TestLemmas.{not-both}
use Rattle.pool_check.proofs.DigitSteps.{stand-first, stand-second, stand-third}
use Rattle.pool_check.proofs.trie_row.codes_are_of.Goals as goal
use Rattle.pool_check.proofs.trie_row.codes_are_of.Goals.{then-have_digits, else-have_digits}

pub slice_bounds-have_digits-end : goal.slice_bounds-have_digits-end
slice_bounds-have_digits-end c =
    let small : c.args.entries < 2 ^ 32 = omega arith in
    sym (length-take-le (count_ones c.args.entries) c.args.codes.now (omega (arith, count-rank c.args.entries small, c.requires.own)))

pub slice_bounds-have_digits-count : goal.slice_bounds-have_digits-count
slice_bounds-have_digits-count c =
    let small : c.args.entries < 2 ^ 32 = omega arith in
    omega (arith, count-rank c.args.entries small, c.requires.own)

pub slice_bounds-have_digits-start : goal.slice_bounds-have_digits-start
slice_bounds-have_digits-start c =
    let small : c.args.entries < 2 ^ 32 = omega arith in
    let low : count_ones c.args.entries ≤ length c.args.codes.now = omega (arith, count-rank c.args.entries small, c.requires.own) in
    search rules

pub returns-then-have_digits-2 : goal.returns-then-have_digits-2
returns-then-have_digits-2 c =
    let small : c.args.entries < 2 ^ 32 = omega arith in
    let own : count_ones c.args.entries ≡ rank c.args.entries 32 = count-rank c.args.entries small in
    elim c.if-have_digits.branch as (λ _. c.agree_above.result ≡ codes_stand c.args.depth c.args.entries c.args.nodes c.args.codes.now) [
      | then-have_digits w ↦
          c.agree_above.ensures
          ∙ sym (stand-third c.args.depth c.args.entries c.args.nodes c.args.codes.now (count_ones c.args.entries) own c.requires.own (sym c.have_digits.ensures ∙ w.if-have_digits.true) (sym w.have_digits-then-have_digits.ensures ∙ sym w.value-is ∙ c.if-have_digits-2.true))
      | else-have_digits w ↦ absurd (not-both (sym w.if-have_digits.false ∙ sym w.value-is ∙ c.if-have_digits-2.true))
    ]

pub returns-else-have_digits-2 : goal.returns-else-have_digits-2
returns-else-have_digits-2 c =
    let small : c.args.entries < 2 ^ 32 = omega arith in
    let own : count_ones c.args.entries ≡ rank c.args.entries 32 = count-rank c.args.entries small in
    c.if-have_digits-2.false
    ∙ sym (elim c.if-have_digits.branch as (λ _. codes_stand c.args.depth c.args.entries c.args.nodes c.args.codes.now ≡ false) [
      | then-have_digits w ↦
          stand-second c.args.depth c.args.entries c.args.nodes c.args.codes.now (count_ones c.args.entries) own c.requires.own (sym w.have_digits-then-have_digits.ensures ∙ sym w.value-is ∙ c.if-have_digits-2.false)
      | else-have_digits w ↦ stand-first c.args.depth c.args.entries c.args.nodes c.args.codes.now (count_ones c.args.entries) own c.requires.own (sym c.have_digits.ensures ∙ w.if-have_digits.false)
    ])
