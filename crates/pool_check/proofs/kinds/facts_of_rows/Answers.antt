use Rattle.std.proofs.Common.{◌≡◌, rules, List, [], ◌∷◌, length, ap, sym, subst, ◌∙◌, arith, length-append}
use Rattle.pool_check.specs.declared.kinds.RowFacts.{RowFacts}
use Rattle.pool_check.specs.Facts.{AreFacts, facts_in}
use Rattle.pool_check.proofs.KeptRows.{kept-more, rows-many}
use Rattle.pool_check.proofs.kinds.facts_of_rows.Goals as goal

pub loop-place-init : goal.loop-place-init
loop-place-init c =
    let start : c.len-place.result ≡ length c.args.facts.items = search rules in
    record { facts = c.requires.first; count = sym start; few = omega (arith, c.requires.few, start) }

pub row_facts-requires-clause-more : goal.row_facts-requires-clause-more
row_facts-requires-clause-more c =
    omega (arith, ap (λ (xs : List RowFacts). length xs) c.as_slice.ensures.value, c.loop-place.invariant.count, c.loop-place-test.true, rows-many c.args.pool.now c.as_slice-count.result.now c.as_slice-count.ensures)

pub row_facts-requires-clause-kept : goal.row_facts-requires-clause-kept
row_facts-requires-clause-kept c = subst (λ xs. AreFacts (facts_in c.args.pool.now) xs) (sym c.as_slice.ensures.value) c.loop-place.invariant.facts

pub loop-place-preserved : goal.loop-place-preserved
loop-place-preserved c =
    let facts = facts_in c.args.pool.now in
    let kept = c.loop-place.facts.items in
    let pushed = c.in_ok-push.ensures.items in
    let same : c.row_facts.result ≡ facts (length kept) = c.row_facts.ensures ∙ ap (λ (xs : List RowFacts). facts (length xs)) c.as_slice.ensures.value in
    record {
      facts = subst (λ xs. AreFacts facts xs) (sym pushed) (kept-more facts kept c.row_facts.result c.loop-place.invariant.facts same);
      count = ap (λ (xs : List RowFacts). length xs) pushed ∙ length-append kept (c.row_facts.result ∷ []) ∙ omega (arith, c.loop-place.invariant.count);
      few = omega (arith, c.loop-place-test.true, rows-many c.args.pool.now c.as_slice-count.result.now c.as_slice-count.ensures);
    }

pub returns-clause-facts : goal.returns-clause-facts
returns-clause-facts c = c.loop-place.invariant.facts

pub returns-clause-count : goal.returns-clause-count
returns-clause-count c = omega (arith, c.loop-place.invariant.count, c.loop-place.invariant.few, c.loop-place-test.false, rows-many c.args.pool.now c.as_slice-count.result.now c.as_slice-count.ensures)
