use Rattle.std.proofs.Common.{◌<◌, sym, subst, arith, length}
use Rattle.std.proofs.lemmas.List.Elements.{All-get_or}
use Rattle.node_heap.specs.Heap.{form_at}
use Rattle.same_value.specs.Cells.{IsCellLink, IsSameCell}
use Rattle.same_value.proofs.PlaceLemmas.{alike-by}
use Rattle.same_value.proofs.ReadRows.{read-at}
use Rattle.same_value.proofs.vectors.alike_leaves.Goals as goal

pub same_values-requires-clause-left : goal.same_values-requires-clause-left
same_values-requires-clause-left g c =
    let low : c.loop-place.place < length c.args.links.now = omega (arith, c.loop-place-test.true, c.min-count.ensures) in
    subst (IsCellLink (form_at c.args.heap.now)) (sym (read-at c.args.links.now c.loop-place.place c.index-links-place.result low c.index-links-place.is))
    (All-get_or (IsCellLink (form_at c.args.heap.now)) c.args.links.now c.loop-place.place 0 low c.requires.left)

pub same_values-requires-clause-right : goal.same_values-requires-clause-right
same_values-requires-clause-right g c =
    let low : c.loop-place.place < length c.args.others.now = omega (arith, c.loop-place-test.true, c.min-count.ensures) in
    subst (IsCellLink (form_at c.args.heap.now)) (sym (read-at c.args.others.now c.loop-place.place c.index-others-place.result low c.index-others-place.is))
    (All-get_or (IsCellLink (form_at c.args.heap.now)) c.args.others.now c.loop-place.place 0 low c.requires.right)

pub returns-clause-alike : goal.returns-clause-alike
returns-clause-alike g c = alike-by (IsSameCell g.T.Ord.cmp (form_at c.args.heap.now)) c.min-count.result c.args.links.now c.args.others.now c.min-count.ensures c.requires.some c.requires.some_others
    (λ i low. c.loop-place.invariant i (omega (arith, low, c.loop-place-test.false)))
