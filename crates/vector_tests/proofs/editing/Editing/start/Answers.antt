use Rattle.std.proofs.Common.{[], ◌∷◌, refl, ap, sym, subst, arith}
use Rattle.std.specs.Prelude.{sum}
use Rattle.std.proofs.lemmas.Result.{IfOk-at_ok}
use Rattle.node_heap.proofs.Counts.{test_same}
use Rattle.node_heap.proofs.BuildLemmas.{count-cons, count-one}
use Rattle.vector_tests.specs.Stands.{IsEditing}
use Rattle.vector_tests.proofs.EditingLemmas.{open-editing}
use Rattle.vector_tests.proofs.editing.Editing.start.Goals as goal

pub opened-vector-requires-clause-held : goal.opened-vector-requires-clause-held
opened-vector-requires-clause-held g c =
    let first = IfOk-at_ok _ c.expect-vector.ensures c.empty.ensures.answered in
    let second = IfOk-at_ok _ c.expect-kept.ensures c.empty-2.ensures.answered in
    let vector = c.expect-vector.result in
    omega (arith, first.holds vector, second.holds vector, test_same vector vector refl)

pub invariant_of-result : goal.invariant_of-result
invariant_of-result g c =
    let first = IfOk-at_ok _ c.expect-vector.ensures c.empty.ensures.answered in
    let second = IfOk-at_ok _ c.expect-kept.ensures c.empty-2.ensures.answered in
    let good = IfOk-at_ok _ c.expect-vector.ensures c.empty.ensures.good in
    let earlier = IfOk-at_ok _ c.expect-kept.ensures c.empty-2.ensures.good in
    let vector = c.expect-vector.result in
    let kept = c.expect-kept.result in
    let is : IsEditing c.empty-2.new.heap vector kept [] = record {
      good = (c.empty-2.ensures.vectors vector good).0;
      earlier = earlier;
      holds = λ k. omega (arith, first.holds k, second.holds k, count-cons k vector (kept ∷ []), count-one k kept);
      few = omega (arith, first.count, second.count, ap sum c.new-heap.ensures.holds);
    } in
    let did = c.opened-vector.ensures in
    subst (λ cells. IsEditing c.opened-vector.new.heap c.opened-vector.result kept cells) (sym c.new-cells.ensures.items)
    (open-editing c.empty-2.new.heap c.opened-vector.new.heap vector c.opened-vector.result kept [] is did.good did.others did.holds did.count)
