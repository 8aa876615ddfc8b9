use Rattle.std.proofs.Common.{◌≤◌, ap, arith}
use Rattle.std.specs.Prelude.{sum}
use Rattle.std.proofs.lemmas.Result.{IfOk-at_ok}
use Rattle.node_heap.specs.Heap.{hold_count}
use Rattle.vector_tests.proofs.PlacedLemmas.{placed-start}
use Rattle.vector_tests.proofs.editing.Placed.start.Goals as goal

pub node-pair-requires-clause-held : goal.node-pair-requires-clause-held
node-pair-requires-clause-held g c =
    let answered = IfOk-at_ok _ c.expect.ensures c.empty.ensures.answered in
    rw c.into_root-vector.ensures (λ l. omega (arith, answered.holds l, c.reserve.ensures.rest.holds l, c.cell-first.ensures.adds.holds l))

pub invariant_of-result : goal.invariant_of-result
invariant_of-result g c =
    let good = IfOk-at_ok _ c.expect.ensures c.empty.ensures.good in
    let answered = IfOk-at_ok _ c.expect.ensures c.empty.ensures.answered in
    let few : hold_count c.empty.new.heap ≤ 1 = omega (arith, answered.count, ap sum c.new-heap.ensures.holds) in
    let room = c.reserve.ensures in
    let first = c.cell-first.ensures in
    let pair = c.node-pair.ensures in
    placed-start c.empty.new.heap c.reserve.new.self c.cell-first.new.self c.node-pair.new.self c.node-pair.result c.cell-first.result c.expect.result _ good few room.rest room.extends first.extends first.count (rw c.into_root-vector.ensures at pair.adds) pair.sole pair.count pair.extends
