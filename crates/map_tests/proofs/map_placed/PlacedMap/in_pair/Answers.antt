use Rattle.std.proofs.Common.{ℕ, ◌≤◌, ◌<◌, [], ◌∷◌, refl, ap, arith}
use Rattle.std.specs.Prelude.{sum}
use Rattle.std.proofs.lemmas.Result.{IfOk-at_ok}
use Rattle.node_heap.specs.Heap.{hold_count, holds_at}
use Rattle.node_heap.proofs.Counts.{test_same}
use Rattle.node_heap.proofs.BuildLemmas.{count-cons, count-one}
use Rattle.node_heap.proofs.Frames.{Extends-trans}
use Rattle.map_tests.proofs.PlacedLemmas.{placed-start}
use Rattle.map_tests.proofs.map_placed.PlacedMap.in_pair.Goals as goal

pub node-parent-requires-clause-held : goal.node-parent-requires-clause-held
node-parent-requires-clause-held g c =
    let first = IfOk-at_ok _ c.expect.ensures c.empty.ensures.answered in
    rw c.into_root-map.ensures (λ l. omega (arith, first.holds l, c.reserve.ensures.rest.holds l, c.cell-first.ensures.adds.holds l, count-cons l c.cell-first.result (c.expect.result.root ∷ []), count-one l c.expect.result.root))

pub invariant_of-result : goal.invariant_of-result
invariant_of-result g c =
    let first = IfOk-at_ok _ c.expect.ensures c.empty.ensures.answered in
    let bits = IfOk-at_ok _ c.expect.ensures c.empty.ensures.bits in
    let map = IfOk-at_ok _ c.expect.ensures c.empty.ensures.map in
    let cell = c.cell-first.ensures in
    let made = c.node-parent.ensures in
    let new = c.node-parent.new.self in
    let p : ℕ = c.node-parent.result in
    let held : 0 < holds_at new p = omega (arith, made.adds.holds p, made.adds.unheld, made.adds.apart, test_same p p refl) in
    let few : hold_count new ≤ 1 = omega (arith, first.count, c.reserve.ensures.rest.count, cell.count, made.count, ap sum c.new-heap.ensures.holds) in
    placed-start g.T.Ord.cmp g.T.Element.code_of c.empty.new.heap new p 1 c.args.bits c.expect.result _ _ bits ([], map) (Extends-trans (Extends-trans {new = c.cell-first.new.self} c.reserve.ensures.extends cell.extends) made.extends) made.adds.here c.into_root-map.ensures (omega arith) made.sole held few
