use Rattle.std.proofs.Common.{arith}
use Rattle.std.proofs.lemmas.Result.{IfOk-at_ok}
use Rattle.node_heap.proofs.EditLaws.{owned-live}
use Rattle.map_tests.proofs.PlacedLemmas.{placed-own}
use Rattle.map_tests.proofs.map_placed.PlacedMap.own_value.Goals as goal

pub owners-requires : goal.owners-requires
owners-requires g c =
    let M = c.self.invariant.good in
    let did = rw c.in-Some.is at (IfOk-at_ok _ c.expect.ensures (c.own_value_at-made.ensures.owns M.0 M.1)) in
    owned-live c.own_value_at-made.new.heap did.0.edits.trades.graph c.in-Some.pair (omega (arith, did.0.sole))

pub is_second-requires : goal.is_second-requires
is_second-requires g c =
    let M = c.self.invariant.good in
    let did = rw c.in-Some.is at (IfOk-at_ok _ c.expect.ensures (c.own_value_at-made.ensures.owns M.0 M.1)) in
    record { live = owned-live c.own_value_at-made.new.heap did.0.edits.trades.graph c.in-Some.pair (omega (arith, did.0.sole)) }

pub invariant_of-self-2 : goal.invariant_of-self-2
invariant_of-self-2 g c =
    let M = c.self.invariant.good in
    let did = rw c.in-Some.is at (IfOk-at_ok _ c.expect.ensures (c.own_value_at-made.ensures.owns M.0 M.1)) in
    let changes = IfOk-at_ok _ c.expect.ensures (c.own_value_at-made.ensures.changes M.0 M.1) in
    placed-own g.T.Ord.cmp g.T.Element.code_of c.self.inside.heap c.own_value_at-made.new.heap c.self.inside.parent c.self.inside.index c.self.inside.bits _ _ _ _ c.self.invariant (M.0, did.0.map) did.0.edits changes
