use Rattle.std.proofs.Common.{arith}
use Rattle.node_heap.proofs.Weaving.{len-kinds}
use Rattle.node_heap.proofs.nodes.Nodes.reserve.Goals as goal

pub roomier-room-requires-clause-few : goal.roomier-room-requires-clause-few
roomier-room-requires-clause-few c =
    let i = c.self.inside in
    let few = rw (← c.self.view_is) at c.requires.few in
    omega (arith, few, len-kinds i.rows.slots i.tries.slots, c.self.invariant.both_kinds)
