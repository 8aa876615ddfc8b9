use Rattle.std.proofs.Common.{arith}
use Rattle.node_heap.proofs.Weaving.{len-kinds}
use Rattle.node_heap.proofs.nodes.Nodes.len.Goals as goal

pub returns : goal.returns
returns c =
    let i = c.self.inside in
    rw (← c.self.view_is) (omega (arith, len-kinds i.rows.slots i.tries.slots, c.self.invariant.both_kinds))
