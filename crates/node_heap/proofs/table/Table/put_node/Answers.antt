use Rattle.std.proofs.Common.{refl, arith}
use Rattle.node_heap.proofs.Placed.{puts-node, IsTable-node}
use Rattle.node_heap.proofs.table.Table.put_node.Goals as goal

pub returns-clause-puts : goal.returns-clause-puts
returns-clause-puts g c =
    let put = c.put.ensures in
    let i = c.self.inside in
    rw (← c.self.view_is) (puts-node i.cells.items i.nodes.slots c.put.new.self.slots c.put.result _ refl put.was put.now put.others put.low put.len)

pub invariant_of-self : goal.invariant_of-self
invariant_of-self g c = IsTable-node c.self.invariant _ (omega (arith, c.put.ensures.len, c.put.ensures.spares))
