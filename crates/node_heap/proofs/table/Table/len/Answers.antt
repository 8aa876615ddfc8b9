use Rattle.std.proofs.Common.{arith}
use Rattle.node_heap.proofs.Placed.{len-slots}
use Rattle.node_heap.proofs.table.Table.len.Goals as goal

pub returns : goal.returns
returns g c =
    let i = c.self.inside in
    rw (← c.self.view_is) (omega (arith, len-slots i.cells.items i.nodes.slots, c.len.ensures, c.len-2.ensures, c.len-3.ensures, c.self.invariant.of_cells.listed.all_slots, i.cells.ok.0, i.free_cells.ok.0))
