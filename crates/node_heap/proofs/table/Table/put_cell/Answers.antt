use Rattle.std.proofs.Common.{arith}
use Rattle.node_heap.proofs.Parting.{Covers-room}
use Rattle.node_heap.proofs.Placed.{puts-cell, IsTable-put}
use Rattle.node_heap.proofs.table.Table.put_cell.Goals as goal

pub put_cell-requires-clause-room : goal.put_cell-requires-clause-room
put_cell-requires-clause-room g c =
    let spare = rw (← c.self.view_is) at c.requires in
    let inv = c.self.invariant in
    omega (arith, Covers-room _ _ _ _ _ (omega (arith, inv.within, spare)) inv.of_cells, c.self.inside.cells.ok.0, c.self.inside.free_cells.ok.0)

pub invariant_of-self : goal.invariant_of-self
invariant_of-self g c =
    let spare = rw (← c.self.view_is) at c.requires in
    let put = c.put_cell.ensures in
    IsTable-put c.self.invariant _ _ _ _ c.put_cell.result _ put.capacity put.free_capacity spare put.fills

pub returns-clause-puts : goal.returns-clause-puts
returns-clause-puts g c =
    let i = c.self.inside in
    let spare = rw (← c.self.view_is) at c.requires in
    let inv = c.self.invariant in
    let fills = c.put_cell.ensures.fills in
    rw (← c.self.view_is) (puts-cell i.cells.items _ _ _ i.nodes.slots c.put_cell.result c.args.value fills
    (omega (arith, fills.inside, fills.one, fills.fewer, inv.of_cells.short, inv.of_cells.listed.all_slots, inv.within, inv.few_cells, spare)))
