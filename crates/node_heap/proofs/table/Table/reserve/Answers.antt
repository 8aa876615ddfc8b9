use Rattle.std.proofs.Common.{ap, arith, count_by, is_some}
use Rattle.node_heap.proofs.Placed.{len-slots}
use Rattle.node_heap.proofs.table.Table.reserve.Goals as goal

pub reserve_cells-requires-clause-few : goal.reserve_cells-requires-clause-few
reserve_cells-requires-clause-few g c =
    let i = c.self.inside in
    let few = rw (← c.self.view_is) at c.requires.few in
    omega (arith, few, len-slots i.cells.items i.nodes.slots, c.self.invariant.of_cells.listed.all_slots, i.cells.ok.0, i.free_cells.ok.0, c.len.ensures, c.len-2.ensures)

pub reserve-requires-clause-few : goal.reserve-requires-clause-few
reserve-requires-clause-few g c =
    let i = c.self.inside in
    let few = rw (← c.self.view_is) at c.requires.few in
    omega (arith, few, len-slots i.cells.items i.nodes.slots)

pub invariant_of-self-2 : goal.invariant_of-self-2
invariant_of-self-2 g c =
    let i = c.self.inside in
    let few = rw (← c.self.view_is) at c.requires.few in
    let cells = c.reserve_cells.ensures in
    let same = ap (count_by is_some) cells.cells in
    record {
      of_cells = cells.covers;
      within = omega (arith, c.in_ok-reserve_cells.ensures.suffices, same, c.self.invariant.of_cells.listed.all_slots, i.cells.ok.0, i.free_cells.ok.0, c.len.ensures, c.len-2.ensures);
      few_cells = cells.few;
      few = omega (arith, few, len-slots i.cells.items i.nodes.slots, same, ap (count_by is_some) c.reserve.ensures.slots, c.in_ok-reserve.ensures.spares);
    }
