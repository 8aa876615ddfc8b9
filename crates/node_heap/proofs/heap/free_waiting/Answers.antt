use Rattle.std.proofs.Common.{refl, ap, arith}
use Rattle.std.specs.Prelude.{sum_by}
use Rattle.node_heap.specs.Forms.{is_cell, is_node}
use Rattle.node_heap.specs.Layout.{slot_at}
use Rattle.node_heap.proofs.Dying.{first_live, Thins-rows}
use Rattle.node_heap.proofs.Giving.{first_unplaced, sum-given, low-given, Thins-given, IsDying-given}
use Rattle.node_heap.proofs.Stored.{kinds-row}
use Rattle.node_heap.proofs.heap.free_waiting.Goals as goal

pub take-owners-requires-clause-live : goal.take-owners-requires-clause-live
take-owners-requires-clause-live g c =
    let H = c.requires.dying.0 in
    first_live H c.loop-next.table.slots c.loop-next.next c.loop-next-test.true (c.loop-next.invariant.dying H c.requires.dying.1)

pub take-owners-requires-clause-unplaced : goal.take-owners-requires-clause-unplaced
take-owners-requires-clause-unplaced g c =
    let H = c.requires.dying.0 in
    first_unplaced H c.loop-next.table.slots c.loop-next.next c.loop-next-test.true (c.loop-next.invariant.dying H c.requires.dying.1)

pub drop_places-next-requires-clause-dying : goal.drop_places-next-requires-clause-dying
drop_places-next-requires-clause-dying g c =
    let H = c.requires.dying.0 in
    let taken = c.take-owners.ensures in
    (H, rw (taken.owners, c.as_slice.ensures.value) (IsDying-given taken.gives H c.loop-next-test.true (c.loop-next.invariant.dying H c.requires.dying.1)))

pub drop_places-next-requires-clause-low : goal.drop_places-next-requires-clause-low
drop_places-next-requires-clause-low g c = low-given c.take-owners.ensures.gives c.loop-next.invariant.low

pub loop-next-preserved : goal.loop-next-preserved
loop-next-preserved g c =
    let slots = c.loop-next.table.slots in
    let first = c.loop-next.next in
    let taken = c.take-owners.ensures in
    let gives = taken.gives in
    let kept = c.loop-next.invariant in
    let dropped = c.drop_places-next.ensures in
    let live = first_live c.requires.dying.0 slots first c.loop-next-test.true (kept.dying c.requires.dying.0 c.requires.dying.1) in
    let cells = sum-given gives is_cell refl in
    let nodes = sum-given gives is_node refl in
    record {
      dying = λ H d. dropped.dropped H (rw (taken.owners, c.as_slice.ensures.value) (IsDying-given gives H c.loop-next-test.true (kept.dying H d)));
      low = dropped.low;
      rows = Thins-rows c.args.table.now.slots _ _ dropped.rows (Thins-given gives c.args.table.now.slots kept.rows);
      cells = omega (arith, kept.cells, cells, gives.spare_cells, dropped.room.spare_cells, ap (λ xs. sum_by is_cell xs) dropped.rows);
      nodes = omega (arith, kept.nodes, nodes, gives.spare_nodes, dropped.room.spare_nodes, ap (λ xs. sum_by is_node xs) dropped.rows);
      more_cells = omega (arith, kept.more_cells, gives.spare_cells, dropped.room.spare_cells);
      more_nodes = omega (arith, kept.more_nodes, gives.spare_nodes, dropped.room.spare_nodes);
      len = omega (arith, kept.len, gives.len, gives.spare_cells, gives.spare_nodes, dropped.room.len, dropped.room.spare_cells, dropped.room.spare_nodes, kinds-row (slot_at slots first) live);
    }
