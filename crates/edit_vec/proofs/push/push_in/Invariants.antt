use Rattle.std.proofs.Common.{◌+◌, ◌<◌, ◌^◌, ◌-◌, length}
use Rattle.node_heap.specs.Heap.{Heap, form_at, hold_count, most_holds}
use Rattle.rrb_core.specs.Seq.{seq_at}
use Rattle.edit_vec.specs.Steps.{CanWrite, HasRoomAt, PushesIn}
use Rattle.edit_vec.proofs.push.push_in.Given as goal

-- what a push into the row that was reached makes of the heap, all of it makes of the first row
abbrev pub invariant-loop-level : goal.invariant-loop-level
invariant-loop-level g l = record {
  row : CanWrite l.heap l.level l.link l.fn.element;
  short : length (seq_at (form_at l.heap) l.level l.link) + 1 < 2 ^ 32;
  few : hold_count l.heap < most_holds;
  room : HasRoomAt (form_at l.heap) l.level l.fn.lowest l.link;
  above : (new : Heap g.row.T.Denot) → PushesIn l.heap new l.level l.fn.lowest l.link l.fn.element → PushesIn l.fn.heap new l.fn.height l.fn.lowest l.fn.row l.fn.element;
}

abbrev pub decreases-loop-level : goal.decreases-loop-level
decreases-loop-level g l = l.level
