use Rattle.std.proofs.Common.{ℕ}
use Rattle.node_heap.specs.Heap.{form_at}
use Rattle.rrb_core.specs.Seq.{IsWell}
use Rattle.rrb_core.specs.Push.{IsPacked}
use Rattle.edit_vec.specs.Steps.{HasRoomAt}
use Rattle.edit_vec.proofs.PushLemmas.{IsFound}
use Rattle.edit_vec.proofs.push.lowest_with_room.Given as goal

-- room below the row that was reached is room of the first row, and where that one is packed the search has found all
abbrev pub invariant-loop-level : goal.invariant-loop-level
invariant-loop-level g l = record {
  well : IsWell (form_at l.heap) l.level l.link;
  below : (lowest : ℕ) → HasRoomAt (form_at l.heap) l.level lowest l.link → HasRoomAt (form_at l.heap) l.fn.height lowest l.fn.row;
  found : IsPacked (form_at l.heap) l.level l.link → IsFound (form_at l.heap) l.fn.height l.fn.row l.lowest;
}

abbrev pub decreases-loop-level : goal.decreases-loop-level
decreases-loop-level g l = l.level
