use Rattle.std.proofs.Common.{◌≡◌, ◌<◌, ◌≤◌, ◌^◌, length, take}
use Rattle.node_heap.specs.Heap.{form_at}
use Rattle.rrb_core.specs.Seq.{seq_at, IsWell}
use Rattle.rrb_core.specs.Vector.{HasSums, height_at, elements}
use Rattle.rrb_core.specs.Edit.{IsAtFront}
use Rattle.rrb_core.proofs.cut.lowest_with.Given as goal

abbrev pub invariant-loop-height : goal.invariant-loop-height
invariant-loop-height g l =
    record {
      well : IsWell (form_at l.heap) l.height l.link;
      sums : HasSums l.heap l.height l.link;
      low : l.height ≤ height_at l.heap l.fn.root;
      inside : l.count ≤ length (seq_at (form_at l.heap) l.height l.link);
      short : length (seq_at (form_at l.heap) l.height l.link) < 2 ^ 32;
      edge : IsAtFront l.heap l.fn.root l.height l.link;
      same : take l.count (seq_at (form_at l.heap) l.height l.link) ≡ take l.count (elements l.heap l.fn.root);
    }

abbrev pub decreases-loop-height : goal.decreases-loop-height
decreases-loop-height g l = l.height
