use Rattle.std.proofs.Common.{◌≡◌, ◌≤◌}
use Rattle.std.specs.List.{slice_get}
use Rattle.node_heap.specs.Heap.{form_at}
use Rattle.node_heap.specs.declared.row.TheConstants.{MOST_HEIGHT}
use Rattle.rrb_core.specs.Seq.{seq_at, IsWell}
use Rattle.rrb_core.specs.Vector.{HasSums, elements}
use Rattle.rrb_core.proofs.search.element_at.Given as goal

abbrev pub invariant-loop-height : goal.invariant-loop-height
invariant-loop-height g l =
    record {
      well : IsWell (form_at l.heap) l.height l.link;
      sums : HasSums l.heap l.height l.link;
      low : l.height ≤ MOST_HEIGHT;
      same : slice_get (elements l.heap l.fn.root) l.fn.index ≡ slice_get (seq_at (form_at l.heap) l.height l.link) l.within;
    }

abbrev pub decreases-loop-height : goal.decreases-loop-height
decreases-loop-height g l = l.height
