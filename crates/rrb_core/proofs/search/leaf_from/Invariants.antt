use Rattle.std.proofs.Common.{◌≡◌, ◌<◌, ◌≤◌, ◌++◌, ℕ, List, length, drop}
use Rattle.node_heap.specs.Heap.{form_at}
use Rattle.node_heap.specs.declared.row.TheConstants.{MOST_HEIGHT}
use Rattle.rrb_core.specs.Seq.{seq_at, IsWell}
use Rattle.rrb_core.specs.Vector.{HasSums, elements}
use Rattle.rrb_core.proofs.search.leaf_from.Given as goal

abbrev pub invariant-loop-height : goal.invariant-loop-height
invariant-loop-height g l =
    record {
      well : IsWell (form_at l.heap) l.height l.link;
      sums : HasSums l.heap l.height l.link;
      low : l.height ≤ MOST_HEIGHT;
      inside : l.within < length (seq_at (form_at l.heap) l.height l.link);
      front : (ys : List ℕ) × (drop l.fn.index (elements l.heap l.fn.root) ≡ drop l.within (seq_at (form_at l.heap) l.height l.link) ++ ys);
    }

abbrev pub decreases-loop-height : goal.decreases-loop-height
decreases-loop-height g l = l.height
