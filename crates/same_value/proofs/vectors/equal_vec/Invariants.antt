use Rattle.std.proofs.Common.{◌-◌, ◌≤◌, take}
use Rattle.std.specs.List.{AllZip}
use Rattle.node_heap.specs.Heap.{form_at}
use Rattle.rrb_core.specs.Vector.{elements}
use Rattle.same_value.specs.Cells.{IsSameCell}
use Rattle.same_value.proofs.vectors.equal_vec.Given as goal

abbrev pub invariant-loop-index : goal.invariant-loop-index
invariant-loop-index g l =
    record {
      inside : l.index ≤ l.count;
      alike : AllZip (IsSameCell g.T.Ord.cmp (form_at l.heap)) (take l.index (elements l.heap l.a)) (take l.index (elements l.heap l.b));
    }

abbrev pub decreases-loop-index : goal.decreases-loop-index
decreases-loop-index g l = l.count - l.index
