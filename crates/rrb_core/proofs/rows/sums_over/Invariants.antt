use Rattle.std.proofs.Common.{◌≡◌, ◌<◌, ◌+◌, ℕ, length, take, slice_index}
use Rattle.std.specs.List.{flat_map}
use Rattle.node_heap.specs.Heap.{form_at}
use Rattle.rrb_core.specs.Seq.{seq_at}
use Rattle.rrb_core.proofs.rows.sums_over.Given as goal

abbrev pub invariant-loop-child : goal.invariant-loop-child
invariant-loop-child g l =
    record {
      count : length l.sums.items ≡ l.child-index;
      total : l.total ≡ length (flat_map (seq_at (form_at l.heap) l.below) (take l.child-index l.children));
      each : (k : ℕ) → k < l.child-index → slice_index l.sums.items k ≡ length (flat_map (seq_at (form_at l.heap) l.below) (take (k + 1) l.children));
    }
