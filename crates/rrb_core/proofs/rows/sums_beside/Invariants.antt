use Rattle.std.proofs.Common.{◌≡◌, ◌<◌, ◌+◌, ◌-◌, ℕ, length, take, slice_index}
use Rattle.std.specs.List.{flat_map}
use Rattle.node_heap.specs.Heap.{form_at, links_at}
use Rattle.rrb_core.specs.Seq.{seq_at}
use Rattle.rrb_core.specs.Edit.{links_with}
use Rattle.rrb_core.proofs.rows.sums_beside.Given as goal

abbrev pub invariant-loop-place : goal.invariant-loop-place
invariant-loop-place g l =
    record {
      count : length l.sums.items ≡ l.keep + 1 + (l.place - l.skip);
      each : (k : ℕ) → k < l.keep + 1 + (l.place - l.skip) → slice_index l.sums.items k ≡ length (flat_map (seq_at (form_at l.heap) l.below) (take (k + 1) (links_with (links_at l.heap l.fn.link) l.keep l.fn.child l.skip)));
    }
