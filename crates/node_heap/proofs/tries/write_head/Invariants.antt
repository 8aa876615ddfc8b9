use Rattle.std.proofs.Common.{◌≡◌, ℕ, ◌-◌, ◌≤◌}
use Rattle.std.specs.Prelude.{vec_len, vec_capacity, slice_index_or}
use Rattle.node_heap.specs.declared.row.Head.TheVariants.{Leaf}
use Rattle.node_heap.proofs.tries.write_head.Given as goal

abbrev pub invariant-pad : goal.invariant-pad
invariant-pad l = record {
  same : (k : ℕ) → slice_index_or l.heads.items k Leaf ≡ slice_index_or l.fn.heads.items k Leaf;
  short : vec_len l.heads ≤ l.fn.place;
  grows : vec_len l.fn.heads ≤ vec_len l.heads;
  capacity : vec_capacity l.heads ≡ vec_capacity l.fn.heads;
}

abbrev pub decreases-pad : goal.decreases-pad
decreases-pad l = l.fn.place - vec_len l.heads
