use Rattle.std.proofs.Common.{◌≡◌, ◌≤◌, ℕ, None}
use Rattle.slab.specs.Slab.{slab_len}
use Rattle.versions.specs.Roots.{root_of}
use Rattle.versions_pool.proofs.slots.full_slots.Given as goal

abbrev pub invariant-loop-number : goal.invariant-loop-number
invariant-loop-number l = record {
  capacity : l.slots.capacity ≡ l.all;
  many : slab_len l.slots ≡ l._number;
  few : l._number ≤ l.all;
  none : (v : ℕ) → l.all ≤ v → root_of l.slots.slots v ≡ None;
}
