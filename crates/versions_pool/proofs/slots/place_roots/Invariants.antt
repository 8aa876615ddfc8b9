use Rattle.std.proofs.Common.{◌≡◌, ◌≤◌, ◌<◌, ℕ, None}
use Rattle.std.specs.Prelude.{IsSome}
use Rattle.std.specs.List.{zip}
use Rattle.std.specs.Ordering.{nat_cmp}
use Rattle.std.specs.FinMap.{find}
use Rattle.versions.specs.Roots.{root_of}
use Rattle.versions_pool.specs.Slots.{IsAt}
use Rattle.versions_pool.proofs.slots.place_roots.Given as goal

abbrev pub invariant-loop-number : goal.invariant-loop-number
invariant-loop-number l = record {
  capacity : l.slots.capacity ≡ l.fn.slots.capacity;
  at : IsAt l.fn.names l.fn.roots l.number l.next;
  done : (v : ℕ) → v < l.number → root_of l.slots.slots v ≡ find nat_cmp v (zip l.fn.names l.fn.roots);
  left : (v : ℕ) → l.number ≤ v → v < l.fn.slots.capacity → IsSome (root_of l.slots.slots v);
  none : (v : ℕ) → l.fn.slots.capacity ≤ v → root_of l.slots.slots v ≡ None;
}
