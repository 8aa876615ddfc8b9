-- What follows where an edit writes the alone rows of its path and no others.
use Rattle.std.specs.Prelude.{ℕ, ◌<◌, length, IsSome}
use Rattle.node_heap.specs.Links.{count}
use Rattle.node_heap.specs.Heap.{Heap, row_at, form_at, holds_at, IsGraph}
use Rattle.node_heap.specs.Calls.{KeepsBelow}
use Rattle.node_heap.specs.declared.owner.Owner.{Owner}
use Rattle.node_heap.specs.declared.owner.Owner.TheVariants.{Hold as by_hold}
use Rattle.node_heap.specs.Owner.{owned, holds_beside, KeepsBeside, IsOwner, WritesOnly, WritesOnlyLeft}
use Rattle.rrb_core.specs.Vector.{elements, IsGoodVector}
use Rattle.edit_vec.specs.Path.{set_path, push_path, pop_path}

-- an edit keeps all that any hold reaches beside its owner, and all below each element
pub record KeepsBesideAndElements {T : Type 0} (owner : Owner) (old new : Heap T) (root : ℕ) : Type 0 where
  pub beside : KeepsBeside owner root (λ _. 0) old new
  pub below : (x : ℕ) → 0 < count x (elements old (owned old owner)) → KeepsBelow old new x

abbrev pub SetsKeep : Type 0 → Type 0
SetsKeep T = (owner : Owner) (old new : Heap T) (root index : ℕ) → IsGraph old → IsOwner old owner → IsGoodVector old (owned old owner) → index < length (elements old (owned old owner))
    → WritesOnly owner old new root (set_path (form_at old) (owned old owner) index) → KeepsBesideAndElements owner old new root

abbrev pub PushesKeep : Type 0 → Type 0
PushesKeep T = (owner : Owner) (old new : Heap T) (root : ℕ) → IsGraph old → IsOwner old owner → IsGoodVector old (owned old owner)
    → WritesOnly owner old new root (push_path (form_at old) (owned old owner)) → KeepsBesideAndElements owner old new root

-- a pop keeps all below each element that is left, and below the one that came back, which is held; and by a hold what else is
-- held
abbrev pub PopsKeep : Type 0 → Type 0
PopsKeep T = (owner : Owner) (old new : Heap T) (root : ℕ) → IsGraph old → IsGraph new → IsOwner old owner → IsGoodVector old (owned old owner)
    → WritesOnlyLeft owner old new root (pop_path (form_at old) (owned old owner)) → (x : ℕ) → 0 < count x (elements old (owned old owner)) → IsSome (row_at new x) → KeepsBelow old new x

abbrev pub PopsKeepHeld : Type 0 → Type 0
PopsKeepHeld T = (old new : Heap T) (vector root : ℕ) → IsGraph old → IsGraph new → 0 < holds_at old vector → IsGoodVector old vector
    → WritesOnlyLeft (by_hold vector) old new root (pop_path (form_at old) vector) → (l : ℕ) → 0 < holds_beside old (by_hold vector) l → IsSome (row_at new l) → KeepsBelow old new l
