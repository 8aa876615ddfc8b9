-- What each random turn keeps.
use Rattle.std.specs.Prelude.{◌≡◌, ℕ, List, length}
use Rattle.node_heap.specs.Links.{count}
use Rattle.node_heap.specs.Heap.{Heap, holds_at, hold_count, IsGraph}

-- there is a link for each hold
pub record AreHeld {T : Type 0} (h : Heap T) (held : List ℕ) : Type 0 where
  pub graph : IsGraph h
  pub each : (k : ℕ) → holds_at h k ≡ count k held
  pub total : hold_count h ≡ length held
