-- Rows that a test has made, all of which stay.
use Rattle.std.specs.Prelude.{◌≤◌, ℕ, List, length, IsSome}
use Rattle.std.specs.List.{All}
use Rattle.node_heap.specs.Heap.{Heap, row_at, hold_count}

module _ {T : Type 0} where
  -- what was a row is one
  abbrev pub KeepsRows : Heap T → Heap T → Type 0
  KeepsRows old new = (l : ℕ) → IsSome (row_at old l) → IsSome (row_at new l)

  -- the links name rows, and the heap has no more holds than these
  pub record AreThere (h : Heap T) (links : List ℕ) : Type 0 where
    pub rows : All (λ l. IsSome (row_at h l)) links
    pub few : hold_count h ≤ length links
