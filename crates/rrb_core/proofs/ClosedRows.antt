-- Rows that stay, as proofs carry them.
use Rattle.std.specs.Prelude.{◌≡◌, ℕ}
use Rattle.std.specs.List.{All}
use Rattle.node_heap.specs.Heap.{Heap, row_at, links_at}

module _ {T : Type 0} where
  -- these links are closed under links, and name the same rows in both heaps
  pub record Stays (P : ℕ → Type 0) (old new : Heap T) : Type 0 where
    pub closed : (l : ℕ) → P l → All P (links_at old l)
    pub kept : (l : ℕ) → P l → row_at new l ≡ row_at old l
