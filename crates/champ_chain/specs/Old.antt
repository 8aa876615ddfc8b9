-- What becomes of the rows that were there where rows are added.
use Rattle.std.specs.Prelude.{◌⊎◌, ℕ, IsSome}
use Rattle.node_heap.specs.Links.{Reaches}
use Rattle.node_heap.specs.Heap.{Heap, row_at, links_at}
pub use Rattle.node_heap.specs.Calls.{KeepsOldOwners}

module _ {T : Type 0} where
  -- each row that was there and that the link reaches was reached by one of these two
  abbrev pub ReachesOldBy : Heap T → Heap T → ℕ → ℕ → ℕ → Type 0
  ReachesOldBy old new first second link = (m : ℕ) → IsSome (row_at old m) → Reaches (links_at new) link m → Reaches (links_at old) first m ⊎ Reaches (links_at old) second m
