-- What is left of a row without its first elements, by the rows of each height.
use Rattle.std.specs.Prelude.{◌≡◌, ℕ, ◌+◌, ◌<◌, ◌≤◌, List, ◌++◌, length, drop, slice_index}
use Rattle.std.specs.List.{flat_map}
use Rattle.node_heap.specs.Heap.{Heap, links_at}
use Rattle.rrb_core.specs.Levels.{rows_at, rows_of}
use Rattle.rrb_join.specs.Seam.{rows_under, elements_until, elements_before}

module _ {T : Type 0} where
  -- at most two rows; of two the first has 16 links or more and the second 17, which no row can hold together
  pub record AreHalves (h : Heap T) (rows : List ℕ) : Type 0 where
    pub most : length rows ≤ 2
    pub first : 2 ≤ length rows → 16 ≤ length (links_at h (slice_index rows 0))
    pub second : 2 ≤ length rows → 17 ≤ length (links_at h (slice_index rows 1))

  -- at most two such rows, then the rows behind
  pub record HasRest (h : Heap T) (back all : List ℕ) : Type 0 where
    pub made : List ℕ
    pub halves : AreHalves h made
    pub rows : all ≡ made ++ back

  -- the vector's rows of each height are at most two halves, then the last ones of the old vector
  abbrev pub LeavesRows : Heap T → Heap T → ℕ → ℕ → Type 0
  LeavesRows old new vector v = (m : ℕ) → (i : ℕ) × HasRest new (drop i (rows_of old m vector)) (rows_of new m v)

  -- where no more elements than were dropped stand before an old row of a height, the new rows of that height are no more than
  -- that row and those behind it
  -- HasNoMoreRows up to the whole length doesn't follow from this alone: for that, besides, no old row may be empty, and the new vector
  -- be no higher
  abbrev pub LeavesNoMore : Heap T → Heap T → ℕ → ℕ → ℕ → Type 0
  LeavesNoMore old new vector count v =
      (m i : ℕ) → i < length (rows_of old m vector) → elements_before old vector m i ≤ count → length (rows_of new m v) + i ≤ length (rows_of old m vector)

  -- what LeavesRows says, of the rows below links that a row of the height `height` may hold, where they are what is left of a row of height n
  abbrev pub LeavesBelow : Heap T → Heap T → ℕ → ℕ → ℕ → List ℕ → Type 0
  LeavesBelow old new n l height ls = (m : ℕ) → (i : ℕ) × HasRest new (drop i (rows_at (links_at old) n m l)) (rows_under (links_at new) height m ls)

  -- and what LeavesNoMore says
  abbrev pub LeavesNoMoreBelow : Heap T → Heap T → ℕ → ℕ → ℕ → ℕ → List ℕ → Type 0
  LeavesNoMoreBelow old new n l count height ls =
      (m i : ℕ) → i < length (rows_at (links_at old) n m l) → elements_until old n m l i ≤ count
      → length (rows_under (links_at new) height m ls) + i ≤ length (rows_at (links_at old) n m l)

  -- and where they are made of links that a row of height k may hold, put before a row of height n: lower down are the rows below both, and from
  -- k on at most two halves, then those below the row but its first
  pub record PutsBefore (old new : Heap T) (k : ℕ) (ks : List ℕ) (n right height : ℕ) (ls : List ℕ) : Type 0 where
    pub lower : (m : ℕ) → m < k → rows_under (links_at new) height m ls ≡ rows_under (links_at old) k m ks ++ rows_at (links_at old) n m right
    pub upper : (m : ℕ) → k ≤ m → HasRest new (drop 1 (rows_at (links_at old) n m right)) (rows_under (links_at new) height m ls)

  -- and where they are made of links that a row of height k may hold, put before rows of height k: lower down are the rows below both, and of
  -- height k at most two halves, then those rows
  pub record PutsBeside (old new : Heap T) (k : ℕ) (ks back : List ℕ) (height : ℕ) (ls : List ℕ) : Type 0 where
    pub lower : (m : ℕ) → m < k → rows_under (links_at new) height m ls ≡ rows_under (links_at old) k m ks ++ flat_map (rows_at (links_at old) k m) back
    pub own : HasRest new back (rows_under (links_at new) height k ls)
