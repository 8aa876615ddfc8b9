-- What a join, an insert and a cut make of the rows of each height.
use Rattle.std.specs.Prelude.{◌≡◌, ℕ, zero, suc, ◌-◌, ◌+◌, ◌<◌, ◌≤◌, List, [], ◌++◌, length, take, drop, slice_index}
use Rattle.std.specs.List.{flat_map}
use Rattle.node_heap.specs.Links.{Links}
use Rattle.node_heap.specs.Heap.{Heap, form_at, links_at}
use Rattle.rrb_core.specs.Seq.{seq_at}
use Rattle.rrb_core.specs.Vector.{height_at}
use Rattle.rrb_core.specs.Levels.{rows_at, rows_of}

-- the rows of height m below links that a row of height n may hold, in order
unfoldable pub rows_under : Links → ℕ → ℕ → List ℕ → List ℕ
rows_under L zero m ls = []
rows_under L (suc n) m ls = flat_map (rows_at L n m) ls

-- all but the last
abbrev pub but_last : List ℕ → List ℕ
but_last ls = take (length ls - 1) ls

module _ {T : Type 0} where
  -- at most `count` rows, and each two neighbours have more links together than one row can hold
  pub record AreAtNeed (h : Heap T) (count : ℕ) (rows : List ℕ) : Type 0 where
    pub most : length rows ≤ count
    pub need : (i : ℕ) → i + 1 < length rows → 32 < length (links_at h (slice_index rows i)) + length (links_at h (slice_index rows (i + 1)))

  -- the rows in front, then at most `count` rows at need, then the rows behind
  pub record HasSeam (h : Heap T) (count : ℕ) (front back all : List ℕ) : Type 0 where
    pub seam : List ℕ
    pub few : AreAtNeed h count seam
    pub rows : all ≡ (front ++ seam) ++ back

  -- the new vector's rows of each height are those of the left one but its last, then at most two at need, then those of the
  -- right one but its first
  abbrev pub JoinsRows : Heap T → Heap T → ℕ → ℕ → ℕ → Type 0
  JoinsRows old new left right v = (m : ℕ) → HasSeam new 2 (but_last (rows_of old m left)) (drop 1 (rows_of old m right)) (rows_of new m v)

  -- the last of the rows in front and the first of those behind can stand side by side: the former has at least half the links that a
  -- row can hold, and both together have more than one row can hold
  pub record StandBeside (h : Heap T) (front back : List ℕ) : Type 0 where
    pub some : 1 ≤ length front
    pub others : 1 ≤ length back
    pub half : 16 ≤ length (links_at h (slice_index front (length front - 1)))
    pub past : 32 < length (links_at h (slice_index front (length front - 1))) + length (links_at h (slice_index back 0))

  -- at each height up to `top` the rows below the row `left` of height n and those below the row `right` of height k can stand side by
  -- side
  abbrev pub AllStandBeside : Heap T → ℕ → ℕ → ℕ → ℕ → ℕ → Type 0
  AllStandBeside h n left k right top = (m : ℕ) → m ≤ top → StandBeside h (rows_at (links_at h) n m left) (rows_at (links_at h) k m right)

  -- at a height at which, and at each below, the rows at the seam can stand side by side, the new vector has all rows of the left one
  -- and then all of the right one
  abbrev pub KeepsRows : Heap T → Heap T → ℕ → ℕ → ℕ → Type 0
  KeepsRows old new left right v = (m : ℕ) → AllStandBeside old (height_at old left) left (height_at old right) right m → rows_of new m v ≡ rows_of old m left ++ rows_of old m right

  -- the new vector's rows of each height are the old one's, with at most two at need in the place of one
  abbrev pub PutsInRow : Heap T → Heap T → ℕ → ℕ → Type 0
  PutsInRow old new vector v = (m : ℕ) → (i : ℕ) × (i ≤ length (rows_of old m vector) - 1) × HasSeam new 2 (take i (rows_of old m vector)) (drop (i + 1) (rows_of old m vector)) (rows_of new m v)

  -- the new vector's rows of each height are at most two at need, then the last ones of the old vector
  abbrev pub DropsRows : Heap T → Heap T → ℕ → ℕ → Type 0
  DropsRows old new vector v = (m : ℕ) → (i : ℕ) × HasSeam new 2 [] (drop i (rows_of old m vector)) (rows_of new m v)

  -- the new vector's rows of each height are at most two at need, then a part of the old vector's, then at most one more
  abbrev pub SlicesRows : Heap T → Heap T → ℕ → ℕ → Type 0
  SlicesRows old new vector v = (m : ℕ) → (i : ℕ) × (j : ℕ) × (cut : List ℕ) × (length cut ≤ 1) × HasSeam new 2 [] (drop i (take j (rows_of old m vector)) ++ cut) (rows_of new m v)

  -- how many elements stand before the row at the place i among the rows of height m below a row of height n, or of a vector
  abbrev pub elements_until : Heap T → ℕ → ℕ → ℕ → ℕ → ℕ
  elements_until h n m l i = length (flat_map (seq_at (form_at h) m) (take i (rows_at (links_at h) n m l)))

  abbrev pub elements_before : Heap T → ℕ → ℕ → ℕ → ℕ
  elements_before h vector m i = elements_until h (height_at h vector) m vector i

  -- where the rows of a height of the old vector from the place i on and before the place j have the part between two indices, the
  -- new vector has no more rows of that height than these
  abbrev pub HasNoMoreRows : Heap T → Heap T → ℕ → ℕ → ℕ → ℕ → Type 0
  HasNoMoreRows old new vector from to v =
      (m i j : ℕ) → i < j → elements_before old vector m i ≤ from → to ≤ elements_before old vector m j → length (rows_of new m v) ≤ j - i

  -- the new vector's rows of each height are the first ones of the old vector, then at most three at need, then the last ones
  -- of the old vector
  abbrev pub ErasesRows : Heap T → Heap T → ℕ → ℕ → Type 0
  ErasesRows old new vector v = (m : ℕ) → (i : ℕ) × (j : ℕ) × HasSeam new 3 (take i (rows_of old m vector)) (drop j (rows_of old m vector)) (rows_of new m v)

  -- what JoinsRows says, of the rows below links that one row or two of a height may hold, where those links join two rows
  abbrev pub JoinsBelow : Heap T → Heap T → ℕ → ℕ → ℕ → ℕ → ℕ → List ℕ → Type 0
  JoinsBelow old new n left k right height ls =
      (m : ℕ) → m < height → HasSeam new 2 (but_last (rows_at (links_at old) n m left)) (drop 1 (rows_at (links_at old) k m right)) (rows_under (links_at new) height m ls)

  -- and what KeepsRows says of them
  abbrev pub KeepsBeneath : Heap T → Heap T → ℕ → ℕ → ℕ → ℕ → ℕ → List ℕ → Type 0
  KeepsBeneath old new n left k right height ls =
      (m : ℕ) → m < height → AllStandBeside old n left k right m → rows_under (links_at new) height m ls ≡ rows_at (links_at old) n m left ++ rows_at (links_at old) k m right

  -- and what PutsInRow says, where those links have one element more than a row of that height
  abbrev pub PutsBelow : Heap T → Heap T → ℕ → ℕ → List ℕ → Type 0
  PutsBelow old new l height ls =
      (m : ℕ) → m < height → (i : ℕ) × (i < length (rows_at (links_at old) height m l)) × HasSeam new 2 (take i (rows_at (links_at old) height m l)) (drop (i + 1) (rows_at (links_at old) height m l)) (rows_under (links_at new) height m ls)
