-- The rows of each height, and what a take makes of them.
use Rattle.std.specs.Prelude.{◌≡◌, ℕ, zero, suc, ◌+◌, ◌<◌, ◌≤◌, List, [], ◌∷◌, ◌++◌, length, take, ◌==◌, if◌then◌else◌}
use Rattle.std.specs.List.{flat_map}
use Rattle.node_heap.specs.Links.{Links}
use Rattle.node_heap.specs.Heap.{Heap, form_at, links_at}
use Rattle.rrb_core.specs.Seq.{seq_at}
use Rattle.rrb_core.specs.Vector.{height_at}

-- the rows of height m below a row of height n, in order; at its own height it is the row itself
unfoldable pub rows_at : Links → ℕ → ℕ → ℕ → List ℕ
rows_at L zero m l = if m == zero then l ∷ [] else []
rows_at L (suc n) m l = if m == suc n then l ∷ [] else flat_map (rows_at L n m) (L l)

-- the first of these rows, then at most one more
pub record HasFront (rows all : List ℕ) : Type 0 where
  pub place : ℕ
  pub inside : place ≤ length rows
  pub last : List ℕ
  pub one : length last ≤ 1
  pub is : all ≡ take place rows ++ last

-- a front of these rows, among its first ones all that end within the first `count` elements: the row behind these ends past
-- them; `elements_of` gives the elements of a row
pub record HasFrontTo (elements_of : ℕ → List ℕ) (count : ℕ) (rows all : List ℕ) : Type 0 where
  pub front : HasFront rows all
  pub past : front.place < length rows → count < length (flat_map elements_of (take (front.place + 1) rows))

module _ {T : Type 0} where
  -- the rows of height m of the vector with this root, in order
  abbrev pub rows_of : Heap T → ℕ → ℕ → List ℕ
  rows_of h m l = rows_at (links_at h) (height_at h l) m l

  -- up to the new vector's own height, above which it has no rows, its rows of each height are the first ones of the old vector,
  -- among them all that end within the first `count` elements, then at most one more
  abbrev pub TakesFirstRows : Heap T → Heap T → ℕ → ℕ → ℕ → Type 0
  TakesFirstRows old new vector count v =
      (m : ℕ) → m ≤ height_at new v → HasFrontTo (seq_at (form_at old) m) count (rows_of old m vector) (rows_of new m v)
