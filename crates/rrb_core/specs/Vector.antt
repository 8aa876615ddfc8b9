-- Vectors in a heap: the fill rule with the sums of inner rows.
use Rattle.std.specs.Prelude.{◌≡◌, ◌↔◌, ℕ, zero, suc, ◌+◌, ◌-◌, ◌^◌, ◌<◌, List, [], length, map, take, Option, Some, None, slice_index}
use Rattle.std.specs.List.{All, flat_map}
use Rattle.node_heap.specs.Links.{count, Reaches}
use Rattle.node_heap.specs.Forms.{Forms, Row, cell, node, sums_of}
use Rattle.node_heap.specs.Heap.{Heap, row_at, form_at, links_at}
use Rattle.node_heap.specs.Calls.{KeepsBelow}
use Rattle.rrb_core.specs.Seq.{height_in, seq_at, seq, IsWellShaped}

-- the running sums of these lengths
pub record AreSums (sums : List ℕ) (items : ℕ → List ℕ) (children : List ℕ) : Type 0 where
  pub count : length sums ≡ length children
  pub each : (i : ℕ) → i < length children → slice_index sums i ≡ length (flat_map items (take (i + 1) children))

module _ {K : Type 0} (F : Forms K) (n : ℕ) (children : List ℕ) where
  -- all of these rows of height n but the last are full: each has 32 ^ (n + 1) elements
  abbrev pub IsRegular : Type 0
  IsRegular = All (λ k. length (seq_at F n k) ≡ 32 ^ suc n) (take (length children - 1) children)

  -- what the row over these rows of height n keeps: no sums exactly where they are regular, and else their running sums
  pub record KeepsSums (sums : List ℕ) : Type 0 where
    pub none : (sums ≡ []) ↔ IsRegular
    pub kept : (¬ IsRegular) → AreSums sums (seq_at F n) children

module _ {T : Type 0} where
  abbrev pub row_sums : Option (Row T) → List ℕ
  row_sums None = []
  row_sums (Some (cell _)) = []
  row_sums (Some (node head _)) = sums_of head

  -- the sums of the row that a link names
  abbrev pub sums_at : Heap T → ℕ → List ℕ
  sums_at h l = row_sums (row_at h l)

  -- a row of this height and every inner row below it keep the sums that they must, or none where they are regular
  unfoldable pub HasSums : Heap T → ℕ → ℕ → Type 0
  HasSums h zero l = Unit {0}
  HasSums h (suc n) l = KeepsSums (form_at h) n (links_at h l) (sums_at h l) × All (HasSums h n) (links_at h l)

  -- the height of the row that a link names
  abbrev pub height_at : Heap T → ℕ → ℕ
  height_at h l = height_in (form_at h) l

  -- every inner row that these roots reach keeps the sums that a row of a good vector keeps
  abbrev pub HaveSums : Heap T → List ℕ → Type 0
  HaveSums h roots = (r l : ℕ) → 0 < count r roots → Reaches (links_at h) r l → HasSums h (height_at h l) l

  -- the links of the elements of the vector with this root
  abbrev pub elements : Heap T → ℕ → List ℕ
  elements h l = seq (form_at h) l

  -- the root of a vector: it keeps the fill rule, and its inner rows keep their sums
  pub record IsGoodVector (h : Heap T) (l : ℕ) : Type 0 where
    pub shape : IsWellShaped (form_at h) l
    pub sums : HasSums h (height_at h l) l

  -- the root of a vector with these elements
  abbrev pub IsVectorOf : Heap T → ℕ → List ℕ → Type 0
  IsVectorOf h l xs = IsGoodVector h l × (elements h l ≡ xs)

  -- a vector of the old heap is one of the new, with the same elements
  abbrev pub IsSameVector : Heap T → Heap T → ℕ → Type 0
  IsSameVector old new l = IsGoodVector old l → IsVectorOf new l (elements old l)

  -- the root of a vector whose elements are roots of vectors with these elements
  pub record IsVectorOfVectors (h : Heap T) (l : ℕ) (lists : List (List ℕ)) : Type 0 where
    pub good : IsGoodVector h l
    pub each : All (IsGoodVector h) (elements h l)
    pub items : map (elements h) (elements h l) ≡ lists

-- a vector stays wherever all that its root reaches is the same
abbrev pub VectorsStay : Type 0 → Type 0
VectorsStay T = (old new : Heap T) (l : ℕ) → KeepsBelow old new l → IsSameVector old new l

-- all that an element of a vector reaches is the same wherever all that its root reaches is
abbrev pub ElementsStay : Type 0 → Type 0
ElementsStay T = (old new : Heap T) (l : ℕ) → KeepsBelow old new l → All (KeepsBelow old new) (elements old l)

-- a vector of vectors stays wherever all that its root reaches is the same
abbrev pub VectorsOfVectorsStay : Type 0 → Type 0
VectorsOfVectorsStay T = (old new : Heap T) (l : ℕ) (lists : List (List ℕ)) → KeepsBelow old new l → IsVectorOfVectors old l lists → IsVectorOfVectors new l lists

-- a vector that stays in one step and then in the next stays in both
abbrev pub SameVectorsFollow : Type 0 → Type 0
SameVectorsFollow T = (a b c : Heap T) (l : ℕ) → IsSameVector a b l → IsSameVector b c l → IsSameVector a c l
