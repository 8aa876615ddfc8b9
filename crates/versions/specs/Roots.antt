-- How the roots of a store's versions stand in its heap, for any kind of root: what a root stands for is a relation between a
-- heap, a link and a value, and that value is read of the heap.
use Rattle.std.specs.Prelude.{◌≡◌, ◌≢◌, ℕ, suc, ◌+◌, ◌^◌, ◌<◌, ◌≤◌, List, [], ◌∷◌, Option, Some, None, is_some, sum_by, count_by, slice_index_or, IsSome}
use Rattle.std.specs.FinMap.{from_entries, insert, get}
use Rattle.node_heap.specs.Heap.{Heap, row_at, holds_at, hold_count, one_at, HasSpares}
use Rattle.node_heap.specs.Calls.{KeepsBelow, Extends, KeepsHeld, Releases}
use Rattle.slab.specs.Slab.{Slab, slab_len, HasRoomFor}
use Rattle.versions.specs.Store.{Versions}

-- 1 where this is the root
abbrev pub root_at : ℕ → Option ℕ → ℕ
root_at k None = 0
root_at k (Some l) = one_at l k

-- the root at a number, if there is one
abbrev pub root_of : List (Option ℕ) → ℕ → Option ℕ
root_of roots v = slice_index_or roots v None

-- a root stands at a number that was free, and every other as it did
pub record AddsRoot (old new : List (Option ℕ)) (v l : ℕ) : Type 0 where
  pub free : root_of old v ≡ None
  pub here : root_of new v ≡ Some l
  pub others : (q : ℕ) → q ≢ v → root_of new q ≡ root_of old q
  pub count : count_by is_some new ≡ count_by is_some old + 1
  pub few : count_by is_some old < 2 ^ 50

-- the number is free now, and every other root stands as it did
pub record DropsRoot (old new : List (Option ℕ)) (v : ℕ) : Type 0 where
  pub free : root_of new v ≡ None
  pub others : (q : ℕ) → q ≢ v → root_of new q ≡ root_of old q
  pub count : count_by is_some new + 1 ≡ count_by is_some old

-- the root at a number was taken out, and another stands there
pub record PutsRoot (old new : List (Option ℕ)) (v l : ℕ) : Type 0 where
  pub between : List (Option ℕ)
  pub drops : DropsRoot old between v
  pub adds : AddsRoot between new v l

module _ {T : Type 0} where
  -- the heap has the holds of the roots and no others
  pub record HoldsRoots (h : Heap T) (roots : List (Option ℕ)) : Type 0 where
    pub holds : (k : ℕ) → holds_at h k ≡ sum_by (root_at k) roots
    pub count : hold_count h ≡ count_by is_some roots
    pub few : count_by is_some roots ≤ 2 ^ 50

  -- there is room for one root more, and for so many cells and nodes
  pub record HasRoom (h : Heap T) (s : Slab ℕ) (cells nodes : ℕ) : Type 0 where
    pub root : HasRoomFor s 1
    pub number : slab_len s < 2 ^ 50
    pub spares : HasSpares h cells nodes

  -- every row and every root stands as it did, and the heap has their holds
  pub record KeepsRoots (old new : Heap T) (roots roots' : List (Option ℕ)) : Type 0 where
    pub extends : Extends old new
    pub same : roots' ≡ roots
    pub holds : HoldsRoots new roots'

  -- a root was taken out, and its hold given up
  pub record ForgetsRoot (old new : Heap T) (roots roots' : List (Option ℕ)) (v : ℕ) : Type 0 where
    pub root : ℕ
    pub was : root_of roots v ≡ Some root
    pub drops : DropsRoot roots roots' v
    pub releases : Releases old new root
    pub keeps : KeepsHeld (one_at root) old new

module _ {T V : Type 0} (read : Heap T → ℕ → V) where
  -- the values of these roots, where the first has this number
  abbrev pub values_from : Heap T → ℕ → List (Option ℕ) → List (ℕ × V)
  values_from h v [] = []
  values_from h v (None ∷ roots) = values_from h (suc v) roots
  values_from h v (Some l ∷ roots) = (v, read h l) ∷ values_from h (suc v) roots

  -- the value of each version that has a root
  abbrev pub values_in : Heap T → List (Option ℕ) → Versions V
  values_in h roots = from_entries (values_from h 0 roots)

module _ {T V : Type 0} (Is : Heap T → ℕ → V → Type 0) where
  -- the root stands for the value, with one hold more for it, and what was a root of a value is one of that value
  pub record Makes (old new : Heap T) (l : ℕ) (x : V) : Type 0 where
    pub is : Is new l x
    pub keeps : (k : ℕ) (y : V) → Is old k y → Is new k y
    pub holds : (k : ℕ) → holds_at new k ≡ holds_at old k + one_at l k
    pub count : hold_count new ≡ hold_count old + 1

  -- the new root, for which a hold of the old one was spent, stands for the value, and what else is held stands for what it did
  pub record Edits (old new : Heap T) (l m : ℕ) (x : V) : Type 0 where
    pub is : Is new m x
    pub keeps : (k : ℕ) (y : V) → one_at l k < holds_at old k → Is old k y → Is new k y
    pub holds : (k : ℕ) → holds_at new k + one_at l k ≡ holds_at old k + one_at m k
    pub count : hold_count new ≡ hold_count old

  module _ (read : Heap T → ℕ → V) where
    -- each root stands for what is read there, and the heap has the holds of the roots and no others
    pub record HasRoots (h : Heap T) (roots : List (Option ℕ)) : Type 0 where
      pub stands : (v l : ℕ) → root_of roots v ≡ Some l → Is h l (read h l)
      pub holds : HoldsRoots h roots

    -- the store has this value besides those that it had, at a number that was free
    pub record AddsVersion (had : Versions V) (new : Heap T) (roots : List (Option ℕ)) (v : ℕ) (x : V) : Type 0 where
      pub stands : HasRoots new roots
      pub fresh : get had v ≡ None
      pub made : values_in read new roots ≡ insert had v x

    -- the version has this value now, and each other the one that it had
    pub record PutsVersion (had : Versions V) (new : Heap T) (roots : List (Option ℕ)) (v : ℕ) (x : V) : Type 0 where
      pub stands : HasRoots new roots
      pub made : values_in read new roots ≡ insert had v x

-- what a root stands for is one value, that which is read there, and it stays wherever all that the root reaches is the same
pub record IsKind {T V : Type 0} (Is : Heap T → ℕ → V → Type 0) (read : Heap T → ℕ → V) : Type 0 where
  pub one : (h : Heap T) (l : ℕ) (x : V) → Is h l x → read h l ≡ x
  pub live : (h : Heap T) (l : ℕ) (x : V) → Is h l x → IsSome (row_at h l)
  pub stays : (old new : Heap T) (l : ℕ) (x : V) → KeepsBelow old new l → Is old l x → Is new l x
