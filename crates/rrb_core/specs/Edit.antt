-- What an edit wants of one row of a vector, and what it makes of it.
use Rattle.std.specs.Prelude.{◌≡◌, ℕ, suc, ◌-◌, ◌+◌, ◌*◌, ◌^◌, ◌<◌, ◌≤◌, List, [], ◌∷◌, ◌++◌, length, take, drop, slice_index, slice_set, IsSome}
use Rattle.std.specs.List.{flat_map}
use Rattle.node_heap.specs.Heap.{Heap, row_at, form_at, links_at, holds_at, hold_count, IsGraph, half_holds, most_holds}
use Rattle.node_heap.specs.Calls.{Builds}
use Rattle.node_heap.specs.declared.row.TheConstants.{MOST_HEIGHT}
use Rattle.rrb_core.specs.Seq.{seq_at, IsThick, IsWell}
use Rattle.rrb_core.specs.Push.{IsPushed}
use Rattle.rrb_core.specs.Vector.{KeepsSums, HasSums, sums_at, IsGoodVector}
use Rattle.rrb_core.specs.Build.{IsRowOf, AreRows}
use Rattle.rrb_core.specs.Levels.{rows_at, rows_of, HasFrontTo}

-- the first `keep` links, then the link k, then the links from the place `skip` on
abbrev pub links_with : List ℕ → ℕ → ℕ → ℕ → List ℕ
links_with ks keep k skip = (take keep ks ++ k ∷ []) ++ drop skip ks

module _ {T : Type 0} where
  -- the root of a vector that an edit may copy, with so many spare nodes
  pub record CanEditRoot (h : Heap T) (l spares : ℕ) : Type 0 where
    pub graph : IsGraph h
    pub good : IsGoodVector h l
    pub spare : spares ≤ h.spare_nodes
    pub holds : hold_count h < half_holds

  -- a row of height n that an edit may copy: there is a spare for it and for each row below it on one path
  pub record CanEdit (h : Heap T) (n l : ℕ) : Type 0 where
    pub graph : IsGraph h
    pub well : IsWell (form_at h) n l
    pub sums : HasSums h n l
    pub low : n ≤ MOST_HEIGHT
    pub short : length (seq_at (form_at h) n l) < 2 ^ 32
    pub spare : n + 1 ≤ h.spare_nodes
    pub holds : hold_count h + 64 * (n + 1) ≤ most_holds

  -- the row k of height n has these elements; it was made of at most n + 1 nodes, and these holds were spent
  pub record MakesRow (old new : Heap T) (spent : List ℕ) (n k : ℕ) (xs : List ℕ) : Type 0 where
    pub row : IsRowOf new n k xs
    pub builds : Builds old new spent (k ∷ []) 0 (n + 1)

  -- the row k is the row l of height n with the element e after its last
  pub record Pushes (old new : Heap T) (n l e k : ℕ) : Type 0 where
    pub edits : MakesRow old new (e ∷ []) n k (seq_at (form_at old) n l ++ e ∷ [])
    pub rule : IsPushed (form_at old) (form_at new) e n l k

  -- the row k is the row l of height n with the element e at the index i, and as many links
  pub record SetsAt (old new : Heap T) (n l i e k : ℕ) : Type 0 where
    pub edits : MakesRow old new (e ∷ []) n k (slice_set (seq_at (form_at old) n l) i e)
    pub thick : IsThick (form_at old) n l → IsThick (form_at new) n k
    pub count : length (links_at new k) ≡ length (links_at old l)

  -- the row k has the first `count` elements of the row l of height n, and of the rows of each height below l those that end
  -- within them and at most one more; it has two links or more where the first child has too few elements
  pub record Takes (old new : Heap T) (n l count k : ℕ) : Type 0 where
    pub edits : MakesRow old new [] n k (take count (seq_at (form_at old) n l))
    pub two : 1 ≤ n → length (seq_at (form_at old) (n - 1) (slice_index (links_at old l) 0)) < count → 2 ≤ length (links_at new k)
    pub rows : (m : ℕ) → m < n → HasFrontTo (seq_at (form_at old) m) count (rows_at (links_at old) n m l) (rows_at (links_at new) n m k)

  -- the rows of each height below the row l of height n are the first ones of the vector with this root
  pub record IsAtFront (h : Heap T) (root n l : ℕ) : Type 0 where
    pub first : (m : ℕ) → m ≤ n → rows_at (links_at h) n m l ≡ take (length (rows_at (links_at h) n m l)) (rows_of h m root)

  -- a row over `links_with` of a row's children, which are of the height `below`, can be made
  pub record CanPlace (h : Heap T) (below l keep k skip : ℕ) : Type 0 where
    pub graph : IsGraph h
    pub live : IsSome (row_at h l)
    pub sums : KeepsSums (form_at h) below (links_at h l) (sums_at h l)
    pub keep_in : keep ≤ length (links_at h l)
    pub skip_in : skip ≤ length (links_at h l)
    pub few : keep + 1 + (length (links_at h l) - skip) ≤ 32
    pub rows : AreRows h below (links_with (links_at h l) keep k skip)
    pub low : below < MOST_HEIGHT
    pub short : length (flat_map (seq_at (form_at h) below) (links_with (links_at h l) keep k skip)) < 2 ^ 32
    pub held : 1 ≤ holds_at h k
    pub spare : 1 ≤ h.spare_nodes
    pub holds : hold_count h + 64 ≤ most_holds

  -- the row m is the row over `links_with` of the children of the row l, with the child k; it was made for a hold of k
  pub record PlacesChild (old new : Heap T) (below l keep k skip m : ℕ) : Type 0 where
    pub row : IsRowOf new (suc below) m (flat_map (seq_at (form_at old) below) (links_with (links_at old l) keep k skip))
    pub links : links_at new m ≡ links_with (links_at old l) keep k skip
    pub builds : Builds old new (k ∷ []) (m ∷ []) 0 1
