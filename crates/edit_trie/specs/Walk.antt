-- Inside: what an edit makes of one trie row of its path, which has one owner, and of what is below it.
use Rattle.std.specs.Prelude.{◌≡◌, ◌≢◌, ℕ, suc, ◌+◌, ◌<◌, ◌≤◌, List, [], ◌∷◌, length, take, slice_set, Some, IsSome}
use Rattle.std.specs.List.{find}
use Rattle.std.specs.declared.cmp.Ordering.{Ordering}
use Rattle.node_heap.specs.Links.{count}
use Rattle.node_heap.specs.Forms.{head_of, is_node}
use Rattle.node_heap.specs.Heap.{Heap, row_at, form_at, links_at, owners_at, live_count, IsGraph}
use Rattle.node_heap.specs.Calls.{KeepsBelow, Gains}
use Rattle.node_heap.specs.InPlace.{child_at, OwnsDown, Changes}
use Rattle.node_heap.specs.declared.owner.Owner.TheVariants.{Hold as by_hold}
use Rattle.node_heap.specs.Owner.{KeepsAlone, alone, written, WritesOnly, WritesOnlyLeft}
use Rattle.champ_chain.specs.Entry.{Entry, entry, has_key, others, put, IsEntry}
use Rattle.champ_trie.specs.Trie.{IsTrie}
use Rattle.champ_trie.specs.Reach.{alike_in}
use Rattle.champ_trie.specs.Edit.{IsBelow}
use Rattle.edit_trie.specs.Path.{edit_rows, pair_rows, way_rows, KeepsShared, MakesCopies, MakesFew}

module _ {T : Type 0} where
  -- a change at a child of a row: the row may have another link at this index, and else is as it was, with all below its other children
  pub record EditsChild (parent index : ℕ) (old new : Heap T) (spent gained : List ℕ) (c n : ℕ) : Type 0 where
    pub changes : Changes parent old new spent gained c n
    pub head : head_of (row_at new parent) ≡ head_of (row_at old parent)
    pub links : links_at new parent ≡ slice_set (links_at old parent) index (child_at new parent index)
    pub beside : (i : ℕ) → i < length (links_at old parent) → i ≢ index → KeepsBelow old new (child_at old parent i)

  -- as many rows came as the path has now, beside those that were alone
  abbrev pub MakesShared : Heap T → Heap T → List ℕ → List ℕ → Type 0
  MakesShared old new path path' = live_count new + alone old (take (length path') path) ≡ live_count old + length path'

  -- a row that was there is this one only if it is among the rows of the path that are alone
  abbrev pub MissesPath : Heap T → List ℕ → ℕ → Type 0
  MissesPath old path link = (m : ℕ) → IsSome (row_at old m) → count m (written old path) ≡ 0 → m ≢ link

module _ {T : Type 0} (cmp : T → T → Ordering) where
  -- one of the entries is the key's, and a node
  pub record HasPair (h : Heap T) (E : List (Entry T)) (key : T) (e : Entry T) : Type 0 where
    pub found : find (has_key cmp key) E ≡ Some e
    pub keyed : IsEntry (form_at h) e
    pub is_pair : is_node (row_at h e.link) ≡ 1

module _ {T : Type 0} (cmp : T → T → Ordering) (code : T → ℕ) where
  -- below a row with one owner stand these entries, whose codes agree with this one above the row's depth
  pub record CanEditBelow (h : Heap T) (left depth row c : ℕ) (E : List (Entry T)) : Type 0 where
    pub graph : IsGraph h
    pub sole : owners_at h row ≡ 1
    pub below : IsBelow cmp code (form_at h) depth row E (suc left) c

  module _ (old new : Heap T) (left depth row c : ℕ) (E : List (Entry T)) (key : T) where
    -- the way from the row to the pair of the key, which is this row now, was made the caller's own
    pub record OwnsIn (e : Entry T) (link : ℕ) : Type 0 where
      pub trie : IsTrie cmp code (form_at new) (suc left) depth row (put cmp E (entry e.key link))
      pub same : row_at new link ≡ row_at old e.link
      pub down : OwnsDown new row link
      pub changes : Changes row old new [] [] 0 (left + 1 + alike_in code c E)
      pub gains : Gains old new
      pub path : (most more : ℕ) → length E ≤ most → length E ≤ more
          → KeepsAlone old (pair_rows cmp (form_at old) key most (suc left) depth c row) (pair_rows cmp (form_at new) key more (suc left) depth c row)
      pub came : (most : ℕ) → length E ≤ most → MakesCopies old new (pair_rows cmp (form_at old) key most (suc left) depth c row)
      pub others : (most : ℕ) → length E ≤ most → WritesOnly (by_hold row) old new row (pair_rows cmp (form_at old) key most (suc left) depth c row)
      pub apart : (most : ℕ) → length E ≤ most → MissesPath old (pair_rows cmp (form_at old) key most (suc left) depth c row) link

    -- an entry of the key, which was absent, stands below the row now
    pub record PutsEntryIn (link : ℕ) : Type 0 where
      pub trie : IsTrie cmp code (form_at new) (suc left) depth row (put cmp E (entry key link))
      pub changes : Changes row old new (link ∷ []) [] 0 (left + 1 + alike_in code c E)
      pub gains : Gains old new
      pub path : (most more : ℕ) → length E ≤ most → length E + 1 ≤ more
          → KeepsShared old (edit_rows cmp (form_at old) key most (suc left) depth c row) (edit_rows cmp (form_at new) key more (suc left) depth c row)
      pub came : (most more : ℕ) → length E ≤ most → length E + 1 ≤ more
          → MakesFew old new (edit_rows cmp (form_at old) key most (suc left) depth c row) (way_rows (form_at old) most (suc left) depth c row) (way_rows (form_at new) more (suc left) depth c row) 0
      pub others : (most : ℕ) → length E ≤ most → WritesOnly (by_hold row) old new row (edit_rows cmp (form_at old) key most (suc left) depth c row)

    -- the key was taken out, and what was cut off for it is held
    pub record CutsIn (cut : ℕ) : Type 0 where
      pub trie : IsTrie cmp code (form_at new) (suc left) depth row (others cmp key E)
      pub changes : Changes row old new [] (cut ∷ []) 0 (left + alike_in code c E)
      pub gains : Gains old new
      pub path : (most more : ℕ) → length E ≤ most → length E ≤ more
          → KeepsShared old (edit_rows cmp (form_at old) key most (suc left) depth c row) (edit_rows cmp (form_at new) key more (suc left) depth c row)
      pub came : (most more : ℕ) → length E ≤ most → length E ≤ more → MakesShared old new (edit_rows cmp (form_at old) key most (suc left) depth c row) (edit_rows cmp (form_at new) key more (suc left) depth c row)
      pub others : (most : ℕ) → length E ≤ most → WritesOnlyLeft (by_hold row) old new row (edit_rows cmp (form_at old) key most (suc left) depth c row)
