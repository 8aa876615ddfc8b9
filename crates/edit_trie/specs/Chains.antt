-- Inside: what an edit makes of a chain, whose first row is a child of a row with one owner.
use Rattle.std.specs.Prelude.{◌≡◌, ◌≢◌, ◌⊎◌, ℕ, ◌+◌, ◌<◌, ◌≤◌, List, [], ◌∷◌, ◌++◌, length, slice_index, Option, Some, None, IsSome, option_to_list}
use Rattle.std.specs.List.{slice_get}
use Rattle.std.specs.declared.cmp.Ordering.{Ordering}
use Rattle.node_heap.specs.Links.{count, HasLink}
use Rattle.node_heap.specs.Forms.{Forms, node, chain}
use Rattle.node_heap.specs.Heap.{Heap, row_at, form_at, links_at, owners_at, live_count}
use Rattle.node_heap.specs.Calls.{KeepsBelow, Gains}
use Rattle.node_heap.specs.InPlace.{child_at, OwnsDown}
use Rattle.node_heap.specs.Owner.{written, alone, KeepsAlone}
use Rattle.champ_chain.specs.Entry.{Entry, entry, key_at, IsEntry, others, put}
use Rattle.champ_chain.specs.Chain.{IsChain}
use Rattle.edit_trie.specs.Path.{chain_rows, row_and_entry, MakesCopies}
use Rattle.edit_trie.specs.Walk.{EditsChild}

module _ {K : Type 0} where
  -- from a link on there are chain rows with these links, of these entries, and the last of them leads on to the rest
  unfoldable pub IsFront : Forms K → Option ℕ → List ℕ → List (Entry K) → Option ℕ → Type 0
  IsFront F o [] [] rest = o ≡ rest
  IsFront F o [] (e ∷ es) rest = ⊥
  IsFront F o (c ∷ cs) [] rest = ⊥
  IsFront F o (c ∷ cs) (e ∷ es) rest = (o ≡ Some c) × IsEntry F e × (next : Option ℕ) × (F c ≡ Some (node chain (e.link ∷ option_to_list next))) × IsFront F next cs es rest

module _ {T : Type 0} where
  -- the link at an index of a row, if there is one
  abbrev pub link_in : Heap T → ℕ → ℕ → Option ℕ
  link_in h row index = slice_get (links_at h row) index

  -- a place past the first row of a chain that was made one's own: in its last own row, to which a path of rows with one owner leads
  pub record IsPast (h : Heap T) (row index : ℕ) (own : List ℕ) (r i : ℕ) : Type 0 where
    pub before : List ℕ
    pub last : own ≡ before ++ r ∷ []
    pub second : i ≡ 1
    pub sole : owners_at h (child_at h row index) ≡ 1
    pub below : OwnsDown h (child_at h row index) r

  -- the rows of these entries were made the caller's own, from the place at an index of a row on, and this is the place after them:
  -- an edit of what comes there is one of the whole
  pub record OwnsRows (old now : Heap T) (row index : ℕ) (front : List (Entry T)) (r i : ℕ) : Type 0 where
    pub rows : List ℕ
    pub own : List ℕ
    pub was : IsFront (form_at old) (link_in old row index) rows front (link_in now r i)
    pub is : IsFront (form_at now) (link_in now row index) own front (link_in now r i)
    pub slot : ((own ≡ []) × (now ≡ old) × (r ≡ row) × (i ≡ index)) ⊎ IsPast now row index own r i
    pub child : EditsChild row index old now [] [] 0 (length front)
    pub sole : owners_at now r ≡ 1
    pub down : OwnsDown now row r
    pub gains : Gains old now
    pub keyless : key_at (form_at now) r ≡ None
    pub left : (m : ℕ) → link_in now r i ≡ Some m → KeepsBelow old now m
    pub path : (rest path' : List ℕ) → (0 < length rest → HasLink (links_at now) r (slice_index rest 0)) → KeepsAlone now rest path' → KeepsAlone old (rows ++ rest) (own ++ path')
    pub came : (rest : List ℕ) → (0 < length rest → HasLink (links_at now) r (slice_index rest 0)) → live_count now + alone old (rows ++ rest) ≡ live_count old + (length rows + alone now rest)
    pub others : (rest : List ℕ) → (0 < length rest → HasLink (links_at now) r (slice_index rest 0)) → (m : ℕ) → IsSome (row_at old m) → m ≢ row → count m (written old (rows ++ rest)) ≡ 0
        → (row_at now m ≡ row_at old m) × (m ≢ r) × (count m (written now rest) ≡ 0)

  -- each row that was there is the same, but this one and the rows of the path that are alone
  abbrev pub WritesBelow : ℕ → Heap T → Heap T → List ℕ → Type 0
  WritesBelow row old new path = (m : ℕ) → IsSome (row_at old m) → m ≢ row → count m (written old path) ≡ 0 → row_at new m ≡ row_at old m

  module _ (cmp : T → T → Ordering) (old new : Heap T) (row index : ℕ) (E : List (Entry T)) (key : T) where
    abbrev first : ℕ
    first = child_at old row index

    abbrev first' : ℕ
    first' = child_at new row index

    -- the way to the pair of the key, which is this row now, was made the caller's own
    pub record OwnsInChain (e : Entry T) (link : ℕ) : Type 0 where
      pub child : EditsChild row index old new [] [] 0 (length E + 1)
      pub chain : IsChain cmp (form_at new) first' (put cmp E (entry e.key link))
      pub same : row_at new link ≡ row_at old e.link
      pub down : OwnsDown new row link
      pub gains : Gains old new
      pub path : (most more : ℕ) → length E ≤ most → length E ≤ more
          → KeepsAlone old (chain_rows cmp (form_at old) key (row_and_entry cmp (form_at old) key) most (Some first)) (chain_rows cmp (form_at new) key (row_and_entry cmp (form_at new) key) more (Some first'))
      pub came : (most : ℕ) → length E ≤ most → MakesCopies old new (chain_rows cmp (form_at old) key (row_and_entry cmp (form_at old) key) most (Some first))
      pub writes : (most : ℕ) → length E ≤ most → WritesBelow row old new (chain_rows cmp (form_at old) key (row_and_entry cmp (form_at old) key) most (Some first))
      pub apart : (most : ℕ) → length E ≤ most → (m : ℕ) → IsSome (row_at old m) → m ≢ row → count m (written old (chain_rows cmp (form_at old) key (row_and_entry cmp (form_at old) key) most (Some first))) ≡ 0 → m ≢ link

    -- an entry of the key, which was absent, stands in the chain now
    pub record PutsInChain (link : ℕ) : Type 0 where
      pub child : EditsChild row index old new (link ∷ []) [] 0 (length E + 1)
      pub chain : IsChain cmp (form_at new) first' (put cmp E (entry key link))
      pub gains : Gains old new
      pub path : (most more : ℕ) → length E ≤ most → length E + 1 ≤ more
          → KeepsAlone old (chain_rows cmp (form_at old) key (λ _. []) most (Some first)) (chain_rows cmp (form_at new) key (λ _. []) more (Some first'))
      pub came : (most : ℕ) → length E ≤ most → live_count new + alone old (chain_rows cmp (form_at old) key (λ _. []) most (Some first)) ≤ live_count old + (length (chain_rows cmp (form_at old) key (λ _. []) most (Some first)) + 1)
      pub writes : (most : ℕ) → length E ≤ most → WritesBelow row old new (chain_rows cmp (form_at old) key (λ _. []) most (Some first))

    -- the key's row was taken out, and is held
    pub record CutsFromChain (cut : ℕ) : Type 0 where
      pub child : EditsChild row index old new [] (cut ∷ []) 0 (length E)
      pub chain : IsChain cmp (form_at new) first' (others cmp key E)
      pub gains : Gains old new
      pub path : (most more : ℕ) → length E ≤ most → length E ≤ more
          → KeepsAlone old (chain_rows cmp (form_at old) key (λ _. []) most (Some first)) (chain_rows cmp (form_at new) key (λ _. []) more (Some first'))
      pub came : (most : ℕ) → length E ≤ most → MakesCopies old new (chain_rows cmp (form_at old) key (λ _. []) most (Some first))
      pub writes : (most : ℕ) → length E ≤ most → WritesBelow row old new (chain_rows cmp (form_at old) key (λ _. []) most (Some first))
