-- The owner of a root that is edited in place, what stays beside it, and which rows of a path are alone.
use Rattle.std.specs.Prelude.{◌≡◌, ◌≢◌, ◌↔◌, ℕ, ◌+◌, ◌*◌, ◌-◌, ◌<◌, List, [], ◌∷◌, ◌++◌, length, take, remove, slice_set, slice_index, Option, Some, None, IsSome, ◌==◌, if◌then◌else◌}
use Rattle.node_heap.specs.Links.{Links, count, HasLink, Reaches}
use Rattle.node_heap.specs.Forms.{Row, cell, node, head_of}
use Rattle.node_heap.specs.Heap.{Heap, row_at, links_at, holds_at, owners_at, one_at, IsGraph}
use Rattle.node_heap.specs.Calls.{KeepsBelow, KeepsHeld, Unchanged, Builds, Trades}
use Rattle.node_heap.specs.InPlace.{child_at, other_at, Changes}
-- a hold of the root, or the place at an index of a parent
pub use Rattle.node_heap.specs.declared.owner.Owner.{Owner}
pub use Rattle.node_heap.specs.declared.owner.Owner.TheVariants.{Hold as by_hold, Child as by_place}

-- the holds that an owner has of its root: one, or none where it is a place
abbrev pub held_by : Owner → ℕ → List ℕ
held_by (by_hold _) root = root ∷ []
held_by (by_place _ _) root = []

module _ {T : Type 0} where
  -- the root that is owned so
  abbrev pub owned : Heap T → Owner → ℕ
  owned h (by_hold root) = root
  owned h (by_place parent index) = child_at h parent index

  -- the holds without that owner
  abbrev pub holds_beside : Heap T → Owner → ℕ → ℕ
  holds_beside h (by_hold root) l = holds_at h l - one_at root l
  holds_beside h (by_place _ _) l = holds_at h l

  -- the links without that owner
  abbrev pub links_beside : Heap T → Owner → Links
  links_beside h (by_hold _) l = links_at h l
  links_beside h (by_place parent index) l = if l == parent then remove (links_at h l) index else links_at h l

  -- a node with another link at the index
  abbrev pub relinked : ℕ → ℕ → Option (Row T) → Option (Row T)
  relinked index link None = None
  relinked index link (Some (cell x)) = Some (cell x)
  relinked index link (Some (node head links)) = Some (node head (slice_set links index link))

  -- the row of a link, with the new root at the owner's place if that is in it
  abbrev pub with_root : Owner → ℕ → ℕ → Option (Row T) → Option (Row T)
  with_root (by_hold _) root l row = row
  with_root (by_place parent index) root l row = if l == parent then relinked index root row else row

  -- each row that a hold left unspent reaches on a way beside the owner is the same, but for the new root at the owner's place
  abbrev pub KeepsBeside : Owner → ℕ → (ℕ → ℕ) → Heap T → Heap T → Type 0
  KeepsBeside owner root spent old new = (l m : ℕ) → spent l < holds_beside old owner l → Reaches (links_beside old owner) l m → row_at new m ≡ with_root owner root m (row_at old m)

  -- what the owner owns was edited in place, and is this root then; the lists are without the owner's own hold
  pub record EditsBy (owner : Owner) (old new : Heap T) (root : ℕ) (spent gained : List ℕ) (c n : ℕ) : Type 0 where
    pub beside : KeepsBeside owner root (λ l. count l spent) old new
    pub trades : Trades old new (held_by owner (owned old owner) ++ spent) (held_by owner root ++ gained) c n

  -- there is such an owner: the hold, or the place
  abbrev pub IsOwner : Heap T → Owner → Type 0
  IsOwner h (by_hold root) = 0 < holds_at h root
  IsOwner h (by_place parent index) = index < length (links_at h parent)

  -- how many rows of a path are alone: its first ones, as long as each has one owner
  abbrev pub alone : Heap T → List ℕ → ℕ
  alone h [] = 0
  alone h (l ∷ path) = if owners_at h l == 1 then 1 + alone h path else 0

  -- those rows
  abbrev pub written : Heap T → List ℕ → List ℕ
  written h path = take (alone h path) path

  -- each row that was there is the same, but the rows of the path that are alone, and the owner's place has the new root
  abbrev pub WritesOnly : Owner → Heap T → Heap T → ℕ → List ℕ → Type 0
  WritesOnly owner old new root path = (m : ℕ) → IsSome (row_at old m) → count m (written old path) ≡ 0 → row_at new m ≡ with_root owner root m (row_at old m)

  -- the same for each row that was there and is there still
  abbrev pub WritesOnlyLeft : Owner → Heap T → Heap T → ℕ → List ℕ → Type 0
  WritesOnlyLeft owner old new root path = (m : ℕ) → IsSome (row_at old m) → IsSome (row_at new m) → count m (written old path) ≡ 0 → row_at new m ≡ with_root owner root m (row_at old m)

  -- at each place of the path the row is the old one exactly where that was alone
  pub record KeepsAlone (old : Heap T) (path path' : List ℕ) : Type 0 where
    pub places : length path' ≡ length path
    pub same : (j : ℕ) → j < length path → (slice_index path' j ≡ slice_index path j) ↔ (j < alone old path)

-- a held node is made one's own and changed then: that is an edit by the hold
abbrev pub OwnThenChanges : Type 0 → Type 0
OwnThenChanges T = (old mid new : Heap T) (root root' : ℕ) (spent gained : List ℕ) (c n : ℕ) → IsGraph old → 0 < holds_at old root → owners_at mid root' ≡ 1
    → Builds old mid (root ∷ []) (root' ∷ []) 0 1 → Changes root' mid new spent gained c n → EditsBy (by_hold root) old new root' spent gained c (1 + n)

-- a child is made its parent's own and changed then: that is an edit by the place
abbrev pub OwnChildThenChanges : Type 0 → Type 0
OwnChildThenChanges T = (old mid new : Heap T) (parent index root' : ℕ) (spent gained : List ℕ) (c n : ℕ) → index < length (links_at old parent) → owners_at mid root' ≡ 1
    → head_of (row_at mid parent) ≡ head_of (row_at old parent) → links_at mid parent ≡ slice_set (links_at old parent) index root'
    → ((k : ℕ) → k ≢ parent → k ≢ root' → row_at mid k ≡ row_at old k) → Changes parent old mid [] [] 0 1
    → Changes root' mid new spent gained c n → EditsBy (by_place parent index) old new root' spent gained c (1 + n)

-- where room was made first, all is one edit
abbrev pub RoomThenEdits : Type 0 → Type 0
RoomThenEdits T = (owner : Owner) (old mid new : Heap T) (root : ℕ) (spent gained : List ℕ) (c n : ℕ)
    → Unchanged old mid → EditsBy owner mid new root spent gained c n → EditsBy owner old new root spent gained c n

-- an edit by a hold keeps all that is held beside it
abbrev pub HoldEditsKeepHeld : Type 0 → Type 0
HoldEditsKeepHeld T = (old new : Heap T) (root root' : ℕ) (spent gained : List ℕ) (c n : ℕ)
    → EditsBy (by_hold root) old new root' spent gained c n → KeepsHeld (λ l. count l (root ∷ spent)) old new

-- an edit by a place keeps all below a link of which a hold is left and which doesn't reach the parent
abbrev pub PlaceEditsKeepApart : Type 0 → Type 0
PlaceEditsKeepApart T = (old new : Heap T) (parent index root' l : ℕ) (spent gained : List ℕ) (c n : ℕ) → EditsBy (by_place parent index) old new root' spent gained c n
    → count l spent < holds_at old l → ¬ Reaches (links_at old) l parent → KeepsBelow old new l

-- what keeps a path keeps the path with a row before it that has one owner
abbrev pub AlonePathsGoUp : Type 0 → Type 0
AlonePathsGoUp T = (h : Heap T) (x : ℕ) (path path' : List ℕ) → owners_at h x ≡ 1 → KeepsAlone h path path' → KeepsAlone h (x ∷ path) (x ∷ path')

-- what keeps a path once its first row is made one's own keeps the path as it was
abbrev pub OwnedPathsKeepAlone : Type 0 → Type 0
OwnedPathsKeepAlone T = (old mid : Heap T) (x own : ℕ) (rest path' : List ℕ) → IsGraph old → (own ≡ x) ↔ (owners_at old x ≡ 1) → owners_at mid own ≡ 1
    → ((k : ℕ) → owners_at mid k + one_at x k ≡ owners_at old k + (one_at own k + other_at x own * count k (links_at old x)))
    → (0 < length rest → HasLink (links_at old) x (slice_index rest 0)) → KeepsAlone mid (own ∷ rest) path' → KeepsAlone old (x ∷ rest) path'

-- a first row of a path that has one owner is the same row then
abbrev pub AloneStays : Type 0 → Type 0
AloneStays T = (h : Heap T) (x : ℕ) (path path' : List ℕ) → owners_at h x ≡ 1 → KeepsAlone h (x ∷ path) path' → slice_index path' 0 ≡ x

-- and one with more owners isn't
abbrev pub SharedGoes : Type 0 → Type 0
SharedGoes T = (h : Heap T) (x : ℕ) (path path' : List ℕ) → owners_at h x ≢ 1 → KeepsAlone h (x ∷ path) path' → slice_index path' 0 ≢ x
