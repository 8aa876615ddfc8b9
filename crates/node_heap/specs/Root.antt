-- What making a root its owner's own makes of the heap, and what an edit from there down is to the owner.
use Rattle.std.specs.Prelude.{◌≡◌, ◌≢◌, ◌↔◌, ℕ, ◌+◌, ◌*◌, ◌<◌, ◌≤◌, List, [], ◌∷◌, ◌++◌, length, None, IsSome}
use Rattle.node_heap.specs.Links.{count, Reaches}
use Rattle.node_heap.specs.Heap.{Heap, row_at, links_at, holds_at, owners_at, live_count, hold_count, one_at, IsGraph}
use Rattle.node_heap.specs.Calls.{KeepsBelow, HasHolds}
use Rattle.node_heap.specs.InPlace.{child_at, other_at, OwnsDown, Changes}
use Rattle.node_heap.specs.Owner.{Owner, by_hold, by_place, owned, held_by, with_root, EditsBy}

module _ {T : Type 0} where
  -- there is such an owner, and a row over the root has one owner itself
  abbrev pub CanOwn : Heap T → Owner → Type 0
  CanOwn h (by_hold root) = 0 < holds_at h root
  CanOwn h (by_place parent index) = (index < length (links_at h parent)) × (owners_at h parent ≡ 1)

  -- a link doesn't reach the row over the root
  abbrev pub IsApart : Heap T → Owner → ℕ → Type 0
  IsApart h (by_hold root) l = Unit {0}
  IsApart h (by_place parent index) l = ¬ Reaches (links_at h) l parent

  -- a change at the root is one at the row over it, where the root stands then
  abbrev pub ChangesUp : Owner → Heap T → Heap T → ℕ → List ℕ → List ℕ → ℕ → ℕ → Type 0
  ChangesUp (by_hold root) old new r spent gained c n = Unit {0}
  ChangesUp (by_place parent index) old new r spent gained c n = Changes parent old new spent gained c n × (child_at new parent index ≡ r)

  -- the row over the root owns this link
  abbrev pub OwnsBy : Owner → Heap T → ℕ → Type 0
  OwnsBy (by_hold root) h l = Unit {0}
  OwnsBy (by_place parent index) h l = OwnsDown h parent l

  -- the root is this row now, with one owner, and all below it stays. A change at it later is an edit by the owner (`edits`), and one
  -- at the row over it (`up`), which owns what the root owns then (`down`). What the owner held beside the root and could hand in is
  -- held still, and the root doesn't reach it (`beside`)
  pub record OwnsRoot (owner : Owner) (old new : Heap T) (r : ℕ) : Type 0 where
    pub before : IsGraph old
    pub graph : IsGraph new
    pub below : KeepsBelow old new (owned old owner)
    pub row_same : row_at new r ≡ row_at old (owned old owner)
    pub same : (r ≡ owned old owner) ↔ (owners_at old (owned old owner) ≡ 1)
    pub sole : owners_at new r ≡ 1
    pub fresh : r ≢ owned old owner → row_at old r ≡ None
    pub owners : (k : ℕ) → owners_at new k + one_at (owned old owner) k ≡ owners_at old k + (one_at r k + other_at (owned old owner) r * count k (links_at old (owned old owner)))
    pub came : live_count new ≡ live_count old + other_at (owned old owner) r
    pub live : (m : ℕ) → IsSome (row_at old m) → IsSome (row_at new m)
    pub kept : (m : ℕ) → m ≢ r → IsSome (row_at old m) → row_at new m ≡ with_root owner r m (row_at old m)
    pub edits : (later : Heap T) (spent gained : List ℕ) (c n : ℕ) → Changes r new later spent gained c n → EditsBy owner old later r spent gained c (1 + n)
    pub total : hold_count new ≡ hold_count old
    pub held : HasHolds new (held_by owner r)
    pub beside : (l : ℕ) → HasHolds old (held_by owner (owned old owner) ++ l ∷ []) → IsApart old owner l → (0 < holds_at new l) × (¬ Reaches (links_at new) l r) × IsApart new owner l
    pub up : (later : Heap T) (spent gained : List ℕ) (c n m : ℕ) → 1 + n ≤ m → Changes r new later spent gained c n → ((l : ℕ) → 0 < count l spent → IsApart new owner l) → ChangesUp owner old later r spent gained c m
    pub down : (later : Heap T) (spent gained : List ℕ) (c n : ℕ) → Changes r new later spent gained c n → ((l : ℕ) → 0 < count l spent → IsApart new owner l) → (l : ℕ) → OwnsDown later r l → OwnsBy owner later l
