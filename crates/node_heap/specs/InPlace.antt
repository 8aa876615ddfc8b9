-- What writes in place do: which rows they change, and which stay.
use Rattle.std.specs.Prelude.{◌≡◌, ◌≢◌, ℕ, ◌+◌, ◌<◌, ◌≤◌, List, [], ◌∷◌, ◌++◌, Option, None, IsSome, slice_index, ◌==◌, if◌then◌else◌}
use Rattle.node_heap.specs.Links.{Links, count, HasLink, Reaches}
use Rattle.node_heap.specs.Forms.{head_of, Tree, IsTree}
use Rattle.node_heap.specs.Heap.{Heap, row_at, form_at, links_at, holds_at, owners_at, live_count, one_at, IsGraph}
use Rattle.node_heap.specs.Calls.{AddsOwner, KeepsBelow, KeepsHeld, Unchanged, Makes, MakesJust, Builds, Releases, Gains, Trades}
use Rattle.node_heap.specs.declared.row.Head.{Head}

-- 0 at the link itself, and else 1
abbrev pub other_at : ℕ → ℕ → ℕ
other_at l k = if l == k then 0 else 1

-- a way down from one link to another on which no row is `first`
pub data ReachesAround (L : Links) (first : ℕ) : ℕ → ℕ → Type 0 where
  at_once : (l : ℕ) → l ≢ first → ReachesAround L first l l
  by_link : (l k m : ℕ) → l ≢ first → HasLink L l k → ReachesAround L first k m → ReachesAround L first l m

-- a way down from the first row on which each row below it has one owner: its place in the row above
pub data IsSolePath (owners : ℕ → ℕ) (L : Links) (first : ℕ) : ℕ → Type 0 where
  path_start : IsSolePath owners L first first
  path_then : (l k : ℕ) → IsSolePath owners L first l → HasLink L l k → owners k ≡ 1 → IsSolePath owners L first k

module _ {T : Type 0} where
  -- the link at an index of a row
  abbrev pub child_at : Heap T → ℕ → ℕ → ℕ
  child_at h parent index = slice_index (links_at h parent) index

  -- each row below the first, down to the last, has one owner: its place in the row above
  abbrev pub OwnsDown : Heap T → ℕ → ℕ → Type 0
  OwnsDown h first last = IsSolePath (owners_at h) (links_at h) first last

  -- the row has this head and these links now, and every other row is the same
  pub record Writes (old new : Heap T) (parent : ℕ) (head : Option Head) (links : List ℕ) : Type 0 where
    pub new_head : head_of (row_at new parent) ≡ head
    pub new_links : links_at new parent ≡ links
    pub others : (k : ℕ) → k ≢ parent → row_at new k ≡ row_at old k

  -- each row that a link with a hold left unspent reaches around the first row is the same
  pub record KeepsApart (first : ℕ) (spent : ℕ → ℕ) (old new : Heap T) : Type 0 where
    pub kept : (l m : ℕ) → spent l < holds_at old l → ReachesAround (links_at old) first l m → row_at new m ≡ row_at old m

  -- the first row and the rows above it stay, with the links that lead to them, and those with one owner have one still
  pub record KeepsPaths (first : ℕ) (old new : Heap T) : Type 0 where
    pub live : (k : ℕ) → Reaches (links_at old) k first → IsSome (row_at old k) → IsSome (row_at new k)
    pub links : (l k : ℕ) → HasLink (links_at old) l k → Reaches (links_at old) k first → HasLink (links_at new) l k
    pub soles : (k : ℕ) → Reaches (links_at old) k first → owners_at old k ≡ 1 → owners_at new k ≡ 1

  -- rows at the first row or below it were written or freed, and others came, with what was spent and gained for it
  pub record Changes (first : ℕ) (old new : Heap T) (spent gained : List ℕ) (c n : ℕ) : Type 0 where
    pub apart : KeepsApart first (λ l. count l spent) old new
    pub paths : KeepsPaths first old new
    pub trades : Trades old new spent gained c n

-- a held link that doesn't reach the first row of a path of rows with one owner each doesn't reach its last
abbrev pub PathsKeepOff : Type 0 → Type 0
PathsKeepOff T = (h : Heap T) (first last l : ℕ) → OwnsDown h first last → 0 < holds_at h l → ¬ Reaches (links_at h) l first → ¬ Reaches (links_at h) l last

-- no other hold reaches a row whose one owner is a hold
abbrev pub OwnRootsKeepOff : Type 0 → Type 0
OwnRootsKeepOff T = (h : Heap T) (first l : ℕ) → 0 < holds_at h first → owners_at h first ≡ 1 → one_at first l < holds_at h l → ¬ Reaches (links_at h) l first

-- a change below a path of rows with one owner each is a change at the path's first row
abbrev pub ChangesGoUp : Type 0 → Type 0
ChangesGoUp T = (old new : Heap T) (first last : ℕ) (spent gained : List ℕ) (c n : ℕ)
    → OwnsDown old first last → Changes last old new spent gained c n → Changes first old new spent gained c n

-- two changes at one row, of which the second spends some of what the first gained, are one change
abbrev pub ChangesFollow : Type 0 → Type 0
ChangesFollow T = (old mid new : Heap T) (first : ℕ) (between spent gained spent' gained' : List ℕ) (c n c' n' : ℕ)
    → Changes first old mid spent (between ++ gained) c n → Changes first mid new (between ++ spent') gained' c' n'
    → Changes first old new (spent ++ spent') (gained ++ gained') (c + c') (n + n')

-- what is built is a change at any row, where this row and those above it that have one owner have one still
abbrev pub BuildsAreChanges : Type 0 → Type 0
BuildsAreChanges T = (old new : Heap T) (first : ℕ) (spent gained : List ℕ) (c n : ℕ) → IsGraph old
    → ((k : ℕ) → Reaches (links_at old) k first → owners_at old k ≡ 1 → owners_at new k ≡ 1) → Builds old new spent gained c n → Changes first old new spent gained c n

-- and so is a hold more of a link that doesn't reach the row
abbrev pub HoldsAreChanges : Type 0 → Type 0
HoldsAreChanges T = (old new : Heap T) (first link : ℕ) → IsGraph old → AddsOwner old new link → Builds old new [] (link ∷ []) 0 0
    → ¬ Reaches (links_at old) link first → Changes first old new [] (link ∷ []) 0 0

-- and so is room that is made
abbrev pub RoomIsAChange : Type 0 → Type 0
RoomIsAChange T = (old new : Heap T) (first : ℕ) → IsGraph old → Unchanged old new → Changes first old new [] [] 0 0

-- a release of a link that doesn't reach a row is a change there
abbrev pub ReleasesAreChanges : Type 0 → Type 0
ReleasesAreChanges T = (old new : Heap T) (first link : ℕ) → IsGraph old → IsGraph new → Releases old new link
    → ¬ Reaches (links_at old) link first → Changes first old new (link ∷ []) [] 0 0

-- a way down to the row of a change, or to a row above it, stays
abbrev pub ChangesKeepWays : Type 0 → Type 0
ChangesKeepWays T = (old new : Heap T) (first x y : ℕ) (spent gained : List ℕ) (c n : ℕ)
    → Changes first old new spent gained c n → Reaches (links_at old) y first → Reaches (links_at old) x y → Reaches (links_at new) x y

-- and so does a path there of rows with one owner each
abbrev pub ChangesKeepPaths : Type 0 → Type 0
ChangesKeepPaths T = (old new : Heap T) (first x y : ℕ) (spent gained : List ℕ) (c n : ℕ)
    → Changes first old new spent gained c n → Reaches (links_at old) y first → OwnsDown old x y → OwnsDown new x y

-- a link of which a hold is left unspent keeps all below it through a change at a row that it doesn't reach
abbrev pub ChangesKeepRows : Type 0 → Type 0
ChangesKeepRows T = (old new : Heap T) (first l : ℕ) (spent gained : List ℕ) (c n : ℕ)
    → Changes first old new spent gained c n → count l spent < holds_at old l → ¬ Reaches (links_at old) l first → KeepsBelow old new l

-- and so it unfolds to the tree that it unfolded to
abbrev pub ChangesKeepTrees : Type 0 → Type 0
ChangesKeepTrees T = (old new : Heap T) (first l : ℕ) (t : Tree T) (spent gained : List ℕ) (c n : ℕ)
    → Changes first old new spent gained c n → count l spent < holds_at old l → ¬ Reaches (links_at old) l first → IsTree (form_at old) l t → IsTree (form_at new) l t

-- a change keeps each row above its own that a link with a hold left reaches
abbrev pub ChangesKeepAbove : Type 0 → Type 0
ChangesKeepAbove T = (old new : Heap T) (first l m : ℕ) (spent gained : List ℕ) (c n : ℕ) → IsGraph old → Changes first old new spent gained c n
    → count l spent < holds_at old l → Reaches (links_at old) l m → Reaches (links_at old) m first → m ≢ first → row_at new m ≡ row_at old m

-- a change at a child with one owner keeps all below another child of its parent, which a link with a hold left reaches
abbrev pub ChangesKeepSiblings : Type 0 → Type 0
ChangesKeepSiblings T = (old new : Heap T) (parent child other l : ℕ) (spent gained : List ℕ) (c n : ℕ) → IsGraph old
    → owners_at old child ≡ 1 → HasLink (links_at old) parent child → HasLink (links_at old) parent other → other ≢ child
    → Changes child old new spent gained c n → count l spent < holds_at old l → Reaches (links_at old) l parent → KeepsBelow old new other

-- a change at a row whose one owner is a hold keeps all that is held beside it
abbrev pub OwnChangesKeepHeld : Type 0 → Type 0
OwnChangesKeepHeld T = (old new : Heap T) (first : ℕ) (spent gained : List ℕ) (c n : ℕ) → 0 < holds_at old first → owners_at old first ≡ 1
    → Changes first old new spent gained c n → KeepsHeld (λ l. count l (first ∷ spent)) old new

-- where the rows that were there keep their owners, a new row leads to such of them alone as lie below what was spent
abbrev pub NewRowsReachSpent : Type 0 → Type 0
NewRowsReachSpent T = (old new : Heap T) (spent gained : List ℕ) (c n l m : ℕ) → ((k : ℕ) → IsSome (row_at old k) → owners_at new k ≡ owners_at old k) → Builds old new spent gained c n
    → row_at old l ≡ None → IsSome (row_at old m) → Reaches (links_at new) l m → (s : ℕ) × (0 < count s spent) × Reaches (links_at old) s m

-- a release of a link without links frees no other row
abbrev pub LeafReleasesKeepOthers : Type 0 → Type 0
LeafReleasesKeepOthers T = (old new : Heap T) (link : ℕ) → IsGraph old → links_at old link ≡ [] → Releases old new link → (k : ℕ) → k ≢ link → row_at new k ≡ row_at old k

-- and so it frees one row at most
abbrev pub LeafReleasesFreeOne : Type 0 → Type 0
LeafReleasesFreeOne T = (old new : Heap T) (link : ℕ) → IsGraph old → links_at old link ≡ [] → Releases old new link → live_count old ≤ live_count new + 1

-- steps that free no row, and make each of a spare, are one such step
abbrev pub GainsFollow : Type 0 → Type 0
GainsFollow T = (old mid new : Heap T) → Gains old mid → Gains mid new → Gains old new

-- what is built is such a step
abbrev pub BuildsGain : Type 0 → Type 0
BuildsGain T = (old new : Heap T) (spent gained : List ℕ) (c n : ℕ) → Builds old new spent gained c n → Gains old new

-- and so is a change that leaves every other row and makes just these rows
abbrev pub WritesGain : Type 0 → Type 0
WritesGain T = (old new : Heap T) (first : ℕ) (spent gained : List ℕ) (c n cells nodes : ℕ) → Changes first old new spent gained c n
    → ((k : ℕ) → k ≢ first → IsSome (row_at old k) → row_at new k ≡ row_at old k) → Makes old new cells nodes → Gains old new

-- then the number made rises by just what the rows gain
abbrev pub GainsMakeJust : Type 0 → Type 0
GainsMakeJust T = (old new : Heap T) → Gains old new → MakesJust old new
