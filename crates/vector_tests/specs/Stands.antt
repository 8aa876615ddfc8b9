-- What stands at a root, whatever it holds: what one call of a test hands to the next.
use Rattle.std.specs.Prelude.{◌≡◌, ◌+◌, ◌<◌, ◌≤◌, ℕ, List, ◌∷◌, length}
use Rattle.std.specs.List.{All}
use Rattle.node_heap.specs.Heap.{Heap, links_at, holds_at, owners_at, hold_count}
use Rattle.node_heap.specs.Calls.{HasHolds}
use Rattle.node_heap.specs.InPlace.{child_at}
use Rattle.rrb_core.specs.Vector.{IsGoodVector}
use Rattle.same_value.specs.Cells.{IsLines}

module _ {T : Type 0} where
  -- what was a good vector is one
  abbrev pub KeepsVectors : Heap T → Heap T → Type 0
  KeepsVectors old new = (l : ℕ) → IsGoodVector old l → IsGoodVector new l

  -- what was a vector of cells is one
  abbrev pub KeepsLines : Heap T → Heap T → Type 0
  KeepsLines old new = (l : ℕ) → IsLines old l → IsLines new l

  -- the links are roots of vectors of cells, and the heap has no more holds than these
  pub record HasVectors (h : Heap T) (roots : List ℕ) : Type 0 where
    pub lines : All (IsLines h) roots
    pub few : hold_count h ≤ length roots

  -- what was made is given up again: each link is held as often as before, and each vector that is held is one still
  pub record GivesBack (old new : Heap T) : Type 0 where
    pub holds : (k : ℕ) → holds_at new k ≡ holds_at old k
    pub count : hold_count new ≡ hold_count old
    pub vectors : (l : ℕ) → 0 < holds_at old l → IsGoodVector old l → IsGoodVector new l

  -- a vector that is edited, one that is kept and cells, each with a hold of its own, and no more holds than these
  pub record IsEditing (h : Heap T) (root kept : ℕ) (cells : List ℕ) : Type 0 where
    pub good : IsGoodVector h root
    pub earlier : IsGoodVector h kept
    pub holds : HasHolds h (root ∷ kept ∷ cells)
    pub few : hold_count h ≤ 2 + length cells

  -- a vector that is the second link of a pair with one owner, a hold, and no more holds than this
  pub record IsPlaced (h : Heap T) (pair : ℕ) : Type 0 where
    pub sole : owners_at h pair ≡ 1
    pub held : 0 < holds_at h pair
    pub two : length (links_at h pair) ≡ 2
    pub good : IsGoodVector h (child_at h pair 1)
    pub few : hold_count h ≤ 1
