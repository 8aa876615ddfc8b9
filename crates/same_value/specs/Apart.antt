-- The rows of a trie that another trie doesn't share.
use Rattle.std.specs.Prelude.{ℕ, ◌+◌, ◌*◌, ◌<◌, ◌≤◌, List, length}
use Rattle.node_heap.specs.Links.{count}
use Rattle.node_heap.specs.Forms.{Forms}
use Rattle.champ_trie.specs.Walk.{ReachesRow}

module _ {K : Type 0} (F : Forms K) where
  -- the first root reaches this row through trie and chain rows, and the second doesn't
  abbrev pub IsApart : ℕ → ℕ → ℕ → Type 0
  IsApart a b l = ReachesRow F a l × (¬ ReachesRow F b l)

  -- every row that the first root reaches so and the second doesn't is among these
  abbrev pub HasApart : ℕ → ℕ → List ℕ → Type 0
  HasApart a b rows = (l : ℕ) → IsApart a b l → 0 < count l rows

  -- the steps from old to new are at most 204 for each of some different rows apart, and so many besides
  pub record Spends (a b old new spare : ℕ) : Type 0 where
    pub rows : List ℕ
    pub once : (l : ℕ) → count l rows ≤ 1
    pub apart : (l : ℕ) → 0 < count l rows → IsApart a b l
    pub few : new ≤ old + (204 * length rows + spare)
