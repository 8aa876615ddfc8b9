-- Inside: the way of a code down a trie, and the rows of it with one owner each.
use Rattle.std.specs.Prelude.{◌≡◌, ℕ, zero, suc, ◌-◌, ◌<◌, ◌≤◌, List, length}
use Rattle.std.specs.declared.cmp.Ordering.{Ordering}
use Rattle.elem_core.specs.Codes.{digit_at}
use Rattle.elem_core.specs.declared.codes.TheConstants.{DEEPEST, LEVELS}
use Rattle.node_heap.specs.Forms.{Forms}
use Rattle.node_heap.specs.Heap.{Heap, form_at, links_at, owners_at}
use Rattle.node_heap.specs.InPlace.{child_at}
use Rattle.champ_chain.specs.Entry.{Entry}
use Rattle.champ_trie.specs.Trie.{IsRow, IsTrie}
use Rattle.champ_trie.specs.Reach.{agreeing}
use Rattle.edit_trie.specs.Spot.{IsSpot}
use Rattle.edit_trie.specs.declared.row.Spot.TheVariants.{Node}

module _ {T : Type 0} where
  -- the digit of a code leads from a row at a depth to the child at an index, which has one owner
  pub record StepsTo (h : Heap T) (depth row c i : ℕ) : Type 0 where
    pub spot : (d e n : ℕ) (ls : List ℕ) → IsRow (form_at h) row d e n ls → IsSpot e n (digit_at c depth) (Node i)
    pub inside : i < length (links_at h row)
    pub sole : owners_at h (child_at h row i) ≡ 1

  -- a code leads from a root to a row so many rows down, and each row on that way below the root has one owner
  unfoldable pub IsSoleWay : Heap T → ℕ → ℕ → ℕ → ℕ → Type 0
  IsSoleWay h root c zero row = root ≡ row
  IsSoleWay h root c (suc depth) row = (above i : ℕ) × IsSoleWay h root c depth above × StepsTo h depth above c i × (row ≡ child_at h above i)

-- the digits of a code lead to this row, below which all entries stand that agree with it so far, and to no lower row
pub record LeadsDown {K : Type 0} (cmp : K → K → Ordering) (code : K → ℕ) (F : Forms K) (E : List (Entry K)) (c depth row : ℕ) : Type 0 where
  pub deep : depth ≤ DEEPEST
  pub trie : IsTrie cmp code F (LEVELS - depth) depth row (agreeing code depth c E)
  pub lowest : (d e n i : ℕ) (ls : List ℕ) → IsRow F row d e n ls → IsSpot e n (digit_at c depth) (Node i) → depth ≡ DEEPEST
