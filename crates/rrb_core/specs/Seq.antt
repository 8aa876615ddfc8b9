-- The elements of a vector and the fill rule, over forms, which are rows without their sums.
use Rattle.std.specs.Prelude.{◌≡◌, ℕ, zero, suc, ◌-◌, ◌^◌, ◌<◌, ◌≤◌, List, length, take, Option, Some, None}
use Rattle.std.specs.List.{All, flat_map}
use Rattle.node_heap.specs.Forms.{Form, Forms, Kind, cell, node, leaf, inner, trie, chain, pair, state, links_in}
use Rattle.node_heap.specs.declared.row.TheConstants.{MOST_HEIGHT}

-- an inner row states its height, and every other row has height 0
abbrev pub kind_height : Kind → ℕ
kind_height leaf = 0
kind_height (inner height) = height
kind_height (trie _ _ _) = 0
kind_height chain = 0
kind_height pair = 0
kind_height state = 0

module _ {K : Type 0} where
  abbrev pub form_height : Option (Form K) → ℕ
  form_height None = 0
  form_height (Some (cell _)) = 0
  form_height (Some (node kind _)) = kind_height kind

  -- the height of the row that a link names
  abbrev pub height_in : Forms K → ℕ → ℕ
  height_in F l = form_height (F l)

  -- the links of the elements below a row of this height, in order
  unfoldable pub seq_at : Forms K → ℕ → ℕ → List ℕ
  seq_at F zero l = links_in F l
  seq_at F (suc n) l = flat_map (seq_at F n) (links_in F l)

  -- the links of the elements of the vector with this root, in order
  abbrev pub seq : Forms K → ℕ → List ℕ
  seq F l = seq_at F (height_in F l) l

  -- a row of this height with at least 16 links, whose children are all thick too
  unfoldable pub IsThick : Forms K → ℕ → ℕ → Type 0
  IsThick F zero l = 16 ≤ length (links_in F l)
  IsThick F (suc n) l = (16 ≤ length (links_in F l)) × All (IsThick F n) (links_in F l)

  -- a leaf of at most 32 elements
  pub record IsWellLeaf (F : Forms K) (l : ℕ) : Type 0 where
    pub kind : F l ≡ Some (node leaf (links_in F l))
    pub most : length (links_in F l) ≤ 32

  -- an inner row over 1 to 32 children: all are well formed, all but the last are thick, and none is empty
  pub record IsWellInner (F : Forms K) (n l : ℕ) (IsWellChild IsThickChild : ℕ → Type 0) : Type 0 where
    pub kind : F l ≡ Some (node (inner (suc n)) (links_in F l))
    pub some : 1 ≤ length (links_in F l)
    pub most : length (links_in F l) ≤ 32
    pub children : All IsWellChild (links_in F l)
    pub thick : All IsThickChild (take (length (links_in F l) - 1) (links_in F l))
    pub not_empty : All (λ k. 1 ≤ length (links_in F k)) (links_in F l)

  -- a row of this height that keeps the fill rule
  unfoldable pub IsWell : Forms K → ℕ → ℕ → Type 0
  IsWell F zero l = IsWellLeaf F l
  IsWell F (suc n) l = IsWellInner F n l (IsWell F n) (IsThick F n)

  -- the root of a vector that keeps the fill rule: an inner root has two links or more
  pub record IsWellShaped (F : Forms K) (l : ℕ) : Type 0 where
    pub well : IsWell F (height_in F l) l
    pub two : 1 ≤ height_in F l → 2 ≤ length (links_in F l)
    pub short : length (seq F l) < 2 ^ 32
    pub low : height_in F l ≤ MOST_HEIGHT
