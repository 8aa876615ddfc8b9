-- What a walk has still to list.
use Rattle.std.specs.Prelude.{◌≡◌, ℕ, ◌+◌, ◌*◌, List, [], ◌∷◌, ◌++◌, drop, length}
use Rattle.std.specs.List.{flat_map}
use Rattle.node_heap.specs.Links.{Links}
use Rattle.pool_order.specs.Order.{places, with_all_new}
use Rattle.pool_order.specs.declared.walk.Visit.{Visit}

-- the places of the links of the row that are left
abbrev pub below_visit : ℕ → Links → Visit ℕ → List ℕ
below_visit n L v = flat_map (places n L) (drop v.next (L v.link))

-- what the visits have still to list, the last visit first
unfoldable pub pending : ℕ → Links → List (Visit ℕ) → List ℕ
pending n L [] = []
pending n L (v ∷ vs) = pending n L vs ++ (below_visit n L v ++ v.link ∷ [])

-- how many steps the visits still take
unfoldable pub steps_left : ℕ → Links → List (Visit ℕ) → ℕ
steps_left n L [] = 0
steps_left n L (v ∷ vs) = steps_left n L vs + (2 * length (below_visit n L v) + 1)

-- the row of each visit is there
abbrev pub AreThere : (ℕ → Type 0) → List (Visit ℕ) → Type 0
AreThere Is [] = Unit {0}
AreThere Is (v ∷ vs) = Is v.link × AreThere Is vs

-- what is listed, with what is pending, comes to the whole
pub record IsWalk (n : ℕ) (L : Links) (Is : ℕ → Type 0) (seen whole : List ℕ) (stack : List (Visit ℕ)) : Type 0 where
  pub total : with_all_new seen (pending n L stack) ≡ whole
  pub live : AreThere Is stack
