-- Orders of small graphs.
use Rattle.std.specs.Prelude.{◌≡◌, ℕ, zero, suc, List, [], ◌∷◌, fold, slice_index_or}
use Rattle.node_heap.specs.Links.{Links}
use Rattle.pool_order.specs.Order.{order, listed}

-- the links of the rows from 0 on, one list a row
abbrev pub links_by_row : List (List ℕ) → Links
links_by_row rows l = slice_index_or rows l []

-- two rows over one row, below a fourth
abbrev pub diamond : Links
diamond = links_by_row ([] ∷ (0 ∷ []) ∷ (0 ∷ []) ∷ (1 ∷ 2 ∷ []) ∷ [])

-- each row has its own number less one in both places
abbrev pub doubled : Links
doubled zero = []
doubled (suc n) = n ∷ n ∷ []

pub record WorkedOrders : Type 0 where
  -- a shared row is listed once, at its first place
  pub shared : order 4 diamond (3 ∷ []) ≡ 0 ∷ 1 ∷ 2 ∷ 3 ∷ []
  -- the roots are taken in their order, and a root twice counts once
  pub turned : order 4 diamond (2 ∷ 1 ∷ 2 ∷ []) ≡ 0 ∷ 2 ∷ 1 ∷ []
  -- a row that no root reaches isn't listed
  pub unreached : order 4 diamond (1 ∷ []) ≡ 0 ∷ 1 ∷ []
  -- what a root reached is not listed again below the next
  pub later : order 4 diamond (0 ∷ 3 ∷ []) ≡ 0 ∷ 1 ∷ 2 ∷ 3 ∷ []
  pub none : order 4 diamond [] ≡ []
  -- 2^8 places of nine rows
  pub doubling : fold (listed 9 doubled) [] (8 ∷ []) ≡ 0 ∷ 1 ∷ 2 ∷ 3 ∷ 4 ∷ 5 ∷ 6 ∷ 7 ∷ 8 ∷ []
