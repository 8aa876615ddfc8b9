-- What a root stands for in a store of lists: a vector of cells.
use Rattle.std.specs.Prelude.{◌≡◌, ℕ, List, Option, Some, map, filter_map}
use Rattle.node_heap.specs.Forms.{value_of}
use Rattle.node_heap.specs.Heap.{Heap, row_at}
use Rattle.rrb_core.specs.Vector.{elements, IsGoodVector}

module _ {T : Type 0} where
  -- the value of the cell that a link names
  abbrev pub value_at : Heap T → ℕ → Option T
  value_at h l = value_of (row_at h l)

  -- the values of the cells of a vector
  abbrev pub list_at : Heap T → ℕ → List T
  list_at h l = filter_map (value_at h) (elements h l)

  -- the vector with this root is one of cells, which have these values
  pub record IsListOf (h : Heap T) (l : ℕ) (xs : List T) : Type 0 where
    pub good : IsGoodVector h l
    pub cells : map (value_at h) (elements h l) ≡ map Some xs
