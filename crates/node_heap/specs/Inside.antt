-- How a table lies: place 2i is slot i of the cells, and place 2i + 1 index i of the nodes.
use Rattle.std.specs.Prelude.{◌≡◌, ℕ, ◌+◌, ◌-◌, ◌<◌, ◌≤◌, List, [], ◌∷◌, length, map, Option, Some, None, is_some, count_by, slice_index_or}
use Rattle.node_heap.specs.Heap.{row_limit}
use Rattle.node_heap.specs.Links.{count}
use Rattle.node_heap.specs.Forms.{cell, node}
use Rattle.node_heap.specs.Layout.{Slot, Table}
use Rattle.node_heap.specs.Nodes.{SameBut, Node, Nodes, RoomsOf}
use Rattle.node_heap.specs.Small.{CellOf}
use Rattle.node_heap.specs.declared.row.Head.{Head}

-- the second list alone, with nothing between
abbrev pub spread : {X : Type 0} → List (Option X) → List (Option X)
spread [] = []
spread (y ∷ ys) = None ∷ y ∷ spread ys

-- the first list at the even places and the second at the odd ones
abbrev pub woven : {X : Type 0} → List (Option X) → List (Option X) → List (Option X)
woven [] ys = spread ys
woven (x ∷ xs) [] = x ∷ None ∷ woven xs []
woven (x ∷ xs) (y ∷ ys) = x ∷ y ∷ woven xs ys

-- these are the free slots, each once
pub record IsFree {X : Type 0} (slots : List (Option X)) (free : List ℕ) : Type 0 where
  pub vacant : (k : ℕ) → 0 < count k free → slice_index_or slots k None ≡ None
  pub inside : (k : ℕ) → 0 < count k free → k < length slots
  pub once : (k : ℕ) → count k free ≤ 1
  pub all_slots : count_by is_some slots + length free ≡ length slots

-- the value is in a slot that was free, or in a new one
pub record FillsSlot {X : Type 0} (old : List (Option X)) (free : List ℕ) (new : List (Option X)) (free' : List ℕ) (place : ℕ) (value : X) : Type 0 where
  pub was : slice_index_or old place None ≡ None
  pub now : slice_index_or new place None ≡ Some value
  pub others : SameBut old new place
  pub listed : IsFree new free'
  pub one : length new + length free ≡ length old + length free' + 1
  pub fewer : length free' ≡ length free - 1
  pub inside : place < length new

-- there is room for so many in all, of which the free slots are some
pub record Covers {X : Type 0} (slots : List (Option X)) (free : List ℕ) (capacity free_capacity total : ℕ) : Type 0 where
  pub listed : IsFree slots free
  pub short : length slots ≤ total
  pub room : total ≤ capacity
  pub free_room : total ≤ free_capacity

-- nodes of two kinds as one
abbrev pub nodes_of : RoomsOf Head → RoomsOf Head → ℕ → Nodes
nodes_of rows tries spares = record { slots = woven rows.slots tries.slots; spares = spares }

-- what is true of the fields of all nodes
pub record AreNodes (rows tries : RoomsOf Head) (number spares room : ℕ) : Type 0 where
  pub both_kinds : number ≡ count_by is_some rows.slots + count_by is_some tries.slots
  pub within : number + spares ≤ room
  pub of_rows : room ≤ rows.room
  pub of_tries : room ≤ tries.room
  pub few_rows : rows.room < row_limit
  pub few_tries : tries.room < row_limit

module _ {T : Type 0} where
  abbrev pub cell_slot : Option (CellOf T) → Option (Slot T)
  cell_slot None = None
  cell_slot (Some s) = Some (record { owners = s.owners; row = cell s.value })

  abbrev pub node_slot : Option Node → Option (Slot T)
  node_slot None = None
  node_slot (Some s) = Some (record { owners = s.owners; row = node s.head s.links })

  abbrev pub slots_of : List (Option (CellOf T)) → List (Option Node) → List (Option (Slot T))
  slots_of cells nodes = woven (map cell_slot cells) (map node_slot nodes)

  -- what contracts see of the fields
  abbrev pub table_of : List (Option (CellOf T)) → Nodes → ℕ → Table T
  table_of cells nodes spare_cells = record { slots = slots_of cells nodes.slots; spare_cells = spare_cells; spare_nodes = nodes.spares }

  -- what is true of the fields of each table
  pub record IsTable (cells : List (Option (CellOf T))) (free_cells : List ℕ) (cell_capacity free_cell_capacity spare_cells cell_room : ℕ) (nodes : Nodes) : Type 0 where
    pub of_cells : Covers cells free_cells cell_capacity free_cell_capacity cell_room
    pub within : count_by is_some cells + spare_cells ≤ cell_room
    pub few_cells : cell_room < row_limit
    pub few : count_by is_some cells + count_by is_some nodes.slots + (spare_cells + nodes.spares) < row_limit
