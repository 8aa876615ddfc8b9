-- What slots hold.
use Rattle.std.specs.Prelude.{ℕ, Option, Some, None}
use Rattle.node_heap.specs.Nodes.{NodeOf}

-- a cell and its owners
pub record CellOf (T : Type 0) : Type 0 where
  pub owners : ℕ
  pub value : T

module _ {T : Type 0} where
  -- the cell, where there is a value
  abbrev pub cell_seen : ℕ → Option T → Option (CellOf T)
  cell_seen owners None = None
  cell_seen owners (Some value) = Some (record { owners = owners; value = value })

  abbrev pub cell_owners : Option (CellOf T) → ℕ
  cell_owners None = 0
  cell_owners (Some c) = c.owners

  abbrev pub cell_value : Option (CellOf T) → Option T
  cell_value None = None
  cell_value (Some c) = Some c.value

  -- the same cell with so many owners
  abbrev pub cell_owned_by : ℕ → Option (CellOf T) → Option (CellOf T)
  cell_owned_by owners None = None
  cell_owned_by owners (Some c) = Some (record { owners = owners; value = c.value })

-- a head that lies in a small slot with its links, or the room apart where both lie
pub data Lies (S : Type 0) : Type 0 where
  here : S → Lies S
  moved : ℕ → Lies S

module _ {S : Type 0} where
  -- the room apart
  abbrev pub room_of : Lies S → Option ℕ
  room_of (here _) = None
  room_of (moved room) = Some room

  -- the room that the slot names
  abbrev pub room_in : Option (NodeOf (Lies S)) → Option ℕ
  room_in None = None
  room_in (Some s) = room_of s.head
