-- What a small slot says.
use Rattle.std.specs.Prelude.{ℕ, List, [], length, take, Option, Some, None}
use Rattle.node_heap.specs.Nodes.{NodeOf}
use Rattle.node_heap.specs.Small.{Lies, here, moved}
use Rattle.node_heap.specs.declared.slot_kinds.Held.{Held}
use Rattle.node_heap.specs.declared.slot_kinds.Held.TheVariants.{Free, Here, Moved}

module _ {S : Type 0} {N : ℕ} where
  abbrev pub held_node : ℕ → Held S N → Option (NodeOf (Lies S))
  held_node owners Free = None
  held_node owners (Here len head links) = Some (record { owners = owners; head = here head; links = take len links })
  held_node owners (Moved room) = Some (record { owners = owners; head = moved room; links = [] })

  -- so many links count
  abbrev pub held_len : Held S N → ℕ
  held_len Free = 0
  held_len (Here len _ _) = len
  held_len (Moved _) = 0

  -- and for so many there is room
  abbrev pub held_room : Held S N → ℕ
  held_room Free = N
  held_room (Here _ _ links) = length links
  held_room (Moved _) = N

  abbrev pub held_links : Held S N → List ℕ
  held_links Free = []
  held_links (Here len _ links) = take len links
  held_links (Moved _) = []

  -- 1 where a node lies here, and else 0
  abbrev pub is_here : Held S N → ℕ
  is_here Free = 0
  is_here (Here _ _ _) = 1
  is_here (Moved _) = 0
