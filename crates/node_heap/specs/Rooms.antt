-- How nodes lie in their lists: index 2i is small slot i, and index 2i + 1 large slot i. A small slot may name a room apart.
use Rattle.std.specs.Prelude.{◌≡◌, ℕ, ◌+◌, ◌≤◌, List, [], map, Option, Some, None, IsSome, is_some, count_by, slice_index_or}
use Rattle.node_heap.specs.Nodes.{NodeOf}
use Rattle.node_heap.specs.Small.{Lies, here, moved, room_in}
use Rattle.node_heap.specs.Inside.{woven, Covers}

module _ {L : Type 0} where
  abbrev pub moved_head : L → Option (NodeOf L) → L
  moved_head unread None = unread
  moved_head unread (Some s) = s.head

  abbrev pub moved_links : Option (NodeOf L) → List ℕ
  moved_links None = []
  moved_links (Some s) = s.links

-- nodes in small slots, where this is what a small head stands for, and these are the rooms apart
module _ {S L : Type 0} (stands_for : S → L) (unread : L) (rooms : List (Option (NodeOf L))) where
  abbrev pub head_in : Lies S → L
  head_in (here head) = stands_for head
  head_in (moved room) = moved_head unread (slice_index_or rooms room None)

  abbrev pub links_in : Lies S → List ℕ → List ℕ
  links_in (here _) links = links
  links_in (moved room) _ = moved_links (slice_index_or rooms room None)

  abbrev pub small_node : Option (NodeOf (Lies S)) → Option (NodeOf L)
  small_node None = None
  small_node (Some s) = Some (record { owners = s.owners; head = head_in s.head; links = links_in s.head s.links })

-- what contracts see of the lists
abbrev pub nodes_in : {S L : Type 0} → (S → L) → L → List (Option (NodeOf (Lies S))) → List (Option (NodeOf L)) → List (Option (NodeOf L)) → List (Option (NodeOf L))
nodes_in stands_for unread small large rooms = woven (map (small_node stands_for unread rooms) small) large

-- each slot that names a place has it to itself, and no other place is in use
pub record Parts {S X : Type 0} (place_in : Option S → Option ℕ) (slots : List (Option S)) (places : List (Option X)) : Type 0 where
  pub used : count_by is_some places ≡ count_by (λ s. is_some (place_in s)) slots
  pub there : (i place : ℕ) → place_in (slice_index_or slots i None) ≡ Some place → IsSome (slice_index_or places place None)
  pub apart : (i j place : ℕ) → place_in (slice_index_or slots i None) ≡ Some place → place_in (slice_index_or slots j None) ≡ Some place → i ≡ j

-- what is true of the fields of all rooms
pub record AreRooms {S L : Type 0} (small : List (Option (NodeOf (Lies S)))) (free_small : List ℕ) (a b : ℕ) (large : List (Option (NodeOf L))) (free_large : List ℕ) (a' b' : ℕ) (rooms : List (Option (NodeOf L))) (free_rooms : List ℕ) (a'' b'' : ℕ) (room : ℕ) : Type 0 where
  pub of_small : Covers small free_small a b room
  pub of_large : Covers large free_large a' b' room
  pub of_rooms : Covers rooms free_rooms a'' b'' room
  pub within : count_by is_some small + count_by is_some large ≤ room
  pub parts : Parts room_in small rooms
