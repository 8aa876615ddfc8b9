-- How nodes lie in their lists, and what becomes of them where one list is written.
use Rattle.std.proofs.Common.{◌≡◌, ◌≢◌, ℕ, ◌+◌, ◌/◌, ◌%◌, List, [], ◌∷◌, map, get_or, set, refl, sym, ap, subst, ◌∙◌, arith, Option, Some, None, IsSome, is_some, count_by}
use Rattle.std.proofs.lemmas.List.{map-set, length-map}
use Rattle.std.proofs.lemmas.List.Sums.{sum_by-cons}
use Rattle.node_heap.specs.Nodes.{SameBut, NodeOf, node_at}
use Rattle.node_heap.specs.Small.{Lies, here, moved, room_of, room_in}
use Rattle.node_heap.specs.Inside.{woven}
use Rattle.node_heap.specs.Rooms.{head_in, links_in, small_node, nodes_in}
use Rattle.node_heap.proofs.Counts.{get_or-map_default}
use Rattle.node_heap.proofs.Stored.{one_if_some}
use Rattle.node_heap.proofs.Woven.{even, odd, at-even, at-odd, sum-woven, set-even, set-odd, slot-inside}

-- what lies in its slot
pub lies-here : {S : Type 0} (h : Lies S) → room_of h ≡ None → (s : S) × (h ≡ here s)
lies-here (here s) is = (s, refl)
lies-here (moved room) is = absurd cc

pub lies-moved : {S : Type 0} (h : Lies S) (room : ℕ) → room_of h ≡ Some room → h ≡ moved room
lies-moved (here s) room is = absurd cc
lies-moved (moved k) room is = let same : k ≡ room = cc in rw same refl

module _ {S L : Type 0} (full : S → L) (unread : L) where
  some_small : (rooms : List (Option (NodeOf L))) (o : Option (NodeOf (Lies S))) → IsSome (small_node full unread rooms o) → IsSome o
  some_small rooms None live = cc
  some_small rooms (Some s) live = refl

  len-small : (rooms : List (Option (NodeOf L))) (small : List (Option (NodeOf (Lies S)))) → count_by is_some (map (small_node full unread rooms) small) ≡ count_by is_some small
  len-small rooms [] = refl
  len-small rooms (o ∷ os) =
      omega (arith, len-small rooms os, at_one o, sum_by-cons one_if_some (small_node full unread rooms o) (map (small_node full unread rooms) os), sum_by-cons one_if_some o os)
    where
      at_one : (o : Option (NodeOf (Lies S))) → one_if_some (small_node full unread rooms o) ≡ one_if_some o
      at_one None = refl
      at_one (Some s) = refl

  -- a node that lies in its slot
  pub here-node : (rooms : List (Option (NodeOf L))) (s : NodeOf (Lies S)) (h : S) → s.head ≡ here h → small_node full unread rooms (Some s) ≡ Some (record { owners = s.owners; head = full h; links = s.links })
  here-node rooms s h is = rw is refl

  -- a node in a room apart
  pub moved-node : (rooms : List (Option (NodeOf L))) (s : NodeOf (Lies S)) (room : ℕ) (x : NodeOf L) → room_of s.head ≡ Some room → get_or rooms room None ≡ Some x
      → small_node full unread rooms (Some s) ≡ Some (record { owners = s.owners; head = x.head; links = x.links })
  moved-node rooms s room x named is = rw (lies-moved s.head room named, is) refl

  -- a node that lies elsewhere is the same
  stays : (rooms rooms' : List (Option (NodeOf L))) (room : ℕ) (h : Lies S) (links : List ℕ) → SameBut rooms rooms' room → room_of h ≢ Some room
      → (head_in full unread rooms' h ≡ head_in full unread rooms h) × (links_in full unread rooms' h links ≡ links_in full unread rooms h links)
  stays rooms rooms' room (here s) links same other = (refl, refl)
  stays rooms rooms' room (moved k) links same other = let read = same k (λ is. other (ap Some is)) in (rw read refl, rw read refl)

  pub same-node : (rooms rooms' : List (Option (NodeOf L))) (room : ℕ) (o : Option (NodeOf (Lies S))) → SameBut rooms rooms' room → room_in o ≢ Some room → small_node full unread rooms' o ≡ small_node full unread rooms o
  same-node rooms rooms' room None same other = refl
  same-node rooms rooms' room (Some s) same other =
      let there = stays rooms rooms' room s.head s.links same other in
      rw (there.0, there.1) refl

  module _ (small : List (Option (NodeOf (Lies S)))) (large rooms : List (Option (NodeOf L))) where
    -- so many nodes
    pub len-nodes : count_by is_some (nodes_in full unread small large rooms) ≡ count_by is_some small + count_by is_some large
    len-nodes = omega (arith, sum-woven one_if_some refl (map (small_node full unread rooms) small) large, len-small rooms small)

    pub at-small : (index : ℕ) → index % 2 ≡ 0 → node_at (nodes_in full unread small large rooms) index ≡ small_node full unread rooms (get_or small (index / 2) None)
    at-small index e =
        ap (node_at (nodes_in full unread small large rooms)) (even index e) ∙ at-even (map (small_node full unread rooms) small) large (index / 2) ∙ get_or-map_default (small_node full unread rooms) small (index / 2) None

    pub at-large : (index : ℕ) → index % 2 ≢ 0 → node_at (nodes_in full unread small large rooms) index ≡ get_or large (index / 2) None
    at-large index e = ap (node_at (nodes_in full unread small large rooms)) (odd index e) ∙ at-odd (map (small_node full unread rooms) small) large (index / 2)

    pub live-small : (index : ℕ) → index % 2 ≡ 0 → IsSome (node_at (nodes_in full unread small large rooms) index) → IsSome (get_or small (index / 2) None)
    live-small index e live = some_small rooms _ (subst IsSome (at-small index e) live)

    pub live-large : (index : ℕ) → index % 2 ≢ 0 → IsSome (node_at (nodes_in full unread small large rooms) index) → IsSome (get_or large (index / 2) None)
    live-large index e live = subst IsSome (at-large index e) live

    pub read-small : (index : ℕ) (s : NodeOf (Lies S)) → index % 2 ≡ 0 → get_or small (index / 2) None ≡ Some s → node_at (nodes_in full unread small large rooms) index ≡ small_node full unread rooms (Some s)
    read-small index s e is = at-small index e ∙ ap (small_node full unread rooms) is

    -- a write in one list is one in both
    pub set-small : (index : ℕ) (o : Option (NodeOf (Lies S))) → index % 2 ≡ 0 → IsSome (get_or small (index / 2) None)
        → nodes_in full unread (set small (index / 2) o) large rooms ≡ set (nodes_in full unread small large rooms) index (small_node full unread rooms o)
    set-small index o e live =
        ap (λ xs. woven xs large) (map-set (small_node full unread rooms) small (index / 2) o)
        ∙ set-even _ large (index / 2) (small_node full unread rooms o) (omega (arith, slot-inside small (index / 2) live, length-map small (small_node full unread rooms)))
        ∙ ap (λ k. set (nodes_in full unread small large rooms) k (small_node full unread rooms o)) (sym (even index e))

    pub set-large : (index : ℕ) (o : Option (NodeOf L)) → index % 2 ≢ 0 → IsSome (get_or large (index / 2) None) → nodes_in full unread small (set large (index / 2) o) rooms ≡ set (nodes_in full unread small large rooms) index o
    set-large index o e live =
        set-odd (map (small_node full unread rooms) small) large (index / 2) o (slot-inside large (index / 2) live)
        ∙ ap (λ k. set (nodes_in full unread small large rooms) k o) (sym (odd index e))
