-- What a table sees of its nodes: a node at each index, and spares.
use Rattle.std.specs.Prelude.{◌≡◌, ◌≢◌, ℕ, List, [], Option, Some, None, option_map, slice_index_or, count_by, is_some}
use Rattle.node_heap.specs.declared.row.Head.{Head}

-- the lists are the same but at the place
abbrev pub SameBut : {X : Type 0} → List (Option X) → List (Option X) → ℕ → Type 0
SameBut old new place = (k : ℕ) → k ≢ place → slice_index_or new k None ≡ slice_index_or old k None

-- a node with its head, or with what stands for it
pub record NodeOf (H : Type 0) : Type 0 where
  pub owners : ℕ
  pub head : H
  pub links : List ℕ

pub record NodesOf (H : Type 0) : Type 0 where
  pub slots : List (Option (NodeOf H))
  pub spares : ℕ

-- nodes, and for how many in all there is room
pub record RoomsOf (H : Type 0) : Type 0 where
  pub slots : List (Option (NodeOf H))
  pub room : ℕ

abbrev pub Node : Type 0
Node = NodeOf Head

abbrev pub Nodes : Type 0
Nodes = NodesOf Head

module _ {H : Type 0} where
  abbrev pub node_at : List (Option (NodeOf H)) → ℕ → Option (NodeOf H)
  node_at slots index = slice_index_or slots index None

  abbrev pub node_owners : Option (NodeOf H) → ℕ
  node_owners None = 0
  node_owners (Some n) = n.owners

  abbrev pub node_head : Option (NodeOf H) → Option H
  node_head None = None
  node_head (Some n) = Some n.head

  abbrev pub node_links : Option (NodeOf H) → List ℕ
  node_links None = []
  node_links (Some n) = n.links

  -- the same node with so many owners
  abbrev pub owned_by : ℕ → Option (NodeOf H) → Option (NodeOf H)
  owned_by owners None = None
  owned_by owners (Some n) = Some (record { owners = owners; head = n.head; links = n.links })

  -- the same node with these links
  abbrev pub with_links : List ℕ → Option (NodeOf H) → Option (NodeOf H)
  with_links links None = None
  with_links links (Some n) = Some (record { owners = n.owners; head = n.head; links = links })

  -- the node at the index is changed by the function, and the others are the same
  pub record Becomes (old new : List (Option (NodeOf H))) (index : ℕ) (f : NodeOf H → NodeOf H) : Type 0 where
    pub here : node_at new index ≡ option_map f (node_at old index)
    pub others : SameBut old new index
    pub len : count_by is_some new ≡ count_by is_some old
