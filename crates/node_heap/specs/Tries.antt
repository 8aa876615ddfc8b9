-- How whole heads lie beside the rows of tries: that of index 2i at place i of the first list, and that of 2i + 1 at place i of the second.
use Rattle.std.specs.Prelude.{◌≡◌, ◌≢◌, ℕ, suc, ◌<◌, ◌≤◌, ◌/◌, ◌%◌, ◌==◌, if◌then◌else◌, List, [], ◌∷◌, length, Option, Some, None, IsSome, option_map, slice_index_or}
use Rattle.node_heap.specs.Nodes.{NodeOf, RoomsOf, Node, node_at}
use Rattle.node_heap.specs.Sets.{sets_said}
use Rattle.node_heap.specs.declared.row.Head.{Head}
use Rattle.node_heap.specs.declared.row.Head.TheVariants as lent_head
use Rattle.node_heap.specs.declared.sets.Sets.{Sets}

-- the head beside an index
abbrev pub head_beside : List Head → List Head → ℕ → Head
head_beside twigs forks index = if index % 2 == 0 then slice_index_or twigs (index / 2) lent_head.Leaf else slice_index_or forks (index / 2) lent_head.Leaf

-- the node with this head
abbrev pub with_head : Head → Option (NodeOf Sets) → Option Node
with_head head None = None
with_head head (Some n) = Some (record { owners = n.owners; head = head; links = n.links })

-- the nodes with the heads of their indices, from this one on
abbrev pub with_heads : (ℕ → Head) → ℕ → List (Option (NodeOf Sets)) → List (Option Node)
with_heads heads i [] = []
with_heads heads i (n ∷ ns) = with_head (heads i) n ∷ with_heads heads (suc i) ns

-- what contracts see of the fields
abbrev pub told : RoomsOf Sets → List Head → List Head → RoomsOf Head
told rooms twigs forks = record { slots = with_heads (head_beside twigs forks) 0 rooms.slots; room = rooms.room }

-- the sets of a node's head
abbrev pub sets_in : Option Node → Option Sets
sets_in n = option_map (λ (n : Node). sets_said n.head) n

-- what is true of the fields of these nodes
pub record AreTries (rooms : RoomsOf Sets) (twigs : List Head) (twig_capacity : ℕ) (forks : List Head) (fork_capacity : ℕ) : Type 0 where
  pub same : (index : ℕ) (n : NodeOf Sets) → node_at rooms.slots index ≡ Some n → n.head ≡ sets_said (head_beside twigs forks index)
  pub twig_inside : (index : ℕ) → index % 2 ≡ 0 → IsSome (node_at rooms.slots index) → index / 2 < length twigs
  pub fork_inside : (index : ℕ) → index % 2 ≢ 0 → IsSome (node_at rooms.slots index) → index / 2 < length forks
  pub twig_short : length twigs ≤ rooms.room
  pub fork_short : length forks ≤ rooms.room
  pub twig_room : rooms.room ≤ twig_capacity
  pub fork_room : rooms.room ≤ fork_capacity
