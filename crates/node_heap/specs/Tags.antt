-- What a tag says of a head, and how full heads lie apart.
use Rattle.std.specs.Prelude.{◌≡◌, ℕ, ◌≤◌, List, [], ◌∷◌, Option, Some, None, count_by, is_some, map, slice_index_or}
use Rattle.node_heap.specs.Nodes.{NodeOf, RoomsOf, Node}
use Rattle.node_heap.specs.Inside.{Covers}
use Rattle.node_heap.specs.Rooms.{Parts}
use Rattle.node_heap.specs.declared.row.Head.{Head}
use Rattle.node_heap.specs.declared.row.Head.TheVariants as lent_head
use Rattle.node_heap.specs.declared.tags.FewHead.{FewHead}
use Rattle.node_heap.specs.declared.tags.FewHead.TheVariants as few
use Rattle.node_heap.specs.declared.tags.Tag.{Tag}
use Rattle.node_heap.specs.declared.tags.Tag.TheVariants.{Leaf, Inner, Chain, Pair, State, Apart}

-- the head of a tag that says all of it
abbrev pub plain_head : Tag → Option Head
plain_head Leaf = Some lent_head.Leaf
plain_head (Inner height) = Some (lent_head.Inner height [])
plain_head Chain = Some lent_head.Chain
plain_head Pair = Some lent_head.Pair
plain_head State = Some lent_head.State
plain_head (Apart _) = None

-- the tag of a head that lies in a small slot
abbrev pub few_tag : FewHead → Tag
few_tag few.Chain = Chain
few_tag few.Pair = Pair
few_tag few.State = State

-- the heads that are lent
pub record AreHeads (leaf : Head) (inner : List Head) (chain pair state : Head) : Type 0 where
  pub is_leaf : leaf ≡ lent_head.Leaf
  pub are_inner : inner ≡ lent_head.Inner 0 [] ∷ lent_head.Inner 1 [] ∷ lent_head.Inner 2 [] ∷ lent_head.Inner 3 [] ∷ lent_head.Inner 4 [] ∷ lent_head.Inner 5 [] ∷ lent_head.Inner 6 [] ∷ lent_head.Inner 7 [] ∷ []
  pub is_chain : chain ≡ lent_head.Chain
  pub is_pair : pair ≡ lent_head.Pair
  pub is_state : state ≡ lent_head.State

-- where the full head lies
abbrev pub place_of : Tag → Option ℕ
place_of Leaf = None
place_of (Inner _) = None
place_of Chain = None
place_of Pair = None
place_of State = None
place_of (Apart place) = Some place

abbrev pub place_in : Option (NodeOf Tag) → Option ℕ
place_in None = None
place_in (Some n) = place_of n.head

abbrev pub head_or_leaf : Option Head → Head
head_or_leaf None = lent_head.Leaf
head_or_leaf (Some head) = head

module _ (heads : List (Option Head)) where
  abbrev pub head_by : Tag → Head
  head_by Leaf = lent_head.Leaf
  head_by (Inner height) = lent_head.Inner height []
  head_by Chain = lent_head.Chain
  head_by Pair = lent_head.Pair
  head_by State = lent_head.State
  head_by (Apart place) = head_or_leaf (slice_index_or heads place None)

  abbrev pub full_node : Option (NodeOf Tag) → Option Node
  full_node None = None
  full_node (Some n) = Some (record { owners = n.owners; head = head_by n.head; links = n.links })

-- what contracts see of nodes whose full heads lie apart
abbrev pub headed : RoomsOf Tag → List (Option Head) → RoomsOf Head
headed rooms heads = record { slots = map (full_node heads) rooms.slots; room = rooms.room }

-- what is true of the fields of these nodes
pub record IsHeaded (rooms : RoomsOf Tag) (heads : List (Option Head)) (free : List ℕ) (capacity free_capacity : ℕ) : Type 0 where
  pub of_heads : Covers heads free capacity free_capacity rooms.room
  pub parts : Parts place_in rooms.slots heads
  pub within : count_by is_some rooms.slots ≤ rooms.room
