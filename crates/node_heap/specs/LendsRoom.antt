-- What rooms end as, where the owners of a node are lent.
use Rattle.std.specs.Prelude.{ℕ, slice_set}
use Rattle.std.specs.Borrow.{Lends, Fml, RattleType, MutBor, usize}
use Rattle.node_heap.specs.Nodes.{RoomsOf, node_at, owned_by}
use Rattle.node_heap.specs.declared.rooms.SmallHead as small_head
use Rattle.node_heap.specs.contracts.rooms.Rooms.{the_row}

module _ (S L N : RattleType) (g : small_head.Ghosts S.Denot L.Denot) (rooms : MutBor (RoomsOf L.Denot)) (index : ℕ) where
  -- the node at the index has as many owners as r says last
  abbrev pub LendsRoomOwners : MutBor ℕ → Fml
  LendsRoomOwners r = Lends (the_row S L N g) usize rooms r (λ n. record rooms.now { slots = slice_set rooms.now.slots index (owned_by n (node_at rooms.now.slots index)) })
