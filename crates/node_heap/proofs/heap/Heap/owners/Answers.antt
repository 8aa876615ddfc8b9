use Rattle.std.proofs.Common.{◌∙◌, arith}
use Rattle.node_heap.proofs.Slots.{owners_at-slots}
use Rattle.node_heap.proofs.Owned.{owners-room}
use Rattle.node_heap.proofs.heap.Heap.owners.Goals as goal

pub owners-requires-clause-room : goal.owners-requires-clause-room
owners-requires-clause-room g c = omega (arith, owners-room c.self.invariant c.link.inside.place)

pub returns : goal.returns
returns g c =
    rw (← c.self.view_is, ← c.link.view_is)
    (c.owners.ensures ∙ owners_at-slots c.self.inside.table.slots c.self.invariant.counted c.link.inside.place)
