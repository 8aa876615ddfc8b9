use Rattle.std.proofs.Common.{sym, ◌∙◌, arith}
use Rattle.node_heap.proofs.Slots.{owners_at-slots}
use Rattle.node_heap.proofs.Owned.{owners-room}
use Rattle.node_heap.proofs.PairLemmas.{is-one, test-true}
use Rattle.node_heap.proofs.heap.Heap.has_one_owner.Goals as goal

pub has_one_owner-requires-clause-counted : goal.has_one_owner-requires-clause-counted
has_one_owner-requires-clause-counted g c = c.self.invariant.counted.places c.link.inside.place

pub has_one_owner-requires-clause-room : goal.has_one_owner-requires-clause-room
has_one_owner-requires-clause-room g c = omega (arith, owners-room c.self.invariant c.link.inside.place)

pub returns : goal.returns
returns g c =
    let exact = owners_at-slots c.self.inside.table.slots c.self.invariant.counted c.link.inside.place in
    rw (← c.self.view_is, ← c.link.view_is)
    (λ yes. sym exact ∙ is-one c.has_one_owner.result _ c.has_one_owner.ensures yes, λ one. c.has_one_owner.ensures ∙ test-true _ 1 (exact ∙ one))
