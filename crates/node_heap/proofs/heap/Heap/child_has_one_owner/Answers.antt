use Rattle.std.proofs.Common.{ap, sym, ◌∙◌, arith}
use Rattle.node_heap.specs.Links.{count}
use Rattle.node_heap.specs.Forms.{links_of}
use Rattle.node_heap.specs.Heap.{links_at}
use Rattle.node_heap.proofs.Slots.{owners_at-slots}
use Rattle.node_heap.proofs.Stored.{row-seen}
use Rattle.node_heap.proofs.Owned.{owners-room}
use Rattle.node_heap.proofs.PairLemmas.{is-one, test-true}
use Rattle.node_heap.proofs.heap.Heap.child_has_one_owner.Goals as goal

pub child_has_one_owner-requires-clause-linked : goal.child_has_one_owner-requires-clause-linked
child_has_one_owner-requires-clause-linked g c =
    let row = row-seen c.self.invariant.counted c.self.view_is c.parent.view_is in
    omega (arith, c.requires.linked, ap (λ k. count k (links_at c.args.self.now c.args.parent)) c.child.view_is, ap (λ r. count c.child.inside.place (links_of r)) row)

pub child_has_one_owner-requires-clause-counted : goal.child_has_one_owner-requires-clause-counted
child_has_one_owner-requires-clause-counted g c = c.self.invariant.counted.places c.child.inside.place

pub child_has_one_owner-requires-clause-room : goal.child_has_one_owner-requires-clause-room
child_has_one_owner-requires-clause-room g c = omega (arith, owners-room c.self.invariant c.child.inside.place)

pub returns : goal.returns
returns g c =
    let exact = owners_at-slots c.self.inside.table.slots c.self.invariant.counted c.child.inside.place in
    rw (← c.self.view_is, ← c.child.view_is)
    (λ yes. sym exact ∙ is-one c.child_has_one_owner.result _ c.child_has_one_owner.ensures yes, λ one. c.child_has_one_owner.ensures ∙ test-true _ 1 (exact ∙ one))
