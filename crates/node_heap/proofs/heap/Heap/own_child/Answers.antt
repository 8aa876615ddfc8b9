use Rattle.std.proofs.Common.{◌≡◌, ◌-◌, [], length, get_or, refl, ap, sym, subst, ◌∙◌, arith}
use Rattle.node_heap.specs.Forms.{links_of}
use Rattle.node_heap.specs.Layout.{owners_in, slot_at, graph_of, SetsOwners}
use Rattle.node_heap.proofs.Dropped.{room-copied, drop-child}
use Rattle.node_heap.specs.InPlace.{child_at}
use Rattle.node_heap.proofs.Stored.{IsGraph-stored, row-seen, owners-seen}
use Rattle.node_heap.proofs.BuildLemmas.{Builds-refl}
use Rattle.node_heap.proofs.Edited.{count-at}
use Rattle.node_heap.proofs.EditLaws.{Changes-Builds}
use Rattle.node_heap.proofs.Rewritten.{child-read}
use Rattle.node_heap.proofs.Owned.{OwnsChild, OwnsChild-seen, OwnsCopy-child, owners-room, inside-copied, counted-child, total-child}
use Rattle.node_heap.proofs.PairLemmas.{is-one, not-one}
use Rattle.node_heap.proofs.heap.Heap.own_child.Given.{Over}
use Rattle.node_heap.proofs.heap.Heap.own_child.Goals as goal
use Rattle.node_heap.proofs.heap.Heap.own_child.Goals.{After-child_has_one_owner}

-- the child that was read stands at the index
child_is : (g : Over) (c : After-child_has_one_owner g) → c.child.inside.place ≡ child_at c.args.self.now c.args.parent c.args.index
child_is g c = child-read c.self.invariant.counted c.self.view_is c.parent.view_is _ _ _ _ c.links.ensures c.child.view_is c.index-links-index.is c.requires.index

pub returns-then-child_has_one_owner-clause-same : goal.returns-then-child_has_one_owner-clause-same
returns-then-child_has_one_owner-clause-same g c =
    let one = sym (owners-seen c.self.invariant.counted c.self.view_is refl) ∙ is-one c.child_has_one_owner.result _ c.child_has_one_owner.ensures c.if-child_has_one_owner.true in
    rw (← child_is g (goal.at.returns-then-child_has_one_owner-clause-same g c).After-child_has_one_owner) (λ _. one, λ _. sym c.child.view_is)

pub returns-then-child_has_one_owner-clause-sole : goal.returns-then-child_has_one_owner-clause-sole
returns-then-child_has_one_owner-clause-sole g c = sym (owners-seen c.self.invariant.counted c.self.view_is c.child.view_is) ∙ is-one c.child_has_one_owner.result _ c.child_has_one_owner.ensures c.if-child_has_one_owner.true

pub returns-then-child_has_one_owner-clause-changes : goal.returns-then-child_has_one_owner-clause-changes
returns-then-child_has_one_owner-clause-changes g c =
    let graph = rw c.self.view_is at (IsGraph-stored _ _ _ _ c.self.invariant) in
    Changes-Builds c.args.parent graph (λ k up one. one) (Builds-refl c.args.self.now [] 0 1 graph)

pub copied-place-requires-clause-room : goal.copied-place-requires-clause-room
copied-place-requires-clause-room g c = owners-room c.self.invariant

pub child_has_one_owner-requires-clause-room : goal.child_has_one_owner-requires-clause-room
child_has_one_owner-requires-clause-room g c = omega (arith, owners-room c.self.invariant c.child.inside.place)

pub child_has_one_owner-requires-clause-counted : goal.child_has_one_owner-requires-clause-counted
child_has_one_owner-requires-clause-counted g c = c.self.invariant.counted.places c.child.inside.place

pub child_has_one_owner-requires-clause-linked : goal.child_has_one_owner-requires-clause-linked
child_has_one_owner-requires-clause-linked g c =
    let counted = c.self.invariant.counted in
    let links = links_of (graph_of c.self.inside.table.slots c.parent.inside.place) in
    let row = row-seen counted c.self.view_is c.parent.view_is in
    let at = child-read counted c.self.view_is c.parent.view_is _ _ _ _ c.links.ensures c.child.view_is c.index-links-index.is c.requires.index ∙ ap (λ r. get_or (links_of r) c.args.index 0) row in
    omega (arith, count-at links c.args.index c.child.inside.place (omega (arith, c.requires.index, ap (λ r. length (links_of r)) row)) (sym at))

pub replace_link-requires-clause-room : goal.replace_link-requires-clause-room
replace_link-requires-clause-room g c = room-copied c.self.invariant c.copied-place.ensures.copies

pub replace_link-requires-clause-index : goal.replace_link-requires-clause-index
replace_link-requires-clause-index g c = inside-copied c.self.invariant.counted c.self.view_is c.parent.view_is c.copied-place.ensures.copies c.requires.sole c.requires.index

-- the child has an owner that is no place then
pub drop_owner-requires-clause-more : goal.drop_owner-requires-clause-more
drop_owner-requires-clause-more g c = (drop-child c.self.invariant.counted c.self.view_is c.parent.view_is c.copied-place.ensures.copies c.replace_link.ensures.rewrites c.requires.index (child_is g (goal.at.drop_owner-requires-clause-more g c).After-child_has_one_owner)).0

pub drop_owner-requires-clause-live : goal.drop_owner-requires-clause-live
drop_owner-requires-clause-live g c = (drop-child c.self.invariant.counted c.self.view_is c.parent.view_is c.copied-place.ensures.copies c.replace_link.ensures.rewrites c.requires.index (child_is g (goal.at.drop_owner-requires-clause-live g c).After-child_has_one_owner)).2

-- the copy stands in the child's place, and the child has an owner less
owns : (g : Over) (c : goal.After-drop_owner g) → OwnsChild c.self.inside.table.slots c.copied-place.new.table.slots c.replace_link.new.self.slots c.drop_owner.new.self.slots c.parent.inside.place c.args.index c.child.inside.place c.copied-place.result (owners_in (slot_at c.self.inside.table.slots c.child.inside.place) - 1)
owns g c =
    let copied = c.copied-place.ensures in
    let done = c.drop_owner.ensures in
    let number : owners_in (slot_at c.replace_link.new.self.slots c.child.inside.place) ≡ owners_in (slot_at c.self.inside.table.slots c.child.inside.place) = (drop-child c.self.invariant.counted c.self.view_is c.parent.view_is c.copied-place.ensures.copies c.replace_link.ensures.rewrites c.requires.index (child_is g (goal.at.returns g c).After-child_has_one_owner)).1 in
    let sets = subst (λ n. SetsOwners c.replace_link.new.self.slots c.drop_owner.new.self.slots c.child.inside.place (n - 1)) number done.sets in
    OwnsChild-seen c.self.invariant.counted c.self.view_is c.parent.view_is copied.copies copied.counted c.replace_link.ensures.rewrites sets done.rows refl (not-one c.child_has_one_owner.result _ c.child_has_one_owner.ensures c.if-child_has_one_owner.false) c.requires.sole c.requires.index (child_is g (goal.at.returns g c).After-child_has_one_owner)

pub invariant_of-self : goal.invariant_of-self
invariant_of-self g c =
    let stored = c.self.invariant in
    let copied = c.copied-place.ensures in
    let wrote = c.replace_link.ensures.room in
    let done = c.drop_owner.ensures.room in
    record {
      counted = counted-child stored.counted (owns g c);
      few = omega (arith, copied.spare_cells, copied.spare_nodes, copied.len, wrote.len, wrote.spare_cells, wrote.spare_nodes, done.len, done.spare_cells, done.spare_nodes, stored.few);
      few_holds = omega (arith, stored.few_holds, total-child stored.counted (owns g c));
      fits = c.saturating_add-self-inside.type_inv;
    }

pub returns : goal.returns
returns g c =
    let copied = c.copied-place.ensures in
    let wrote = c.replace_link.ensures.room in
    let done = c.drop_owner.ensures.room in
    rw (← child_is g (goal.at.returns g c).After-child_has_one_owner)
    (assumption (OwnsCopy-child c.self.invariant c.self.view_is c.parent.view_is (invariant_of-self g c) (owns g c) copied.cells copied.nodes (done.spare_cells ∙ wrote.spare_cells ∙ copied.spare_cells)
    (omega (arith, done.spare_nodes, wrote.spare_nodes, copied.spare_nodes)) c.saturating_add-self-inside.ensures))
