use Rattle.std.proofs.Common.{◌-◌, ◌<◌, refl, sym, ap, ◌∙◌, arith}
use Rattle.std.specs.Prelude.{sum_by}
use Rattle.node_heap.specs.Forms.{is_cell, is_node}
use Rattle.node_heap.specs.Layout.{places_at, owners_in, slot_at}
use Rattle.node_heap.proofs.Slots.{owners_at-slots, holds_at-slots, live-owned}
use Rattle.node_heap.proofs.Stored.{IsGraph-stored, Makes-stored}
use Rattle.node_heap.proofs.BuildLemmas.{Builds-refl, Builds-made}
use Rattle.node_heap.proofs.Copied.{other_at-other}
use Rattle.node_heap.proofs.Dropped.{drop-more, drop-live, drop-sets}
use Rattle.node_heap.proofs.Owned.{Owns, Owns-held, owners-room, counted-owned, holds-owned, total-owned, owners-owned, sole-owned, row-owned, fresh-owned, other-owned, extends-owned}
use Rattle.node_heap.proofs.PairLemmas.{is-one, not-one}
use Rattle.node_heap.proofs.heap.Heap.own.Given.{Over}
use Rattle.node_heap.proofs.heap.Heap.own.Goals as goal
use Rattle.node_heap.proofs.heap.Heap.own.Goals.{After-held_has_one_owner}

-- the owners of the row, of which one is no place
held : (g : Over) (c : After-held_has_one_owner g) → places_at c.self.inside.table.slots c.link.inside.place < owners_in (slot_at c.self.inside.table.slots c.link.inside.place)
held g c =
    let has = rw (← c.self.view_is, ← c.link.view_is) at c.requires.held in
    omega (arith, holds_at-slots c.self.inside.table.slots c.link.inside.place, has)

pub held_has_one_owner-requires-clause-live : goal.held_has_one_owner-requires-clause-live
held_has_one_owner-requires-clause-live g c =
    let has = rw (← c.self.view_is, ← c.link.view_is) at c.requires.held in
    live-owned (slot_at c.self.inside.table.slots c.link.inside.place) (omega (arith, holds_at-slots c.self.inside.table.slots c.link.inside.place, has))

pub held_has_one_owner-requires-clause-held : goal.held_has_one_owner-requires-clause-held
held_has_one_owner-requires-clause-held g c =
    let has = rw (← c.self.view_is, ← c.link.view_is) at c.requires.held in
    omega (arith, holds_at-slots c.self.inside.table.slots c.link.inside.place, has)

pub returns-then-held_has_one_owner-clause-same : goal.returns-then-held_has_one_owner-clause-same
returns-then-held_has_one_owner-clause-same g c =
    let one = is-one c.held_has_one_owner.result _ c.held_has_one_owner.ensures c.if-held_has_one_owner.true in
    (λ _. rw (← c.self.view_is, ← c.link.view_is) (sym (owners_at-slots c.self.inside.table.slots c.self.invariant.counted c.link.inside.place) ∙ one), λ _. c.link.view_is)

pub returns-then-held_has_one_owner-clause-sole : goal.returns-then-held_has_one_owner-clause-sole
returns-then-held_has_one_owner-clause-sole g c = rw (c.link.view_is) ((returns-then-held_has_one_owner-clause-same g c).0 c.link.view_is)

pub returns-then-held_has_one_owner-clause-builds : goal.returns-then-held_has_one_owner-clause-builds
returns-then-held_has_one_owner-clause-builds g c = rw c.link.view_is (Builds-refl _ _ 0 1 (rw (← c.self.view_is) (IsGraph-stored _ _ _ _ c.self.invariant)))

pub copied-place-requires-clause-room : goal.copied-place-requires-clause-room
copied-place-requires-clause-room g c = owners-room c.self.invariant

pub drop_owner-requires-clause-more : goal.drop_owner-requires-clause-more
drop_owner-requires-clause-more g c = drop-more c.self.invariant.counted c.copied-place.ensures.copies refl (held g (goal.at.drop_owner-requires-clause-more g c).After-held_has_one_owner)

pub drop_owner-requires-clause-live : goal.drop_owner-requires-clause-live
drop_owner-requires-clause-live g c = drop-live c.self.invariant.counted c.copied-place.ensures.copies refl (held g (goal.at.drop_owner-requires-clause-live g c).After-held_has_one_owner)

-- the copy is made, and the link has an owner less
owns : (g : Over) (c : goal.After-drop_owner g) → Owns c.self.inside.table.slots c.copied-place.new.table.slots c.drop_owner.new.self.slots c.link.inside.place c.copied-place.result (owners_in (slot_at c.self.inside.table.slots c.link.inside.place) - 1)
owns g c =
    let has = rw (← c.self.view_is, ← c.link.view_is) at c.requires.held in
    Owns-held c.self.inside.table.slots _ _ c.link.inside.place _ _ 0 0 0 c.copied-place.ensures.copies c.copied-place.ensures.counted (drop-sets c.self.invariant.counted c.copied-place.ensures.copies refl (held g (goal.at.returns g c).After-held_has_one_owner) c.drop_owner.ensures.sets) c.drop_owner.ensures.rows refl has
    (not-one c.held_has_one_owner.result _ c.held_has_one_owner.ensures c.if-held_has_one_owner.false)

pub invariant_of-self : goal.invariant_of-self
invariant_of-self g c =
    let stored = c.self.invariant in
    let copied = c.copied-place.ensures in
    let room = c.drop_owner.ensures.room in
    record {
      counted = counted-owned stored.counted (owns g c);
      few = omega (arith, copied.spare_cells, copied.spare_nodes, copied.len, room.len, room.spare_cells, room.spare_nodes, stored.few);
      few_holds = omega (arith, stored.few_holds, total-owned stored.counted (owns g c));
      fits = c.saturating_add-self-inside.type_inv;
    }

pub returns : goal.returns
returns g c =
    let slots = c.self.inside.table.slots in
    let stored = c.self.invariant in
    let counted = stored.counted in
    let o = owns g c in
    let copied = c.copied-place.ensures in
    let done = c.drop_owner.ensures in
    let other = other-owned counted o in
    let makes = Makes-stored slots c.drop_owner.new.self.slots _ _ c.self.inside.made _ _ c.saturating_add-self-inside.result 0 1 (omega (arith, ap (λ xs. sum_by is_cell xs) done.rows, copied.cells)) (ap (λ xs. sum_by is_node xs) done.rows ∙ copied.nodes) (omega (arith, done.room.spare_cells, copied.spare_cells)) (omega (arith, done.room.spare_nodes, copied.spare_nodes)) stored.fits c.saturating_add-self-inside.ensures in
    rw (← c.self.view_is, ← c.link.view_is)
    (record {
      same = (λ e. absurd (other (sym e)), λ one. absurd (not-one c.held_has_one_owner.result _ c.held_has_one_owner.ensures c.if-held_has_one_owner.false (owners_at-slots slots counted c.link.inside.place ∙ one)));
      row = row-owned counted o 0 0 0 0 0 0;
      sole = sole-owned counted o 0 0 0 0 0 0;
      fresh = λ _. fresh-owned counted o 0 0 0 0 0 0;
      owners = owners-owned counted o 0 0 0 0 0 0;
      builds = Builds-made (extends-owned counted o _ _ _ _ _ _ (IsGraph-stored _ _ _ _ stored)) (IsGraph-stored _ _ _ _ (invariant_of-self g c)) (holds-owned counted o) (total-owned counted o) makes;
      makes = rw (other_at-other c.link.inside.place _ other) makes;
    })
