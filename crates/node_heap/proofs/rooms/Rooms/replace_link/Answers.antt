use Rattle.std.proofs.Common.{◌/◌, ◌∙◌, refl, sym, ap, subst, length, arith, IsSome}
use Rattle.std.specs.Prelude.{slice_index, slice_set}
use Rattle.node_heap.specs.Nodes.{node_links}
use Rattle.node_heap.specs.Small.{room_in}
use Rattle.node_heap.proofs.Free.{found, value_in}
use Rattle.node_heap.proofs.Woven.{slot-inside}
use Rattle.node_heap.proofs.Housed.{live-small, live-large}
use Rattle.node_heap.proofs.Rooming.{linked-some}
use Rattle.node_heap.proofs.Lodging.{read-large, links-here, links-far, becomes-here, becomes-far, becomes-wide, linked-as, linked-here, linked-live, linked-room, says-here, AreRooms-wrote, AreRooms-wrote-large, AreRooms-wrote-room}
use Rattle.node_heap.proofs.rooms.Rooms.replace_link.Goals as goal

pub index_mut-requires : goal.index_mut-requires
index_mut-requires g c =
    let i = c.self.inside in
    omega (arith, slot-inside i.large.items (c.args.index / 2) (live-large g.S.SmallHead.stands_for g.S.SmallHead.unread i.small.items i.large.items i.moved.items c.args.index c.if-index-ne0.true (linked-some _ _ (rw (← c.self.view_is) at c.requires.position))), i.large.ok.0)

pub replace-requires : goal.replace-requires
replace-requires g c =
    let i = c.self.inside in
    let live = live-large g.S.SmallHead.stands_for g.S.SmallHead.unread i.small.items i.large.items i.moved.items c.args.index c.if-index-ne0.true (linked-some _ _ (rw (← c.self.view_is) at c.requires.position)) in
    let is = found i.large.items (c.args.index / 2) _ _ live c.index_mut.ensures.value in
    let some = subst IsSome is live in
    let inside = rw (← c.self.view_is) at c.requires.position in
    omega (arith, inside, ap length (ap node_links (read-large g.S.SmallHead.stands_for g.S.SmallHead.unread i.small.items i.large.items i.moved.items c.args.index c.if-index-ne0.true _ is)))

pub invariant_of-self : goal.invariant_of-self
invariant_of-self g c =
    let i = c.self.inside in
    let live = live-large g.S.SmallHead.stands_for g.S.SmallHead.unread i.small.items i.large.items i.moved.items c.args.index c.if-index-ne0.true (linked-some _ _ (rw (← c.self.view_is) at c.requires.position)) in
    let is = found i.large.items (c.args.index / 2) _ _ live c.index_mut.ensures.value in
    let some = subst IsSome is live in
    rw c.replace.ensures.links (AreRooms-wrote-large c.self.invariant (c.args.index / 2) _ _ is some (linked-live _ _ some))

pub returns-then-index-ne0-clause-old : goal.returns-then-index-ne0-clause-old
returns-then-index-ne0-clause-old g c =
    let i = c.self.inside in
    let live = live-large g.S.SmallHead.stands_for g.S.SmallHead.unread i.small.items i.large.items i.moved.items c.args.index c.if-index-ne0.true (linked-some _ _ (rw (← c.self.view_is) at c.requires.position)) in
    let is = found i.large.items (c.args.index / 2) _ _ live c.index_mut.ensures.value in
    let some = subst IsSome is live in
    rw (← c.self.view_is) (c.replace.ensures.old ∙ sym (ap (λ xs. slice_index (node_links xs) c.args.position) (read-large g.S.SmallHead.stands_for g.S.SmallHead.unread i.small.items i.large.items i.moved.items c.args.index c.if-index-ne0.true _ is)))

pub returns-then-index-ne0-clause-becomes : goal.returns-then-index-ne0-clause-becomes
returns-then-index-ne0-clause-becomes g c =
    let i = c.self.inside in
    let live = live-large g.S.SmallHead.stands_for g.S.SmallHead.unread i.small.items i.large.items i.moved.items c.args.index c.if-index-ne0.true (linked-some _ _ (rw (← c.self.view_is) at c.requires.position)) in
    let is = found i.large.items (c.args.index / 2) _ _ live c.index_mut.ensures.value in
    let some = subst IsSome is live in
    let x = value_in _ some in
    rw (← c.self.view_is) (becomes-wide g.S.SmallHead.stands_for g.S.SmallHead.unread i.small.items i.large.items i.moved.items c.args.index c.if-index-ne0.true _ is _ x.0 _ _ x.1 (linked-as _ _ (λ xs. slice_set xs c.args.position c.args.link) x.0 x.1 c.replace.ensures.links) refl)

pub index-requires : goal.index-requires
index-requires g c =
    let i = c.self.inside in
    omega (arith, slot-inside i.small.items (c.args.index / 2) (live-small g.S.SmallHead.stands_for g.S.SmallHead.unread i.small.items i.large.items i.moved.items c.args.index c.if-index-ne0.false (linked-some _ _ (rw (← c.self.view_is) at c.requires.position))), i.small.ok.0)

pub index_mut-requires-in-Some : goal.index_mut-requires-in-Some
index_mut-requires-in-Some g c =
    let i = c.self.inside in
    let live = live-small g.S.SmallHead.stands_for g.S.SmallHead.unread i.small.items i.large.items i.moved.items c.args.index c.if-index-ne0.false (linked-some _ _ (rw (← c.self.view_is) at c.requires.position)) in
    let is = found i.small.items (c.args.index / 2) _ _ live c.index.ensures in
    let there = c.self.invariant.parts.there (c.args.index / 2) c.in-Some.room (ap room_in is ∙ sym c.room.ensures ∙ c.in-Some.is) in
    omega (arith, slot-inside i.moved.items c.in-Some.room there, i.moved.ok.0)

pub replace-requires-in-Some : goal.replace-requires-in-Some
replace-requires-in-Some g c =
    let i = c.self.inside in
    let live = live-small g.S.SmallHead.stands_for g.S.SmallHead.unread i.small.items i.large.items i.moved.items c.args.index c.if-index-ne0.false (linked-some _ _ (rw (← c.self.view_is) at c.requires.position)) in
    let is = found i.small.items (c.args.index / 2) _ _ live c.index.ensures in
    let named = sym c.room.ensures ∙ c.in-Some.is in
    let there = c.self.invariant.parts.there (c.args.index / 2) c.in-Some.room (ap room_in is ∙ named) in
    let at = found i.moved.items c.in-Some.room _ _ there c.index_mut-in-Some.ensures.value in
    let some = subst IsSome at there in
    let inside = rw (← c.self.view_is) at c.requires.position in
    omega (arith, inside, ap length (links-far g.S.SmallHead.stands_for g.S.SmallHead.unread i.small.items i.large.items i.moved.items c.args.index c.if-index-ne0.false _ is c.in-Some.room named _ at some))

pub invariant_of-self-in-Some : goal.invariant_of-self-in-Some
invariant_of-self-in-Some g c =
    let i = c.self.inside in
    let live = live-small g.S.SmallHead.stands_for g.S.SmallHead.unread i.small.items i.large.items i.moved.items c.args.index c.if-index-ne0.false (linked-some _ _ (rw (← c.self.view_is) at c.requires.position)) in
    let is = found i.small.items (c.args.index / 2) _ _ live c.index.ensures in
    let named = sym c.room.ensures ∙ c.in-Some.is in
    let there = c.self.invariant.parts.there (c.args.index / 2) c.in-Some.room (ap room_in is ∙ named) in
    let at = found i.moved.items c.in-Some.room _ _ there c.index_mut-in-Some.ensures.value in
    let some = subst IsSome at there in
    rw c.replace-in-Some.ensures.links (AreRooms-wrote-room c.self.invariant c.in-Some.room _ _ at some (linked-live _ _ some))

pub returns-in-Some-clause-old : goal.returns-in-Some-clause-old
returns-in-Some-clause-old g c =
    let i = c.self.inside in
    let live = live-small g.S.SmallHead.stands_for g.S.SmallHead.unread i.small.items i.large.items i.moved.items c.args.index c.if-index-ne0.false (linked-some _ _ (rw (← c.self.view_is) at c.requires.position)) in
    let is = found i.small.items (c.args.index / 2) _ _ live c.index.ensures in
    let named = sym c.room.ensures ∙ c.in-Some.is in
    let there = c.self.invariant.parts.there (c.args.index / 2) c.in-Some.room (ap room_in is ∙ named) in
    let at = found i.moved.items c.in-Some.room _ _ there c.index_mut-in-Some.ensures.value in
    let some = subst IsSome at there in
    rw (← c.self.view_is) (c.replace-in-Some.ensures.old ∙ sym (ap (λ xs. slice_index xs c.args.position) (links-far g.S.SmallHead.stands_for g.S.SmallHead.unread i.small.items i.large.items i.moved.items c.args.index c.if-index-ne0.false _ is c.in-Some.room named _ at some)))

pub returns-in-Some-clause-becomes : goal.returns-in-Some-clause-becomes
returns-in-Some-clause-becomes g c =
    let i = c.self.inside in
    let live = live-small g.S.SmallHead.stands_for g.S.SmallHead.unread i.small.items i.large.items i.moved.items c.args.index c.if-index-ne0.false (linked-some _ _ (rw (← c.self.view_is) at c.requires.position)) in
    let is = found i.small.items (c.args.index / 2) _ _ live c.index.ensures in
    let named = sym c.room.ensures ∙ c.in-Some.is in
    let there = c.self.invariant.parts.there (c.args.index / 2) c.in-Some.room (ap room_in is ∙ named) in
    let at = found i.moved.items c.in-Some.room _ _ there c.index_mut-in-Some.ensures.value in
    let some = subst IsSome at there in
    let x = value_in _ some in
    rw (← c.self.view_is) (becomes-far g.S.SmallHead.stands_for g.S.SmallHead.unread i.small.items i.large.items i.moved.items c.args.index c.if-index-ne0.false _ is c.in-Some.room named _ at some _ x.0 _ _ c.self.invariant.parts x.1
    (linked-as _ _ (λ xs. slice_set xs c.args.position c.args.link) x.0 x.1 c.replace-in-Some.ensures.links) refl)

pub index_mut-requires-in-None : goal.index_mut-requires-in-None
index_mut-requires-in-None g c =
    let i = c.self.inside in
    omega (arith, slot-inside i.small.items (c.args.index / 2) (live-small g.S.SmallHead.stands_for g.S.SmallHead.unread i.small.items i.large.items i.moved.items c.args.index c.if-index-ne0.false (linked-some _ _ (rw (← c.self.view_is) at c.requires.position))), i.small.ok.0)

pub room-requires : goal.room-requires
room-requires g c = c.requires.memory

pub replace-requires-in-None : goal.replace-requires-in-None
replace-requires-in-None g c =
    let i = c.self.inside in
    let live = live-small g.S.SmallHead.stands_for g.S.SmallHead.unread i.small.items i.large.items i.moved.items c.args.index c.if-index-ne0.false (linked-some _ _ (rw (← c.self.view_is) at c.requires.position)) in
    let is = found i.small.items (c.args.index / 2) _ _ live c.index_mut-in-None.ensures.value in
    let none = ap room_in (sym is ∙ found i.small.items (c.args.index / 2) _ _ live c.index.ensures) ∙ sym c.room.ensures ∙ c.in-None.is in
    let some = subst IsSome is live in
    let inside = rw (← c.self.view_is) at c.requires.position in
    (c.requires.memory, (none, omega (arith, inside, ap length (links-here g.S.SmallHead.stands_for g.S.SmallHead.unread i.small.items i.large.items i.moved.items c.args.index c.if-index-ne0.false _ is none))))

pub invariant_of-self-in-None : goal.invariant_of-self-in-None
invariant_of-self-in-None g c =
    let i = c.self.inside in
    let live = live-small g.S.SmallHead.stands_for g.S.SmallHead.unread i.small.items i.large.items i.moved.items c.args.index c.if-index-ne0.false (linked-some _ _ (rw (← c.self.view_is) at c.requires.position)) in
    let is = found i.small.items (c.args.index / 2) _ _ live c.index_mut-in-None.ensures.value in
    let none = ap room_in (sym is ∙ found i.small.items (c.args.index / 2) _ _ live c.index.ensures) ∙ sym c.room.ensures ∙ c.in-None.is in
    let some = subst IsSome is live in
    rw c.replace-in-None.ensures.links (AreRooms-wrote c.self.invariant (c.args.index / 2) _ _ is some (linked-live _ _ some) (linked-room _ _))

pub returns-in-None-clause-old : goal.returns-in-None-clause-old
returns-in-None-clause-old g c =
    let i = c.self.inside in
    let live = live-small g.S.SmallHead.stands_for g.S.SmallHead.unread i.small.items i.large.items i.moved.items c.args.index c.if-index-ne0.false (linked-some _ _ (rw (← c.self.view_is) at c.requires.position)) in
    let is = found i.small.items (c.args.index / 2) _ _ live c.index_mut-in-None.ensures.value in
    let none = ap room_in (sym is ∙ found i.small.items (c.args.index / 2) _ _ live c.index.ensures) ∙ sym c.room.ensures ∙ c.in-None.is in
    let some = subst IsSome is live in
    rw (← c.self.view_is) (c.replace-in-None.ensures.old ∙ sym (ap (λ xs. slice_index xs c.args.position) (links-here g.S.SmallHead.stands_for g.S.SmallHead.unread i.small.items i.large.items i.moved.items c.args.index c.if-index-ne0.false _ is none)))

pub returns-in-None-clause-becomes : goal.returns-in-None-clause-becomes
returns-in-None-clause-becomes g c =
    let i = c.self.inside in
    let live = live-small g.S.SmallHead.stands_for g.S.SmallHead.unread i.small.items i.large.items i.moved.items c.args.index c.if-index-ne0.false (linked-some _ _ (rw (← c.self.view_is) at c.requires.position)) in
    let is = found i.small.items (c.args.index / 2) _ _ live c.index_mut-in-None.ensures.value in
    let none = ap room_in (sym is ∙ found i.small.items (c.args.index / 2) _ _ live c.index.ensures) ∙ sym c.room.ensures ∙ c.in-None.is in
    let some = subst IsSome is live in
    let h = says-here _ some none in
    rw (← c.self.view_is) (becomes-here g.S.SmallHead.stands_for g.S.SmallHead.unread i.small.items i.large.items i.moved.items c.args.index c.if-index-ne0.false _ is _ h.0 h.0 _ _ h.1 (c.replace-in-None.ensures.links ∙ linked-here _ _ h.0 h.1) refl)
