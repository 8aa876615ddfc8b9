use Rattle.std.proofs.Common.{◌/◌, ◌∙◌, Option, refl, sym, ap, subst, arith, IsSome}
use Rattle.node_heap.specs.Nodes.{NodeOf, node_owners, node_links}
use Rattle.node_heap.specs.Small.{room_in}
use Rattle.node_heap.proofs.Free.{found, value_in}
use Rattle.node_heap.proofs.Woven.{slot-inside}
use Rattle.node_heap.proofs.Housed.{live-small, live-large}
use Rattle.node_heap.proofs.Lodging.{becomes-here, becomes-far, becomes-wide, says-here, becomes-as, keeps-links, AreRooms-wrote, AreRooms-wrote-large, AreRooms-wrote-room}
use Rattle.node_heap.proofs.rooms.Rooms.set_head.Goals as goal

pub index_mut-requires : goal.index_mut-requires
index_mut-requires g c =
    let i = c.self.inside in
    omega (arith, slot-inside i.large.items (c.args.index / 2) (live-large g.S.SmallHead.stands_for g.S.SmallHead.unread i.small.items i.large.items i.moved.items c.args.index c.if-index-ne0.true (rw (← c.self.view_is) at c.requires.live)), i.large.ok.0)

pub set_head-requires : goal.set_head-requires
set_head-requires g c =
    let i = c.self.inside in
    let live = live-large g.S.SmallHead.stands_for g.S.SmallHead.unread i.small.items i.large.items i.moved.items c.args.index c.if-index-ne0.true (rw (← c.self.view_is) at c.requires.live) in
    let is = found i.large.items (c.args.index / 2) _ _ live c.index_mut.ensures.value in
    let some = subst IsSome is live in
    some

pub invariant_of-self : goal.invariant_of-self
invariant_of-self g c =
    let i = c.self.inside in
    let live = live-large g.S.SmallHead.stands_for g.S.SmallHead.unread i.small.items i.large.items i.moved.items c.args.index c.if-index-ne0.true (rw (← c.self.view_is) at c.requires.live) in
    let is = found i.large.items (c.args.index / 2) _ _ live c.index_mut.ensures.value in
    let some = subst IsSome is live in
    AreRooms-wrote-large c.self.invariant (c.args.index / 2) _ _ is some (rw c.set_head.ensures refl)

pub returns-then-index-ne0-clause-becomes : goal.returns-then-index-ne0-clause-becomes
returns-then-index-ne0-clause-becomes g c =
    let i = c.self.inside in
    let live = live-large g.S.SmallHead.stands_for g.S.SmallHead.unread i.small.items i.large.items i.moved.items c.args.index c.if-index-ne0.true (rw (← c.self.view_is) at c.requires.live) in
    let is = found i.large.items (c.args.index / 2) _ _ live c.index_mut.ensures.value in
    let some = subst IsSome is live in
    let x = value_in _ some in
    rw (← c.self.view_is) (becomes-wide g.S.SmallHead.stands_for g.S.SmallHead.unread i.small.items i.large.items i.moved.items c.args.index c.if-index-ne0.true _ is _ x.0 _ _ x.1 c.set_head.ensures (ap (λ (o : Option (NodeOf g.row.L.Denot)). record { owners = node_owners o; head = c.args.head; links = node_links o }) x.1))

pub index-requires : goal.index-requires
index-requires g c =
    let i = c.self.inside in
    omega (arith, slot-inside i.small.items (c.args.index / 2) (live-small g.S.SmallHead.stands_for g.S.SmallHead.unread i.small.items i.large.items i.moved.items c.args.index c.if-index-ne0.false (rw (← c.self.view_is) at c.requires.live)), i.small.ok.0)

pub index_mut-requires-in-Some : goal.index_mut-requires-in-Some
index_mut-requires-in-Some g c =
    let i = c.self.inside in
    let live = live-small g.S.SmallHead.stands_for g.S.SmallHead.unread i.small.items i.large.items i.moved.items c.args.index c.if-index-ne0.false (rw (← c.self.view_is) at c.requires.live) in
    let is = found i.small.items (c.args.index / 2) _ _ live c.index.ensures in
    let there = c.self.invariant.parts.there (c.args.index / 2) c.in-Some.room (ap room_in is ∙ sym c.room.ensures ∙ c.in-Some.is) in
    omega (arith, slot-inside i.moved.items c.in-Some.room there, i.moved.ok.0)

pub set_head-requires-in-Some : goal.set_head-requires-in-Some
set_head-requires-in-Some g c =
    let i = c.self.inside in
    let live = live-small g.S.SmallHead.stands_for g.S.SmallHead.unread i.small.items i.large.items i.moved.items c.args.index c.if-index-ne0.false (rw (← c.self.view_is) at c.requires.live) in
    let is = found i.small.items (c.args.index / 2) _ _ live c.index.ensures in
    let named = sym c.room.ensures ∙ c.in-Some.is in
    let there = c.self.invariant.parts.there (c.args.index / 2) c.in-Some.room (ap room_in is ∙ named) in
    let at = found i.moved.items c.in-Some.room _ _ there c.index_mut-in-Some.ensures.value in
    let some = subst IsSome at there in
    some

pub invariant_of-self-in-Some : goal.invariant_of-self-in-Some
invariant_of-self-in-Some g c =
    let i = c.self.inside in
    let live = live-small g.S.SmallHead.stands_for g.S.SmallHead.unread i.small.items i.large.items i.moved.items c.args.index c.if-index-ne0.false (rw (← c.self.view_is) at c.requires.live) in
    let is = found i.small.items (c.args.index / 2) _ _ live c.index.ensures in
    let named = sym c.room.ensures ∙ c.in-Some.is in
    let there = c.self.invariant.parts.there (c.args.index / 2) c.in-Some.room (ap room_in is ∙ named) in
    let at = found i.moved.items c.in-Some.room _ _ there c.index_mut-in-Some.ensures.value in
    let some = subst IsSome at there in
    AreRooms-wrote-room c.self.invariant c.in-Some.room _ _ at some (rw c.set_head-in-Some.ensures refl)

pub returns-in-Some-clause-becomes : goal.returns-in-Some-clause-becomes
returns-in-Some-clause-becomes g c =
    let i = c.self.inside in
    let live = live-small g.S.SmallHead.stands_for g.S.SmallHead.unread i.small.items i.large.items i.moved.items c.args.index c.if-index-ne0.false (rw (← c.self.view_is) at c.requires.live) in
    let is = found i.small.items (c.args.index / 2) _ _ live c.index.ensures in
    let named = sym c.room.ensures ∙ c.in-Some.is in
    let there = c.self.invariant.parts.there (c.args.index / 2) c.in-Some.room (ap room_in is ∙ named) in
    let at = found i.moved.items c.in-Some.room _ _ there c.index_mut-in-Some.ensures.value in
    let some = subst IsSome at there in
    let x = value_in _ some in
    rw (← c.self.view_is) (becomes-far g.S.SmallHead.stands_for g.S.SmallHead.unread i.small.items i.large.items i.moved.items c.args.index c.if-index-ne0.false _ is c.in-Some.room named _ at some _ x.0 _ _ c.self.invariant.parts x.1 c.set_head-in-Some.ensures (ap (λ (o : Option (NodeOf g.row.L.Denot)). record { owners = node_owners c.index.result.now; head = c.args.head; links = node_links o }) x.1))

pub index_mut-requires-in-Some-fit : goal.index_mut-requires-in-Some-fit
index_mut-requires-in-Some-fit g c =
    let i = c.self.inside in
    omega (arith, slot-inside i.small.items (c.args.index / 2) (live-small g.S.SmallHead.stands_for g.S.SmallHead.unread i.small.items i.large.items i.moved.items c.args.index c.if-index-ne0.false (rw (← c.self.view_is) at c.requires.live)), i.small.ok.0)

pub room-requires : goal.room-requires
room-requires g c = c.requires.memory

pub set_head-requires-in-Some-fit : goal.set_head-requires-in-Some-fit
set_head-requires-in-Some-fit g c =
    let i = c.self.inside in
    let live = live-small g.S.SmallHead.stands_for g.S.SmallHead.unread i.small.items i.large.items i.moved.items c.args.index c.if-index-ne0.false (rw (← c.self.view_is) at c.requires.live) in
    let is = found i.small.items (c.args.index / 2) _ _ live c.index_mut-in-Some-fit.ensures.value in
    let none = ap room_in (sym is ∙ found i.small.items (c.args.index / 2) _ _ live c.index.ensures) ∙ sym c.room.ensures ∙ c.in-None.is in
    let some = subst IsSome is live in
    (c.requires.memory, (some, none))

pub invariant_of-self-in-Some-fit : goal.invariant_of-self-in-Some-fit
invariant_of-self-in-Some-fit g c =
    let i = c.self.inside in
    let live = live-small g.S.SmallHead.stands_for g.S.SmallHead.unread i.small.items i.large.items i.moved.items c.args.index c.if-index-ne0.false (rw (← c.self.view_is) at c.requires.live) in
    let is = found i.small.items (c.args.index / 2) _ _ live c.index_mut-in-Some-fit.ensures.value in
    let none = ap room_in (sym is ∙ found i.small.items (c.args.index / 2) _ _ live c.index.ensures) ∙ sym c.room.ensures ∙ c.in-None.is in
    let some = subst IsSome is live in
    AreRooms-wrote c.self.invariant (c.args.index / 2) _ _ is some (rw c.set_head-in-Some-fit.ensures refl) (rw (c.set_head-in-Some-fit.ensures, none) refl)

pub returns-in-Some-fit-clause-becomes : goal.returns-in-Some-fit-clause-becomes
returns-in-Some-fit-clause-becomes g c =
    let i = c.self.inside in
    let live = live-small g.S.SmallHead.stands_for g.S.SmallHead.unread i.small.items i.large.items i.moved.items c.args.index c.if-index-ne0.false (rw (← c.self.view_is) at c.requires.live) in
    let is = found i.small.items (c.args.index / 2) _ _ live c.index_mut-in-Some-fit.ensures.value in
    let none = ap room_in (sym is ∙ found i.small.items (c.args.index / 2) _ _ live c.index.ensures) ∙ sym c.room.ensures ∙ c.in-None.is in
    let some = subst IsSome is live in
    let h = says-here _ some none in
    let full = c.requires.fits c.in-Some-fit.small c.in-Some-fit.is in
    rw (← c.self.view_is, ← full) (becomes-here g.S.SmallHead.stands_for g.S.SmallHead.unread i.small.items i.large.items i.moved.items c.args.index c.if-index-ne0.false _ is _ h.0 c.in-Some-fit.small _ _ h.1 c.set_head-in-Some-fit.ensures refl)

pub returns-in-None-fit-clause-becomes : goal.returns-in-None-fit-clause-becomes
returns-in-None-fit-clause-becomes g c = becomes-as _ _ (keeps-links _ c.args.head _ (c.as_slice.ensures.value ∙ c.from_slice-links.ensures ∙ c.links.ensures.value)) c.rewrite_apart.ensures.becomes
