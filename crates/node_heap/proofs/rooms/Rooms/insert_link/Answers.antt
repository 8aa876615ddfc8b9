use Rattle.std.proofs.Common.{◌/◌, ◌∙◌, refl, sym, ap, subst, length, arith, IsSome}
use Rattle.std.specs.Prelude.{insert}
use Rattle.node_heap.specs.Nodes.{node_links}
use Rattle.node_heap.specs.Small.{room_in}
use Rattle.node_heap.proofs.Free.{found, value_in}
use Rattle.node_heap.proofs.Woven.{slot-inside}
use Rattle.node_heap.proofs.Housed.{live-small, live-large}
use Rattle.node_heap.proofs.Lodging.{read-large, links-here, links-far, becomes-here, becomes-far, becomes-wide, linked-as, linked-here, linked-live, linked-room, says-here, AreRooms-wrote, AreRooms-wrote-large, AreRooms-wrote-room, not-full}
use Rattle.node_heap.proofs.rooms.Rooms.insert_link.Goals as goal

pub index_mut-requires : goal.index_mut-requires
index_mut-requires g c =
    let i = c.self.inside in
    omega (arith, slot-inside i.large.items (c.args.index / 2) (live-large g.S.SmallHead.stands_for g.S.SmallHead.unread i.small.items i.large.items i.moved.items c.args.index c.if-index-ne0.true (rw (← c.self.view_is) at c.requires.live)), i.large.ok.0)

pub insert-requires-clause-live : goal.insert-requires-clause-live
insert-requires-clause-live g c =
    let i = c.self.inside in
    let live = live-large g.S.SmallHead.stands_for g.S.SmallHead.unread i.small.items i.large.items i.moved.items c.args.index c.if-index-ne0.true (rw (← c.self.view_is) at c.requires.live) in
    let is = found i.large.items (c.args.index / 2) _ _ live c.index_mut.ensures.value in
    let some = subst IsSome is live in
    some

pub insert-requires-clause-index : goal.insert-requires-clause-index
insert-requires-clause-index g c =
    let i = c.self.inside in
    let live = live-large g.S.SmallHead.stands_for g.S.SmallHead.unread i.small.items i.large.items i.moved.items c.args.index c.if-index-ne0.true (rw (← c.self.view_is) at c.requires.live) in
    let is = found i.large.items (c.args.index / 2) _ _ live c.index_mut.ensures.value in
    let some = subst IsSome is live in
    let inside = rw (← c.self.view_is) at c.requires.position in
    omega (arith, inside, ap length (ap node_links (read-large g.S.SmallHead.stands_for g.S.SmallHead.unread i.small.items i.large.items i.moved.items c.args.index c.if-index-ne0.true _ is)))

pub insert-requires-clause-room : goal.insert-requires-clause-room
insert-requires-clause-room g c =
    let i = c.self.inside in
    let live = live-large g.S.SmallHead.stands_for g.S.SmallHead.unread i.small.items i.large.items i.moved.items c.args.index c.if-index-ne0.true (rw (← c.self.view_is) at c.requires.live) in
    let is = found i.large.items (c.args.index / 2) _ _ live c.index_mut.ensures.value in
    let some = subst IsSome is live in
    let inside = rw (← c.self.view_is) at c.requires.room in
    omega (arith, inside, ap length (ap node_links (read-large g.S.SmallHead.stands_for g.S.SmallHead.unread i.small.items i.large.items i.moved.items c.args.index c.if-index-ne0.true _ is)))

pub invariant_of-self : goal.invariant_of-self
invariant_of-self g c =
    let i = c.self.inside in
    let live = live-large g.S.SmallHead.stands_for g.S.SmallHead.unread i.small.items i.large.items i.moved.items c.args.index c.if-index-ne0.true (rw (← c.self.view_is) at c.requires.live) in
    let is = found i.large.items (c.args.index / 2) _ _ live c.index_mut.ensures.value in
    let some = subst IsSome is live in
    rw c.insert.ensures (AreRooms-wrote-large c.self.invariant (c.args.index / 2) _ _ is some (linked-live _ _ some))

pub returns-then-index-ne0-clause-becomes : goal.returns-then-index-ne0-clause-becomes
returns-then-index-ne0-clause-becomes g c =
    let i = c.self.inside in
    let live = live-large g.S.SmallHead.stands_for g.S.SmallHead.unread i.small.items i.large.items i.moved.items c.args.index c.if-index-ne0.true (rw (← c.self.view_is) at c.requires.live) in
    let is = found i.large.items (c.args.index / 2) _ _ live c.index_mut.ensures.value in
    let some = subst IsSome is live in
    let x = value_in _ some in
    rw (← c.self.view_is) (becomes-wide g.S.SmallHead.stands_for g.S.SmallHead.unread i.small.items i.large.items i.moved.items c.args.index c.if-index-ne0.true _ is _ x.0 _ _ x.1 (linked-as _ _ (λ xs. insert xs c.args.position c.args.link) x.0 x.1 c.insert.ensures) refl)

pub index-requires : goal.index-requires
index-requires g c =
    let i = c.self.inside in
    omega (arith, slot-inside i.small.items (c.args.index / 2) (live-small g.S.SmallHead.stands_for g.S.SmallHead.unread i.small.items i.large.items i.moved.items c.args.index c.if-index-ne0.false (rw (← c.self.view_is) at c.requires.live)), i.small.ok.0)

pub index_mut-requires-in-Some : goal.index_mut-requires-in-Some
index_mut-requires-in-Some g c =
    let i = c.self.inside in
    let live = live-small g.S.SmallHead.stands_for g.S.SmallHead.unread i.small.items i.large.items i.moved.items c.args.index c.if-index-ne0.false (rw (← c.self.view_is) at c.requires.live) in
    let is = found i.small.items (c.args.index / 2) _ _ live c.index.ensures in
    let there = c.self.invariant.parts.there (c.args.index / 2) c.in-Some.room (ap room_in is ∙ sym c.room.ensures ∙ c.in-Some.is) in
    omega (arith, slot-inside i.moved.items c.in-Some.room there, i.moved.ok.0)

pub insert-requires-in-Some-clause-live : goal.insert-requires-in-Some-clause-live
insert-requires-in-Some-clause-live g c =
    let i = c.self.inside in
    let live = live-small g.S.SmallHead.stands_for g.S.SmallHead.unread i.small.items i.large.items i.moved.items c.args.index c.if-index-ne0.false (rw (← c.self.view_is) at c.requires.live) in
    let is = found i.small.items (c.args.index / 2) _ _ live c.index.ensures in
    let named = sym c.room.ensures ∙ c.in-Some.is in
    let there = c.self.invariant.parts.there (c.args.index / 2) c.in-Some.room (ap room_in is ∙ named) in
    let at = found i.moved.items c.in-Some.room _ _ there c.index_mut-in-Some.ensures.value in
    let some = subst IsSome at there in
    some

pub insert-requires-in-Some-clause-index : goal.insert-requires-in-Some-clause-index
insert-requires-in-Some-clause-index g c =
    let i = c.self.inside in
    let live = live-small g.S.SmallHead.stands_for g.S.SmallHead.unread i.small.items i.large.items i.moved.items c.args.index c.if-index-ne0.false (rw (← c.self.view_is) at c.requires.live) in
    let is = found i.small.items (c.args.index / 2) _ _ live c.index.ensures in
    let named = sym c.room.ensures ∙ c.in-Some.is in
    let there = c.self.invariant.parts.there (c.args.index / 2) c.in-Some.room (ap room_in is ∙ named) in
    let at = found i.moved.items c.in-Some.room _ _ there c.index_mut-in-Some.ensures.value in
    let some = subst IsSome at there in
    let inside = rw (← c.self.view_is) at c.requires.position in
    omega (arith, inside, ap length (links-far g.S.SmallHead.stands_for g.S.SmallHead.unread i.small.items i.large.items i.moved.items c.args.index c.if-index-ne0.false _ is c.in-Some.room named _ at some))

pub insert-requires-in-Some-clause-room : goal.insert-requires-in-Some-clause-room
insert-requires-in-Some-clause-room g c =
    let i = c.self.inside in
    let live = live-small g.S.SmallHead.stands_for g.S.SmallHead.unread i.small.items i.large.items i.moved.items c.args.index c.if-index-ne0.false (rw (← c.self.view_is) at c.requires.live) in
    let is = found i.small.items (c.args.index / 2) _ _ live c.index.ensures in
    let named = sym c.room.ensures ∙ c.in-Some.is in
    let there = c.self.invariant.parts.there (c.args.index / 2) c.in-Some.room (ap room_in is ∙ named) in
    let at = found i.moved.items c.in-Some.room _ _ there c.index_mut-in-Some.ensures.value in
    let some = subst IsSome at there in
    let inside = rw (← c.self.view_is) at c.requires.room in
    omega (arith, inside, ap length (links-far g.S.SmallHead.stands_for g.S.SmallHead.unread i.small.items i.large.items i.moved.items c.args.index c.if-index-ne0.false _ is c.in-Some.room named _ at some))

pub invariant_of-self-in-Some : goal.invariant_of-self-in-Some
invariant_of-self-in-Some g c =
    let i = c.self.inside in
    let live = live-small g.S.SmallHead.stands_for g.S.SmallHead.unread i.small.items i.large.items i.moved.items c.args.index c.if-index-ne0.false (rw (← c.self.view_is) at c.requires.live) in
    let is = found i.small.items (c.args.index / 2) _ _ live c.index.ensures in
    let named = sym c.room.ensures ∙ c.in-Some.is in
    let there = c.self.invariant.parts.there (c.args.index / 2) c.in-Some.room (ap room_in is ∙ named) in
    let at = found i.moved.items c.in-Some.room _ _ there c.index_mut-in-Some.ensures.value in
    let some = subst IsSome at there in
    rw c.insert-in-Some.ensures (AreRooms-wrote-room c.self.invariant c.in-Some.room _ _ at some (linked-live _ _ some))

pub returns-in-Some-clause-becomes : goal.returns-in-Some-clause-becomes
returns-in-Some-clause-becomes g c =
    let i = c.self.inside in
    let live = live-small g.S.SmallHead.stands_for g.S.SmallHead.unread i.small.items i.large.items i.moved.items c.args.index c.if-index-ne0.false (rw (← c.self.view_is) at c.requires.live) in
    let is = found i.small.items (c.args.index / 2) _ _ live c.index.ensures in
    let named = sym c.room.ensures ∙ c.in-Some.is in
    let there = c.self.invariant.parts.there (c.args.index / 2) c.in-Some.room (ap room_in is ∙ named) in
    let at = found i.moved.items c.in-Some.room _ _ there c.index_mut-in-Some.ensures.value in
    let some = subst IsSome at there in
    let x = value_in _ some in
    rw (← c.self.view_is) (becomes-far g.S.SmallHead.stands_for g.S.SmallHead.unread i.small.items i.large.items i.moved.items c.args.index c.if-index-ne0.false _ is c.in-Some.room named _ at some _ x.0 _ _ c.self.invariant.parts x.1
    (linked-as _ _ (λ xs. insert xs c.args.position c.args.link) x.0 x.1 c.insert-in-Some.ensures) refl)

pub index_mut-requires-else-is_full : goal.index_mut-requires-else-is_full
index_mut-requires-else-is_full g c =
    let i = c.self.inside in
    omega (arith, slot-inside i.small.items (c.args.index / 2) (live-small g.S.SmallHead.stands_for g.S.SmallHead.unread i.small.items i.large.items i.moved.items c.args.index c.if-index-ne0.false (rw (← c.self.view_is) at c.requires.live)), i.small.ok.0)

pub room-requires : goal.room-requires
room-requires g c = c.requires.memory

pub index-requires-in-None : goal.index-requires-in-None
index-requires-in-None g c =
    let i = c.self.inside in
    omega (arith, slot-inside i.small.items (c.args.index / 2) (live-small g.S.SmallHead.stands_for g.S.SmallHead.unread i.small.items i.large.items i.moved.items c.args.index c.if-index-ne0.false (rw (← c.self.view_is) at c.requires.live)), i.small.ok.0)

pub is_full-requires : goal.is_full-requires
is_full-requires g c =
    let i = c.self.inside in
    let live = live-small g.S.SmallHead.stands_for g.S.SmallHead.unread i.small.items i.large.items i.moved.items c.args.index c.if-index-ne0.false (rw (← c.self.view_is) at c.requires.live) in
    let is = found i.small.items (c.args.index / 2) _ _ live c.index-in-None.ensures in
    let none = ap room_in (sym is ∙ found i.small.items (c.args.index / 2) _ _ live c.index.ensures) ∙ sym c.room.ensures ∙ c.in-None.is in
    (c.requires.memory, (subst IsSome is live, none))

pub insert-requires-else-is_full : goal.insert-requires-else-is_full
insert-requires-else-is_full g c =
    let i = c.self.inside in
    let live = live-small g.S.SmallHead.stands_for g.S.SmallHead.unread i.small.items i.large.items i.moved.items c.args.index c.if-index-ne0.false (rw (← c.self.view_is) at c.requires.live) in
    let is = found i.small.items (c.args.index / 2) _ _ live c.index_mut-else-is_full.ensures.value in
    let none = ap room_in (sym is ∙ found i.small.items (c.args.index / 2) _ _ live c.index.ensures) ∙ sym c.room.ensures ∙ c.in-None.is in
    let inside = rw (← c.self.view_is) at c.requires.position in
    let same = sym is ∙ found i.small.items (c.args.index / 2) _ _ live c.index-in-None.ensures in
    let room = not-full c.is_full.result _ _ c.is_full.ensures.1 c.if-is_full.false in
    (c.requires.memory, (subst IsSome is live, (none, (omega (arith, inside, ap length (links-here g.S.SmallHead.stands_for g.S.SmallHead.unread i.small.items i.large.items i.moved.items c.args.index c.if-index-ne0.false _ is none)), (omega (arith, room, ap (λ o. length (node_links o)) same), omega (arith, c.requires.width))))))

pub invariant_of-self-else-is_full : goal.invariant_of-self-else-is_full
invariant_of-self-else-is_full g c =
    let i = c.self.inside in
    let live = live-small g.S.SmallHead.stands_for g.S.SmallHead.unread i.small.items i.large.items i.moved.items c.args.index c.if-index-ne0.false (rw (← c.self.view_is) at c.requires.live) in
    let is = found i.small.items (c.args.index / 2) _ _ live c.index_mut-else-is_full.ensures.value in
    let none = ap room_in (sym is ∙ found i.small.items (c.args.index / 2) _ _ live c.index.ensures) ∙ sym c.room.ensures ∙ c.in-None.is in
    let some = subst IsSome is live in
    rw c.insert-else-is_full.ensures (AreRooms-wrote c.self.invariant (c.args.index / 2) _ _ is some (linked-live _ _ some) (linked-room _ _))

pub returns-else-is_full-clause-becomes : goal.returns-else-is_full-clause-becomes
returns-else-is_full-clause-becomes g c =
    let i = c.self.inside in
    let live = live-small g.S.SmallHead.stands_for g.S.SmallHead.unread i.small.items i.large.items i.moved.items c.args.index c.if-index-ne0.false (rw (← c.self.view_is) at c.requires.live) in
    let is = found i.small.items (c.args.index / 2) _ _ live c.index_mut-else-is_full.ensures.value in
    let none = ap room_in (sym is ∙ found i.small.items (c.args.index / 2) _ _ live c.index.ensures) ∙ sym c.room.ensures ∙ c.in-None.is in
    let some = subst IsSome is live in
    let h = says-here _ some none in
    rw (← c.self.view_is) (becomes-here g.S.SmallHead.stands_for g.S.SmallHead.unread i.small.items i.large.items i.moved.items c.args.index c.if-index-ne0.false _ is _ h.0 h.0 _ _ h.1 (c.insert-else-is_full.ensures ∙ linked-here _ _ h.0 h.1) refl)
