use Rattle.std.proofs.Common.{◌/◌, ◌∙◌, refl, sym, ap, subst, arith, IsSome}
use Rattle.node_heap.specs.Small.{room_in}
use Rattle.node_heap.proofs.Free.{found, value_in}
use Rattle.node_heap.proofs.Woven.{slot-inside}
use Rattle.node_heap.proofs.Housed.{live-small, live-large}
use Rattle.node_heap.proofs.Parting.{Covers-free}
use Rattle.node_heap.proofs.Rooming.{AreRooms-gone-large, AreRooms-gone, AreRooms-left}
use Rattle.node_heap.proofs.Lodging.{frees-wide, frees-here, frees-far}
use Rattle.node_heap.proofs.rooms.Rooms.free.Goals as goal

pub empty_large-requires-clause-some : goal.empty_large-requires-clause-some
empty_large-requires-clause-some g c =
    let i = c.self.inside in
    let live = live-large g.S.SmallHead.stands_for g.S.SmallHead.unread i.small.items i.large.items i.moved.items c.args.index c.if-index-ne0.true (rw (← c.self.view_is) at c.requires.live) in
    live

pub empty_large-requires-clause-room : goal.empty_large-requires-clause-room
empty_large-requires-clause-room g c =
    let i = c.self.inside in
    let live = live-large g.S.SmallHead.stands_for g.S.SmallHead.unread i.small.items i.large.items i.moved.items c.args.index c.if-index-ne0.true (rw (← c.self.view_is) at c.requires.live) in
    omega (arith, Covers-free _ _ _ _ _ (c.args.index / 2) live c.self.invariant.of_large, i.free_large.ok.0)

pub invariant_of-self : goal.invariant_of-self
invariant_of-self g c =
    let i = c.self.inside in
    let live = live-large g.S.SmallHead.stands_for g.S.SmallHead.unread i.small.items i.large.items i.moved.items c.args.index c.if-index-ne0.true (rw (← c.self.view_is) at c.requires.live) in
    let x = value_in _ live in
    let out = c.empty_large.ensures in
    AreRooms-gone-large c.self.invariant (c.args.index / 2) x.0 _ _ _ _ out.capacity out.free_capacity x.1 out.slots out.free

pub returns-then-index-ne0-clause-gone : goal.returns-then-index-ne0-clause-gone
returns-then-index-ne0-clause-gone g c =
    let i = c.self.inside in
    let live = live-large g.S.SmallHead.stands_for g.S.SmallHead.unread i.small.items i.large.items i.moved.items c.args.index c.if-index-ne0.true (rw (← c.self.view_is) at c.requires.live) in
    (frees-wide g.S.SmallHead.stands_for g.S.SmallHead.unread i.small.items i.large.items i.moved.items c.args.index c.if-index-ne0.true _ refl _ c.empty_large.ensures.slots live).gone

pub returns-then-index-ne0-clause-others : goal.returns-then-index-ne0-clause-others
returns-then-index-ne0-clause-others g c =
    let i = c.self.inside in
    let live = live-large g.S.SmallHead.stands_for g.S.SmallHead.unread i.small.items i.large.items i.moved.items c.args.index c.if-index-ne0.true (rw (← c.self.view_is) at c.requires.live) in
    rw (← c.self.view_is) (frees-wide g.S.SmallHead.stands_for g.S.SmallHead.unread i.small.items i.large.items i.moved.items c.args.index c.if-index-ne0.true _ refl _ c.empty_large.ensures.slots live).others

pub returns-then-index-ne0-clause-len : goal.returns-then-index-ne0-clause-len
returns-then-index-ne0-clause-len g c =
    let i = c.self.inside in
    let live = live-large g.S.SmallHead.stands_for g.S.SmallHead.unread i.small.items i.large.items i.moved.items c.args.index c.if-index-ne0.true (rw (← c.self.view_is) at c.requires.live) in
    rw (← c.self.view_is) (frees-wide g.S.SmallHead.stands_for g.S.SmallHead.unread i.small.items i.large.items i.moved.items c.args.index c.if-index-ne0.true _ refl _ c.empty_large.ensures.slots live).len

pub index-requires : goal.index-requires
index-requires g c =
    let i = c.self.inside in
    omega (arith, slot-inside i.small.items (c.args.index / 2) (live-small g.S.SmallHead.stands_for g.S.SmallHead.unread i.small.items i.large.items i.moved.items c.args.index c.if-index-ne0.false (rw (← c.self.view_is) at c.requires.live)), i.small.ok.0)

pub room-room-requires : goal.room-room-requires
room-room-requires g c = c.requires.memory

pub empty_small-requires : goal.empty_small-requires
empty_small-requires g c =
    let i = c.self.inside in
    let live = live-small g.S.SmallHead.stands_for g.S.SmallHead.unread i.small.items i.large.items i.moved.items c.args.index c.if-index-ne0.false (rw (← c.self.view_is) at c.requires.live) in
    (c.requires.memory, (live, (c.self.invariant.of_small.listed, omega (arith, Covers-free _ _ _ _ _ (c.args.index / 2) live c.self.invariant.of_small, i.free_small.ok.0))))

pub empty_large-requires-in-Some-clause-some : goal.empty_large-requires-in-Some-clause-some
empty_large-requires-in-Some-clause-some g c =
    let i = c.self.inside in
    let live = live-small g.S.SmallHead.stands_for g.S.SmallHead.unread i.small.items i.large.items i.moved.items c.args.index c.if-index-ne0.false (rw (← c.self.view_is) at c.requires.live) in
    let is = found i.small.items (c.args.index / 2) _ _ live c.index.ensures in
    let some = subst IsSome is live in
    c.self.invariant.parts.there (c.args.index / 2) c.in-Some.room (ap room_in is ∙ sym c.room-room.ensures ∙ c.in-Some.is)

pub empty_large-requires-in-Some-clause-room : goal.empty_large-requires-in-Some-clause-room
empty_large-requires-in-Some-clause-room g c =
    let i = c.self.inside in
    let live = live-small g.S.SmallHead.stands_for g.S.SmallHead.unread i.small.items i.large.items i.moved.items c.args.index c.if-index-ne0.false (rw (← c.self.view_is) at c.requires.live) in
    let is = found i.small.items (c.args.index / 2) _ _ live c.index.ensures in
    let some = subst IsSome is live in
    let there = c.self.invariant.parts.there (c.args.index / 2) c.in-Some.room (ap room_in is ∙ sym c.room-room.ensures ∙ c.in-Some.is) in
    omega (arith, Covers-free _ _ _ _ _ c.in-Some.room there c.self.invariant.of_rooms, i.free_moved.ok.0)

pub invariant_of-self-in-Some : goal.invariant_of-self-in-Some
invariant_of-self-in-Some g c =
    let i = c.self.inside in
    let live = live-small g.S.SmallHead.stands_for g.S.SmallHead.unread i.small.items i.large.items i.moved.items c.args.index c.if-index-ne0.false (rw (← c.self.view_is) at c.requires.live) in
    let is = found i.small.items (c.args.index / 2) _ _ live c.index.ensures in
    let some = subst IsSome is live in
    let named = sym c.room-room.ensures ∙ c.in-Some.is in
    let there = c.self.invariant.parts.there (c.args.index / 2) c.in-Some.room (ap room_in is ∙ named) in
    let x = value_in _ live in
    let z = value_in _ there in
    let out = c.empty_small.ensures in
    let left = c.empty_large-in-Some.ensures in
    AreRooms-left c.self.invariant (c.args.index / 2) x.0 x.1 _ _ _ _ out.capacity out.free_capacity out.slots out.free c.in-Some.room z.0 _ _ _ _ left.capacity left.free_capacity (ap room_in (sym x.1 ∙ is) ∙ named) z.1 left.slots left.free

pub invariant_of-self-in-None : goal.invariant_of-self-in-None
invariant_of-self-in-None g c =
    let i = c.self.inside in
    let live = live-small g.S.SmallHead.stands_for g.S.SmallHead.unread i.small.items i.large.items i.moved.items c.args.index c.if-index-ne0.false (rw (← c.self.view_is) at c.requires.live) in
    let is = found i.small.items (c.args.index / 2) _ _ live c.index.ensures in
    let some = subst IsSome is live in
    let x = value_in _ live in
    let out = c.empty_small.ensures in
    AreRooms-gone c.self.invariant (c.args.index / 2) x.0 x.1 _ _ _ _ out.capacity out.free_capacity out.slots out.free (ap room_in (sym x.1 ∙ is) ∙ sym c.room-room.ensures ∙ c.in-None.is)

pub returns-in-Some-clause-gone : goal.returns-in-Some-clause-gone
returns-in-Some-clause-gone g c =
    let i = c.self.inside in
    let live = live-small g.S.SmallHead.stands_for g.S.SmallHead.unread i.small.items i.large.items i.moved.items c.args.index c.if-index-ne0.false (rw (← c.self.view_is) at c.requires.live) in
    let is = found i.small.items (c.args.index / 2) _ _ live c.index.ensures in
    let some = subst IsSome is live in
    (frees-far g.S.SmallHead.stands_for g.S.SmallHead.unread i.small.items i.large.items i.moved.items c.args.index c.if-index-ne0.false _ is _ c.in-Some.room _ c.empty_small.ensures.slots c.empty_large-in-Some.ensures.slots c.self.invariant.parts (sym c.room-room.ensures ∙ c.in-Some.is) some).gone

pub returns-in-Some-clause-others : goal.returns-in-Some-clause-others
returns-in-Some-clause-others g c =
    let i = c.self.inside in
    let live = live-small g.S.SmallHead.stands_for g.S.SmallHead.unread i.small.items i.large.items i.moved.items c.args.index c.if-index-ne0.false (rw (← c.self.view_is) at c.requires.live) in
    let is = found i.small.items (c.args.index / 2) _ _ live c.index.ensures in
    let some = subst IsSome is live in
    rw (← c.self.view_is) (frees-far g.S.SmallHead.stands_for g.S.SmallHead.unread i.small.items i.large.items i.moved.items c.args.index c.if-index-ne0.false _ is _ c.in-Some.room _ c.empty_small.ensures.slots c.empty_large-in-Some.ensures.slots c.self.invariant.parts (sym c.room-room.ensures ∙ c.in-Some.is) some).others

pub returns-in-Some-clause-len : goal.returns-in-Some-clause-len
returns-in-Some-clause-len g c =
    let i = c.self.inside in
    let live = live-small g.S.SmallHead.stands_for g.S.SmallHead.unread i.small.items i.large.items i.moved.items c.args.index c.if-index-ne0.false (rw (← c.self.view_is) at c.requires.live) in
    let is = found i.small.items (c.args.index / 2) _ _ live c.index.ensures in
    let some = subst IsSome is live in
    rw (← c.self.view_is) (frees-far g.S.SmallHead.stands_for g.S.SmallHead.unread i.small.items i.large.items i.moved.items c.args.index c.if-index-ne0.false _ is _ c.in-Some.room _ c.empty_small.ensures.slots c.empty_large-in-Some.ensures.slots c.self.invariant.parts (sym c.room-room.ensures ∙ c.in-Some.is) some).len

pub returns-in-None-clause-gone : goal.returns-in-None-clause-gone
returns-in-None-clause-gone g c =
    let i = c.self.inside in
    let live = live-small g.S.SmallHead.stands_for g.S.SmallHead.unread i.small.items i.large.items i.moved.items c.args.index c.if-index-ne0.false (rw (← c.self.view_is) at c.requires.live) in
    let is = found i.small.items (c.args.index / 2) _ _ live c.index.ensures in
    let some = subst IsSome is live in
    (frees-here g.S.SmallHead.stands_for g.S.SmallHead.unread i.small.items i.large.items i.moved.items c.args.index c.if-index-ne0.false _ is _ c.empty_small.ensures.slots some).gone

pub returns-in-None-clause-others : goal.returns-in-None-clause-others
returns-in-None-clause-others g c =
    let i = c.self.inside in
    let live = live-small g.S.SmallHead.stands_for g.S.SmallHead.unread i.small.items i.large.items i.moved.items c.args.index c.if-index-ne0.false (rw (← c.self.view_is) at c.requires.live) in
    let is = found i.small.items (c.args.index / 2) _ _ live c.index.ensures in
    let some = subst IsSome is live in
    rw (← c.self.view_is) (frees-here g.S.SmallHead.stands_for g.S.SmallHead.unread i.small.items i.large.items i.moved.items c.args.index c.if-index-ne0.false _ is _ c.empty_small.ensures.slots some).others

pub returns-in-None-clause-len : goal.returns-in-None-clause-len
returns-in-None-clause-len g c =
    let i = c.self.inside in
    let live = live-small g.S.SmallHead.stands_for g.S.SmallHead.unread i.small.items i.large.items i.moved.items c.args.index c.if-index-ne0.false (rw (← c.self.view_is) at c.requires.live) in
    let is = found i.small.items (c.args.index / 2) _ _ live c.index.ensures in
    let some = subst IsSome is live in
    rw (← c.self.view_is) (frees-here g.S.SmallHead.stands_for g.S.SmallHead.unread i.small.items i.large.items i.moved.items c.args.index c.if-index-ne0.false _ is _ c.empty_small.ensures.slots some).len
