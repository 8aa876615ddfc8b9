use Rattle.std.proofs.Common.{◌/◌, ◌∙◌, sym, ap, subst, arith, IsSome}
use Rattle.node_heap.specs.Nodes.{node_head}
use Rattle.node_heap.specs.Small.{room_in}
use Rattle.node_heap.proofs.Free.{found}
use Rattle.node_heap.proofs.Woven.{slot-inside}
use Rattle.node_heap.proofs.Housed.{live-small, live-large}
use Rattle.node_heap.proofs.Lodging.{read-large, head-here, head-far}
use Rattle.node_heap.proofs.rooms.Rooms.head.Goals as goal

pub index-requires : goal.index-requires
index-requires g c =
    let i = c.self.inside in
    omega (arith, slot-inside i.large.items (c.args.index / 2) (live-large g.S.SmallHead.stands_for g.S.SmallHead.unread i.small.items i.large.items i.moved.items c.args.index c.if-index-ne0.true (rw (← c.self.view_is) at c.requires.live)), i.large.ok.0)

pub head-requires : goal.head-requires
head-requires g c =
    let i = c.self.inside in
    let live = live-large g.S.SmallHead.stands_for g.S.SmallHead.unread i.small.items i.large.items i.moved.items c.args.index c.if-index-ne0.true (rw (← c.self.view_is) at c.requires.live) in
    subst IsSome (found i.large.items (c.args.index / 2) _ _ live c.index.ensures) live

pub returns-then-index-ne0 : goal.returns-then-index-ne0
returns-then-index-ne0 g c =
    let i = c.self.inside in
    let live = live-large g.S.SmallHead.stands_for g.S.SmallHead.unread i.small.items i.large.items i.moved.items c.args.index c.if-index-ne0.true (rw (← c.self.view_is) at c.requires.live) in
    rw (← c.self.view_is) (ap node_head (read-large g.S.SmallHead.stands_for g.S.SmallHead.unread i.small.items i.large.items i.moved.items c.args.index c.if-index-ne0.true _ (found i.large.items (c.args.index / 2) _ _ live c.index.ensures)) ∙ c.head.ensures)

pub index-small-requires : goal.index-small-requires
index-small-requires g c =
    let i = c.self.inside in
    omega (arith, slot-inside i.small.items (c.args.index / 2) (live-small g.S.SmallHead.stands_for g.S.SmallHead.unread i.small.items i.large.items i.moved.items c.args.index c.if-index-ne0.false (rw (← c.self.view_is) at c.requires.live)), i.small.ok.0)

pub index-requires-in-Some : goal.index-requires-in-Some
index-requires-in-Some g c =
    let i = c.self.inside in
    let live = live-small g.S.SmallHead.stands_for g.S.SmallHead.unread i.small.items i.large.items i.moved.items c.args.index c.if-index-ne0.false (rw (← c.self.view_is) at c.requires.live) in
    let is = found i.small.items (c.args.index / 2) _ _ live c.index-small.ensures in
    omega (arith, slot-inside i.moved.items c.in-Some.room (c.self.invariant.parts.there (c.args.index / 2) c.in-Some.room (ap room_in is ∙ sym c.room.ensures ∙ c.in-Some.is)), i.moved.ok.0)

pub head-requires-in-Some : goal.head-requires-in-Some
head-requires-in-Some g c =
    let i = c.self.inside in
    let live = live-small g.S.SmallHead.stands_for g.S.SmallHead.unread i.small.items i.large.items i.moved.items c.args.index c.if-index-ne0.false (rw (← c.self.view_is) at c.requires.live) in
    let is = found i.small.items (c.args.index / 2) _ _ live c.index-small.ensures in
    let there = c.self.invariant.parts.there (c.args.index / 2) c.in-Some.room (ap room_in is ∙ sym c.room.ensures ∙ c.in-Some.is) in
    subst IsSome (found i.moved.items c.in-Some.room _ _ there c.index-in-Some.ensures) there

pub returns-in-Some : goal.returns-in-Some
returns-in-Some g c =
    let i = c.self.inside in
    let live = live-small g.S.SmallHead.stands_for g.S.SmallHead.unread i.small.items i.large.items i.moved.items c.args.index c.if-index-ne0.false (rw (← c.self.view_is) at c.requires.live) in
    let is = found i.small.items (c.args.index / 2) _ _ live c.index-small.ensures in
    let named = sym c.room.ensures ∙ c.in-Some.is in
    let there = c.self.invariant.parts.there (c.args.index / 2) c.in-Some.room (ap room_in is ∙ named) in
    let at = found i.moved.items c.in-Some.room _ _ there c.index-in-Some.ensures in
    rw (← c.self.view_is) (head-far g.S.SmallHead.stands_for g.S.SmallHead.unread i.small.items i.large.items i.moved.items c.args.index c.if-index-ne0.false _ is c.in-Some.room named _ at (subst IsSome at there) ∙ c.head-in-Some.ensures)

pub room-requires : goal.room-requires
room-requires g c = c.requires.memory

pub head-requires-in-None : goal.head-requires-in-None
head-requires-in-None g c =
    let i = c.self.inside in
    let live = live-small g.S.SmallHead.stands_for g.S.SmallHead.unread i.small.items i.large.items i.moved.items c.args.index c.if-index-ne0.false (rw (← c.self.view_is) at c.requires.live) in
    (c.requires.memory, (subst IsSome (found i.small.items (c.args.index / 2) _ _ live c.index-small.ensures) live, sym c.room.ensures ∙ c.in-None.is))

pub returns-in-None : goal.returns-in-None
returns-in-None g c =
    let i = c.self.inside in
    let live = live-small g.S.SmallHead.stands_for g.S.SmallHead.unread i.small.items i.large.items i.moved.items c.args.index c.if-index-ne0.false (rw (← c.self.view_is) at c.requires.live) in
    let is = found i.small.items (c.args.index / 2) _ _ live c.index-small.ensures in
    let none = sym c.room.ensures ∙ c.in-None.is in
    rw (← c.self.view_is, c.widen.ensures) (head-here g.S.SmallHead.stands_for g.S.SmallHead.unread i.small.items i.large.items i.moved.items c.args.index c.if-index-ne0.false _ is c.head-in-None.result c.head-in-None.ensures)
