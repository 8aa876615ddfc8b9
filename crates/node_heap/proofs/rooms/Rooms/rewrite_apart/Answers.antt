use Rattle.std.proofs.Common.{◌/◌, ◌∙◌, refl, sym, ap, subst, arith, IsSome}
use Rattle.node_heap.specs.Small.{room_in}
use Rattle.node_heap.proofs.Free.{found, value_in}
use Rattle.node_heap.proofs.Woven.{slot-inside}
use Rattle.node_heap.proofs.Housed.{live-small}
use Rattle.node_heap.proofs.Parting.{Covers-room}
use Rattle.node_heap.proofs.Rooming.{few-rooms, AreRooms-moved}
use Rattle.node_heap.proofs.Lodging.{becomes-far, becomes-apart, AreRooms-wrote-room}
use Rattle.node_heap.proofs.rooms.Rooms.rewrite_apart.Goals as goal

pub index-requires : goal.index-requires
index-requires g c =
    let i = c.self.inside in
    let live = live-small g.S.SmallHead.stands_for g.S.SmallHead.unread i.small.items i.large.items i.moved.items c.args.index c.requires.small (rw (← c.self.view_is) at c.requires.live) in
    omega (arith, slot-inside i.small.items (c.args.index / 2) live, i.small.ok.0)

pub index_mut-requires : goal.index_mut-requires
index_mut-requires g c =
    let i = c.self.inside in
    let live = live-small g.S.SmallHead.stands_for g.S.SmallHead.unread i.small.items i.large.items i.moved.items c.args.index c.requires.small (rw (← c.self.view_is) at c.requires.live) in
    let is = found i.small.items (c.args.index / 2) _ _ live c.index.ensures in
    let there = c.self.invariant.parts.there (c.args.index / 2) c.in-Some.room (ap room_in is ∙ sym c.room.ensures ∙ c.in-Some.is) in
    omega (arith, slot-inside i.moved.items c.in-Some.room there, i.moved.ok.0)

pub invariant_of-self : goal.invariant_of-self
invariant_of-self g c =
    let i = c.self.inside in
    let live = live-small g.S.SmallHead.stands_for g.S.SmallHead.unread i.small.items i.large.items i.moved.items c.args.index c.requires.small (rw (← c.self.view_is) at c.requires.live) in
    let is = found i.small.items (c.args.index / 2) _ _ live c.index.ensures in
    let there = c.self.invariant.parts.there (c.args.index / 2) c.in-Some.room (ap room_in is ∙ sym c.room.ensures ∙ c.in-Some.is) in
    let at = found i.moved.items c.in-Some.room _ _ there c.index_mut.ensures.value in
    AreRooms-wrote-room c.self.invariant c.in-Some.room _ _ at (subst IsSome at there) (rw c.fill.ensures refl)

pub returns-in-Some-clause-becomes : goal.returns-in-Some-clause-becomes
returns-in-Some-clause-becomes g c =
    let i = c.self.inside in
    let live = live-small g.S.SmallHead.stands_for g.S.SmallHead.unread i.small.items i.large.items i.moved.items c.args.index c.requires.small (rw (← c.self.view_is) at c.requires.live) in
    let is = found i.small.items (c.args.index / 2) _ _ live c.index.ensures in
    let named = sym c.room.ensures ∙ c.in-Some.is in
    let there = c.self.invariant.parts.there (c.args.index / 2) c.in-Some.room (ap room_in is ∙ named) in
    let at = found i.moved.items c.in-Some.room _ _ there c.index_mut.ensures.value in
    let some = subst IsSome at there in
    let x = value_in _ some in
    rw (← c.self.view_is) (becomes-far g.S.SmallHead.stands_for g.S.SmallHead.unread i.small.items i.large.items i.moved.items c.args.index c.requires.small _ is c.in-Some.room named _ at some _ x.0 _ _ c.self.invariant.parts x.1 c.fill.ensures refl)

pub put_large-room-requires-clause-room : goal.put_large-room-requires-clause-room
put_large-room-requires-clause-room g c =
    let i = c.self.inside in
    let live = live-small g.S.SmallHead.stands_for g.S.SmallHead.unread i.small.items i.large.items i.moved.items c.args.index c.requires.small (rw (← c.self.view_is) at c.requires.live) in
    let is = found i.small.items (c.args.index / 2) _ _ live c.index.ensures in
    let none = sym c.room.ensures ∙ c.in-None.is in
    let x = value_in _ live in
    let few = few-rooms c.self.invariant (c.args.index / 2) x.0 x.1 (ap room_in (sym x.1 ∙ is) ∙ none) in
    omega (arith, Covers-room _ _ _ _ _ few c.self.invariant.of_rooms, i.moved.ok.0, i.free_moved.ok.0)

pub index_mut-requires-in-None : goal.index_mut-requires-in-None
index_mut-requires-in-None g c =
    let i = c.self.inside in
    let live = live-small g.S.SmallHead.stands_for g.S.SmallHead.unread i.small.items i.large.items i.moved.items c.args.index c.requires.small (rw (← c.self.view_is) at c.requires.live) in
    omega (arith, slot-inside i.small.items (c.args.index / 2) live, i.small.ok.0)

pub set_room-requires : goal.set_room-requires
set_room-requires g c =
    let i = c.self.inside in
    let live = live-small g.S.SmallHead.stands_for g.S.SmallHead.unread i.small.items i.large.items i.moved.items c.args.index c.requires.small (rw (← c.self.view_is) at c.requires.live) in
    (c.requires.memory, subst IsSome (found i.small.items (c.args.index / 2) _ _ live c.index_mut-in-None.ensures.value) live)

pub invariant_of-self-in-None : goal.invariant_of-self-in-None
invariant_of-self-in-None g c =
    let i = c.self.inside in
    let live = live-small g.S.SmallHead.stands_for g.S.SmallHead.unread i.small.items i.large.items i.moved.items c.args.index c.requires.small (rw (← c.self.view_is) at c.requires.live) in
    let is = found i.small.items (c.args.index / 2) _ _ live c.index.ensures in
    let none = sym c.room.ensures ∙ c.in-None.is in
    let x = value_in _ live in
    let put = c.put_large-room.ensures in
    rw c.set_room.ensures (AreRooms-moved c.self.invariant (c.args.index / 2) c.put_large-room.result x.0 _ _ _ _ _ _ put.capacity put.free_capacity x.1 (ap room_in (sym x.1 ∙ is) ∙ none) refl put.fills)

pub returns-in-None-clause-becomes : goal.returns-in-None-clause-becomes
returns-in-None-clause-becomes g c =
    let i = c.self.inside in
    let live = live-small g.S.SmallHead.stands_for g.S.SmallHead.unread i.small.items i.large.items i.moved.items c.args.index c.requires.small (rw (← c.self.view_is) at c.requires.live) in
    let is = found i.small.items (c.args.index / 2) _ _ live c.index_mut-in-None.ensures.value in
    let none = ap room_in (sym is ∙ found i.small.items (c.args.index / 2) _ _ live c.index.ensures) ∙ sym c.room.ensures ∙ c.in-None.is in
    rw (← c.self.view_is) (becomes-apart g.S.SmallHead.stands_for g.S.SmallHead.unread i.small.items i.large.items i.moved.items c.args.index c.requires.small _ is _ _ _ _ c.put_large-room.result _ _ c.self.invariant.parts (subst IsSome is live) none c.set_room.ensures c.put_large-room.ensures.fills (λ h. refl))

pub room-requires : goal.room-requires
room-requires g c = c.requires.memory
