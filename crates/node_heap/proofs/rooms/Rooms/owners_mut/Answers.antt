use Rattle.std.proofs.Common.{◌/◌, ◌∙◌, refl, sym, ap, subst, arith, IsSome}
use Rattle.node_heap.specs.Nodes.{node_owners}
use Rattle.node_heap.proofs.Free.{found, value_in}
use Rattle.node_heap.proofs.Woven.{slot-inside}
use Rattle.node_heap.proofs.Housed.{live-small, live-large}
use Rattle.node_heap.proofs.Rooming.{small-owners, large-owners}
use Rattle.node_heap.proofs.Lodging.{owners-small, read-large, owned-live, owned-room, AreRooms-wrote, AreRooms-wrote-large}
use Rattle.node_heap.proofs.rooms.Rooms.owners_mut.Goals as goal

pub index_mut-requires : goal.index_mut-requires
index_mut-requires g c =
    let i = c.self.inside in
    omega (arith, slot-inside i.small.items (c.args.index / 2) (live-small g.S.SmallHead.stands_for g.S.SmallHead.unread i.small.items i.large.items i.moved.items c.args.index c.if-index-eq0.true (rw (← c.self.view_is) at c.requires.live)), i.small.ok.0)

pub owners_mut-requires : goal.owners_mut-requires
owners_mut-requires g c =
    let i = c.self.inside in
    let live = live-small g.S.SmallHead.stands_for g.S.SmallHead.unread i.small.items i.large.items i.moved.items c.args.index c.if-index-eq0.true (rw (← c.self.view_is) at c.requires.live) in
    (c.requires.memory, subst IsSome (found i.small.items (c.args.index / 2) _ _ live c.index_mut.ensures.value) live)

pub invariant_of-self-lent : goal.invariant_of-self-lent
invariant_of-self-lent g c w =
    let i = c.self.inside in
    let live = live-small g.S.SmallHead.stands_for g.S.SmallHead.unread i.small.items i.large.items i.moved.items c.args.index c.if-index-eq0.true (rw (← c.self.view_is) at c.requires.live) in
    let is = found i.small.items (c.args.index / 2) _ _ live c.index_mut.ensures.value in
    AreRooms-wrote c.self.invariant (c.args.index / 2) _ _ is (subst IsSome is live) (owned-live w _ (subst IsSome is live)) (owned-room w _)

pub returns-then-index-eq0 : goal.returns-then-index-eq0
returns-then-index-eq0 g c =
    let i = c.self.inside in
    let live = live-small g.S.SmallHead.stands_for g.S.SmallHead.unread i.small.items i.large.items i.moved.items c.args.index c.if-index-eq0.true (rw (← c.self.view_is) at c.requires.live) in
    let is = found i.small.items (c.args.index / 2) _ _ live c.index_mut.ensures.value in
    let x = value_in _ live in (
      (refl, λ w. rw (← c.self.view_is, ← is) (ap (λ xs. record { slots = xs; room = i.room }) (small-owners g.S.SmallHead.stands_for g.S.SmallHead.unread i.small.items i.large.items i.moved.items c.args.index w x.0 c.if-index-eq0.true x.1))),
      record { writes_back = tt; value = rw (← c.self.view_is) (c.owners_mut.ensures.value ∙ owners-small g.S.SmallHead.stands_for g.S.SmallHead.unread i.small.items i.large.items i.moved.items c.args.index c.if-index-eq0.true _ is) },
    )

pub index_mut-requires-else-index-eq0 : goal.index_mut-requires-else-index-eq0
index_mut-requires-else-index-eq0 g c =
    let i = c.self.inside in
    omega (arith, slot-inside i.large.items (c.args.index / 2) (live-large g.S.SmallHead.stands_for g.S.SmallHead.unread i.small.items i.large.items i.moved.items c.args.index c.if-index-eq0.false (rw (← c.self.view_is) at c.requires.live)), i.large.ok.0)

pub owners_mut-requires-else-index-eq0 : goal.owners_mut-requires-else-index-eq0
owners_mut-requires-else-index-eq0 g c =
    let i = c.self.inside in
    let live = live-large g.S.SmallHead.stands_for g.S.SmallHead.unread i.small.items i.large.items i.moved.items c.args.index c.if-index-eq0.false (rw (← c.self.view_is) at c.requires.live) in
    subst IsSome (found i.large.items (c.args.index / 2) _ _ live c.index_mut-else-index-eq0.ensures.value) live

pub invariant_of-self-lent-else-index-eq0 : goal.invariant_of-self-lent-else-index-eq0
invariant_of-self-lent-else-index-eq0 g c w =
    let i = c.self.inside in
    let live = live-large g.S.SmallHead.stands_for g.S.SmallHead.unread i.small.items i.large.items i.moved.items c.args.index c.if-index-eq0.false (rw (← c.self.view_is) at c.requires.live) in
    let is = found i.large.items (c.args.index / 2) _ _ live c.index_mut-else-index-eq0.ensures.value in
    AreRooms-wrote-large c.self.invariant (c.args.index / 2) _ _ is (subst IsSome is live) (owned-live w _ (subst IsSome is live))

pub returns-else-index-eq0 : goal.returns-else-index-eq0
returns-else-index-eq0 g c =
    let i = c.self.inside in
    let live = live-large g.S.SmallHead.stands_for g.S.SmallHead.unread i.small.items i.large.items i.moved.items c.args.index c.if-index-eq0.false (rw (← c.self.view_is) at c.requires.live) in
    let is = found i.large.items (c.args.index / 2) _ _ live c.index_mut-else-index-eq0.ensures.value in (
      (refl, λ w. rw (← c.self.view_is, ← is) (ap (λ xs. record { slots = xs; room = i.room }) (large-owners g.S.SmallHead.stands_for g.S.SmallHead.unread i.small.items i.large.items i.moved.items c.args.index w c.if-index-eq0.false live))),
      record { writes_back = tt; value = rw (← c.self.view_is) (c.owners_mut-else-index-eq0.ensures.value ∙ sym (ap node_owners (read-large g.S.SmallHead.stands_for g.S.SmallHead.unread i.small.items i.large.items i.moved.items c.args.index c.if-index-eq0.false _ is))) },
    )
