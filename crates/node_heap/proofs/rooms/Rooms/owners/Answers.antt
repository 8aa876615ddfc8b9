use Rattle.std.proofs.Common.{◌/◌, ◌∙◌, subst, arith, IsSome}
use Rattle.node_heap.proofs.Free.{found}
use Rattle.node_heap.proofs.Woven.{slot-inside}
use Rattle.node_heap.proofs.Housed.{live-small, live-large}
use Rattle.node_heap.proofs.Lodging.{owners-small, read-large}
use Rattle.std.proofs.Common.{sym, ap}
use Rattle.node_heap.specs.Nodes.{node_owners}
use Rattle.node_heap.proofs.rooms.Rooms.owners.Goals as goal

pub index-requires : goal.index-requires
index-requires g c =
    let i = c.self.inside in
    omega (arith, slot-inside i.small.items (c.args.index / 2) (live-small g.S.SmallHead.stands_for g.S.SmallHead.unread i.small.items i.large.items i.moved.items c.args.index c.if-index-eq0.true (rw (← c.self.view_is) at c.requires.live)), i.small.ok.0)

pub owners-requires : goal.owners-requires
owners-requires g c =
    let i = c.self.inside in
    let live = live-small g.S.SmallHead.stands_for g.S.SmallHead.unread i.small.items i.large.items i.moved.items c.args.index c.if-index-eq0.true (rw (← c.self.view_is) at c.requires.live) in
    (c.requires.memory, subst IsSome (found i.small.items (c.args.index / 2) _ _ live c.index.ensures) live)

pub returns-then-index-eq0 : goal.returns-then-index-eq0
returns-then-index-eq0 g c =
    let i = c.self.inside in
    let live = live-small g.S.SmallHead.stands_for g.S.SmallHead.unread i.small.items i.large.items i.moved.items c.args.index c.if-index-eq0.true (rw (← c.self.view_is) at c.requires.live) in
    rw (← c.self.view_is) (c.owners.ensures ∙ owners-small g.S.SmallHead.stands_for g.S.SmallHead.unread i.small.items i.large.items i.moved.items c.args.index c.if-index-eq0.true _ (found i.small.items (c.args.index / 2) _ _ live c.index.ensures))

pub index-requires-else-index-eq0 : goal.index-requires-else-index-eq0
index-requires-else-index-eq0 g c =
    let i = c.self.inside in
    omega (arith, slot-inside i.large.items (c.args.index / 2) (live-large g.S.SmallHead.stands_for g.S.SmallHead.unread i.small.items i.large.items i.moved.items c.args.index c.if-index-eq0.false (rw (← c.self.view_is) at c.requires.live)), i.large.ok.0)

pub owners-requires-else-index-eq0 : goal.owners-requires-else-index-eq0
owners-requires-else-index-eq0 g c =
    let i = c.self.inside in
    let live = live-large g.S.SmallHead.stands_for g.S.SmallHead.unread i.small.items i.large.items i.moved.items c.args.index c.if-index-eq0.false (rw (← c.self.view_is) at c.requires.live) in
    subst IsSome (found i.large.items (c.args.index / 2) _ _ live c.index-else-index-eq0.ensures) live

pub returns-else-index-eq0 : goal.returns-else-index-eq0
returns-else-index-eq0 g c =
    let i = c.self.inside in
    let live = live-large g.S.SmallHead.stands_for g.S.SmallHead.unread i.small.items i.large.items i.moved.items c.args.index c.if-index-eq0.false (rw (← c.self.view_is) at c.requires.live) in
    rw (← c.self.view_is) (c.owners-else-index-eq0.ensures ∙ sym (ap node_owners (read-large g.S.SmallHead.stands_for g.S.SmallHead.unread i.small.items i.large.items i.moved.items c.args.index c.if-index-eq0.false _ (found i.large.items (c.args.index / 2) _ _ live c.index-else-index-eq0.ensures))))
