use Rattle.std.proofs.Common.{◌/◌, ◌∙◌, sym, ap, subst, arith, IsSome}
use Rattle.node_heap.specs.Nodes.{node_links}
use Rattle.node_heap.proofs.Free.{found}
use Rattle.node_heap.proofs.Woven.{slot-inside}
use Rattle.node_heap.proofs.Housed.{live-large}
use Rattle.node_heap.proofs.Lodging.{read-large}
use Rattle.node_heap.proofs.rooms.Rooms.row_links.Goals as goal

pub index-requires : goal.index-requires
index-requires g c =
    let i = c.self.inside in
    omega (arith, slot-inside i.large.items (c.args.index / 2) (live-large g.S.SmallHead.stands_for g.S.SmallHead.unread i.small.items i.large.items i.moved.items c.args.index c.if-index-ne0.true (rw (← c.self.view_is) at c.requires.live)), i.large.ok.0)

pub row_links-requires : goal.row_links-requires
row_links-requires g c =
    let i = c.self.inside in
    let live = live-large g.S.SmallHead.stands_for g.S.SmallHead.unread i.small.items i.large.items i.moved.items c.args.index c.if-index-ne0.true (rw (← c.self.view_is) at c.requires.live) in
    subst IsSome (found i.large.items (c.args.index / 2) _ _ live c.index.ensures) live

pub returns-then-index-ne0 : goal.returns-then-index-ne0
returns-then-index-ne0 g c =
    let i = c.self.inside in
    let live = live-large g.S.SmallHead.stands_for g.S.SmallHead.unread i.small.items i.large.items i.moved.items c.args.index c.if-index-ne0.true (rw (← c.self.view_is) at c.requires.live) in
    rw (← c.self.view_is) (c.row_links.ensures ∙ sym (ap node_links (read-large g.S.SmallHead.stands_for g.S.SmallHead.unread i.small.items i.large.items i.moved.items c.args.index c.if-index-ne0.true _ (found i.large.items (c.args.index / 2) _ _ live c.index.ensures))))
