use Rattle.std.proofs.Common.{◌≡◌, ◌≢◌, ◌%◌, ℕ, ap, arith, length}
use Rattle.node_heap.specs.Nodes.{node_links}
use Rattle.node_heap.proofs.Housed.{len-nodes, at-large}
use Rattle.node_heap.proofs.Parting.{Covers-room}
use Rattle.node_heap.proofs.Rooming.{puts-large, AreRooms-put-large}
use Rattle.node_heap.proofs.rooms.Rooms.put_beside.Goals as goal

odd-one : (k : ℕ) → k % 2 ≡ 1 → k % 2 ≢ 0
odd-one k is none = omega (arith, is, none)

pub put_beside-requires-clause-room : goal.put_beside-requires-clause-room
put_beside-requires-clause-room g c =
    let i = c.self.inside in
    let below = rw (← c.self.view_is) at c.requires.room in
    let inv = c.self.invariant in
    omega (arith, Covers-room _ _ _ _ _ (omega (arith, below, len-nodes g.S.SmallHead.stands_for g.S.SmallHead.unread i.small.items i.large.items i.moved.items)) inv.of_large, i.large.ok.0, i.free_large.ok.0)

pub put_beside-requires-clause-index : goal.put_beside-requires-clause-index
put_beside-requires-clause-index g c =
    let i = c.self.inside in
    let position = rw (← c.self.view_is) at c.requires.position in
    omega (arith, position, ap (λ o. length (node_links o)) (at-large g.S.SmallHead.stands_for g.S.SmallHead.unread i.small.items i.large.items i.moved.items c.args.from (odd-one _ c.requires.large)))

pub invariant_of-self : goal.invariant_of-self
invariant_of-self g c =
    let i = c.self.inside in
    let below = rw (← c.self.view_is) at c.requires.room in
    let put = c.put_beside.ensures in
    AreRooms-put-large c.self.invariant _ _ c.put_beside.result _ _ _ put.capacity put.free_capacity (omega (arith, below, len-nodes g.S.SmallHead.stands_for g.S.SmallHead.unread i.small.items i.large.items i.moved.items)) put.fills

pub returns-clause-was : goal.returns-clause-was
returns-clause-was g c =
    let i = c.self.inside in
    rw (← c.self.view_is) (puts-large g.S.SmallHead.stands_for g.S.SmallHead.unread i.small.items i.large.items i.moved.items _ _ _ c.put_beside.result _ c.put_beside.ensures.fills).was

pub returns-clause-now : goal.returns-clause-now
returns-clause-now g c =
    let i = c.self.inside in
    rw (← c.self.view_is, at-large g.S.SmallHead.stands_for g.S.SmallHead.unread i.small.items i.large.items i.moved.items c.args.from (odd-one _ c.requires.large)) (puts-large g.S.SmallHead.stands_for g.S.SmallHead.unread i.small.items i.large.items i.moved.items _ _ _ c.put_beside.result _ c.put_beside.ensures.fills).now

pub returns-clause-others : goal.returns-clause-others
returns-clause-others g c =
    let i = c.self.inside in
    rw (← c.self.view_is) (puts-large g.S.SmallHead.stands_for g.S.SmallHead.unread i.small.items i.large.items i.moved.items _ _ _ c.put_beside.result _ c.put_beside.ensures.fills).others

pub returns-clause-len : goal.returns-clause-len
returns-clause-len g c =
    let i = c.self.inside in
    rw (← c.self.view_is) (puts-large g.S.SmallHead.stands_for g.S.SmallHead.unread i.small.items i.large.items i.moved.items _ _ _ c.put_beside.result _ c.put_beside.ensures.fills).len

pub returns-clause-low : goal.returns-clause-low
returns-clause-low g c =
    let i = c.self.inside in
    let below = rw (← c.self.view_is) at c.requires.room in
    let inv = c.self.invariant in
    let fills = c.put_beside.ensures.fills in
    rw (← c.self.view_is) (omega (arith, fills.inside, fills.one, fills.fewer, inv.of_large.short, inv.of_large.listed.all_slots, below, len-nodes g.S.SmallHead.stands_for g.S.SmallHead.unread i.small.items i.large.items i.moved.items))
