use Rattle.std.proofs.Common.{refl, arith}
use Rattle.node_heap.proofs.Housed.{len-nodes}
use Rattle.node_heap.proofs.Parting.{Covers-room}
use Rattle.node_heap.proofs.Rooming.{puts-small, puts-large, AreRooms-put, AreRooms-put-large}
use Rattle.node_heap.proofs.rooms.Rooms.put.Goals as goal

pub put_small-requires : goal.put_small-requires
put_small-requires g c =
    let i = c.self.inside in
    let below = rw (← c.self.view_is) at c.requires.room in
    let inv = c.self.invariant in
    let room = Covers-room _ _ _ _ _ (omega (arith, below, len-nodes g.S.SmallHead.stands_for g.S.SmallHead.unread i.small.items i.large.items i.moved.items)) inv.of_small in
    (c.requires.memory, (inv.of_small.listed, (omega (arith, room, i.small.ok.0, i.free_small.ok.0), (c.requires.few c.in-Some.head c.in-Some.is, omega (arith, c.requires.width)))))

pub invariant_of-self : goal.invariant_of-self
invariant_of-self g c =
    let i = c.self.inside in
    let below = rw (← c.self.view_is) at c.requires.room in
    let put = c.put_small.ensures in
    AreRooms-put c.self.invariant _ _ c.put_small.result _ _ _ put.capacity put.free_capacity (omega (arith, below, len-nodes g.S.SmallHead.stands_for g.S.SmallHead.unread i.small.items i.large.items i.moved.items)) put.fills refl

pub returns-in-Some-clause-was : goal.returns-in-Some-clause-was
returns-in-Some-clause-was g c =
    let i = c.self.inside in
    rw (← c.self.view_is) (puts-small g.S.SmallHead.stands_for g.S.SmallHead.unread i.small.items i.large.items i.moved.items _ _ _ c.put_small.result _ _ c.put_small.ensures.fills refl).was

pub returns-in-Some-clause-now : goal.returns-in-Some-clause-now
returns-in-Some-clause-now g c =
    let i = c.self.inside in
    rw (← c.requires.fits c.in-Some.head c.in-Some.is) (puts-small g.S.SmallHead.stands_for g.S.SmallHead.unread i.small.items i.large.items i.moved.items _ _ _ c.put_small.result _ _ c.put_small.ensures.fills refl).now

pub returns-in-Some-clause-others : goal.returns-in-Some-clause-others
returns-in-Some-clause-others g c =
    let i = c.self.inside in
    rw (← c.self.view_is) (puts-small g.S.SmallHead.stands_for g.S.SmallHead.unread i.small.items i.large.items i.moved.items _ _ _ c.put_small.result _ _ c.put_small.ensures.fills refl).others

pub returns-in-Some-clause-len : goal.returns-in-Some-clause-len
returns-in-Some-clause-len g c =
    let i = c.self.inside in
    rw (← c.self.view_is) (puts-small g.S.SmallHead.stands_for g.S.SmallHead.unread i.small.items i.large.items i.moved.items _ _ _ c.put_small.result _ _ c.put_small.ensures.fills refl).len

pub returns-in-Some-clause-low : goal.returns-in-Some-clause-low
returns-in-Some-clause-low g c =
    let i = c.self.inside in
    let below = rw (← c.self.view_is) at c.requires.room in
    let inv = c.self.invariant in
    let fills = c.put_small.ensures.fills in
    rw (← c.self.view_is) (omega (arith, fills.inside, fills.one, fills.fewer, inv.of_small.short, inv.of_small.listed.all_slots, below, len-nodes g.S.SmallHead.stands_for g.S.SmallHead.unread i.small.items i.large.items i.moved.items))

pub put_large-requires-clause-room : goal.put_large-requires-clause-room
put_large-requires-clause-room g c =
    let i = c.self.inside in
    let below = rw (← c.self.view_is) at c.requires.room in
    let inv = c.self.invariant in
    omega (arith, Covers-room _ _ _ _ _ (omega (arith, below, len-nodes g.S.SmallHead.stands_for g.S.SmallHead.unread i.small.items i.large.items i.moved.items)) inv.of_large, i.large.ok.0, i.free_large.ok.0)

pub invariant_of-self-in-None : goal.invariant_of-self-in-None
invariant_of-self-in-None g c =
    let i = c.self.inside in
    let below = rw (← c.self.view_is) at c.requires.room in
    let put = c.put_large.ensures in
    AreRooms-put-large c.self.invariant _ _ c.put_large.result _ _ _ put.capacity put.free_capacity (omega (arith, below, len-nodes g.S.SmallHead.stands_for g.S.SmallHead.unread i.small.items i.large.items i.moved.items)) put.fills

pub returns-in-None-clause-was : goal.returns-in-None-clause-was
returns-in-None-clause-was g c =
    let i = c.self.inside in
    rw (← c.self.view_is) (puts-large g.S.SmallHead.stands_for g.S.SmallHead.unread i.small.items i.large.items i.moved.items _ _ _ c.put_large.result _ c.put_large.ensures.fills).was

pub returns-in-None-clause-now : goal.returns-in-None-clause-now
returns-in-None-clause-now g c =
    let i = c.self.inside in
    (puts-large g.S.SmallHead.stands_for g.S.SmallHead.unread i.small.items i.large.items i.moved.items _ _ _ c.put_large.result _ c.put_large.ensures.fills).now

pub returns-in-None-clause-others : goal.returns-in-None-clause-others
returns-in-None-clause-others g c =
    let i = c.self.inside in
    rw (← c.self.view_is) (puts-large g.S.SmallHead.stands_for g.S.SmallHead.unread i.small.items i.large.items i.moved.items _ _ _ c.put_large.result _ c.put_large.ensures.fills).others

pub returns-in-None-clause-len : goal.returns-in-None-clause-len
returns-in-None-clause-len g c =
    let i = c.self.inside in
    rw (← c.self.view_is) (puts-large g.S.SmallHead.stands_for g.S.SmallHead.unread i.small.items i.large.items i.moved.items _ _ _ c.put_large.result _ c.put_large.ensures.fills).len

pub returns-in-None-clause-low : goal.returns-in-None-clause-low
returns-in-None-clause-low g c =
    let i = c.self.inside in
    let below = rw (← c.self.view_is) at c.requires.room in
    let inv = c.self.invariant in
    let fills = c.put_large.ensures.fills in
    rw (← c.self.view_is) (omega (arith, fills.inside, fills.one, fills.fewer, inv.of_large.short, inv.of_large.listed.all_slots, below, len-nodes g.S.SmallHead.stands_for g.S.SmallHead.unread i.small.items i.large.items i.moved.items))
