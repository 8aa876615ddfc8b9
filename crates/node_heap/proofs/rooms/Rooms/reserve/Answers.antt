use Rattle.std.proofs.Common.{arith}
use Rattle.node_heap.proofs.Parting.{Covers-grow}
use Rattle.node_heap.proofs.rooms.Rooms.reserve.Goals as goal

pub invariant_of-self-2 : goal.invariant_of-self-2
invariant_of-self-2 g c =
    let i = c.self.inside in
    let more = rw (← c.self.view_is) at c.requires.more in
    let inv = c.self.invariant in
    let first = c.in_ok-cover.ensures in
    let second = c.in_ok-cover-2.ensures in
    let third = c.in_ok-cover-3.ensures in
    rw (c.cover.ensures.slots, c.cover.ensures.free, c.cover-2.ensures.slots, c.cover-2.ensures.free, c.cover-3.ensures.slots, c.cover-3.ensures.free) (record {
      of_small = Covers-grow _ _ _ _ _ _ _ _ more first.room first.free_room inv.of_small;
      of_large = Covers-grow _ _ _ _ _ _ _ _ more second.room second.free_room inv.of_large;
      of_rooms = Covers-grow _ _ _ _ _ _ _ _ more third.room third.free_room inv.of_rooms;
      within = omega (arith, inv.within, more);
      parts = inv.parts;
    })
