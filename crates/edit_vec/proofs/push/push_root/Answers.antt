use Rattle.std.proofs.Common.{ap, ◌∙◌}
use Rattle.node_heap.specs.Owner.{owned}
use Rattle.rrb_core.specs.Vector.{height_at}
use Rattle.rrb_core.proofs.CallerLemmas.{well-live}
use Rattle.edit_vec.proofs.push.push_root.Goals as goal

pub height_of-height-requires : goal.height_of-height-requires
height_of-height-requires g c =
    let root = owned c.args.heap.now c.args.owner.now in
    rw c.root_of-root.ensures (well-live c.args.heap.now (height_at c.args.heap.now root) root c.requires.root.good.shape.well)

pub lowest_with_room-requires : goal.lowest_with_room-requires
lowest_with_room-requires g c = record { well = rw (c.height_of-height.ensures, c.root_of-root.ensures) c.requires.root.good.shape.well }

pub push_own-requires-clause-height : goal.push_own-requires-clause-height
push_own-requires-clause-height g c = c.height_of-height.ensures ∙ ap (height_at c.args.heap.now) c.root_of-root.ensures

pub push_own-requires-clause-room : goal.push_own-requires-clause-room
push_own-requires-clause-room g c = rw c.root_of-root.ensures at c.in-Some.ensures.room

pub push_over-requires-clause-height : goal.push_over-requires-clause-height
push_over-requires-clause-height g c = c.height_of-height.ensures ∙ ap (height_at c.args.heap.now) c.root_of-root.ensures

pub push_over-requires-clause-packed : goal.push_over-requires-clause-packed
push_over-requires-clause-packed g c = rw c.root_of-root.ensures at c.in-None.ensures.packed
