use Rattle.std.proofs.Common.{arith, ◌+◌}
use Rattle.node_heap.proofs.BuildLemmas.{Builds-more}
use Rattle.rrb_core.specs.Vector.{height_at}
use Rattle.rrb_core.proofs.Stays.{well-live}
use Rattle.rrb_core.proofs.EditLemmas.{edit-root, pushed-vector, pushed-root}
use Rattle.rrb_core.proofs.grow.push_root.Goals as goal

pub height_of-height-requires : goal.height_of-height-requires
height_of-height-requires g c = well-live c.args.heap.now (height_at c.args.heap.now c.args.root) c.args.root c.requires.root.good.shape.well

pub push_below-requires-clause-row : goal.push_below-requires-clause-row
push_below-requires-clause-row g c = edit-root c.requires.root (omega arith) c.height_of-height.ensures

pub push_below-requires-clause-short : goal.push_below-requires-clause-short
push_below-requires-clause-short g c = rw c.height_of-height.ensures c.requires.short

pub returns-in-Some-clause-vector : goal.returns-in-Some-clause-vector
returns-in-Some-clause-vector g c = pushed-vector c.requires.root.good c.requires.short (rw c.height_of-height.ensures at c.in-Some.ensures.pushes)

pub returns-in-Some-clause-rule : goal.returns-in-Some-clause-rule
returns-in-Some-clause-rule g c = pushed-root c.requires.root.good c.requires.short (rw c.height_of-height.ensures at c.in-Some.ensures.pushes)

pub returns-in-Some-clause-builds : goal.returns-in-Some-clause-builds
returns-in-Some-clause-builds g c = rw (← c.height_of-height.ensures) (Builds-more 0 (c.height_of-height.result + 2) c.in-Some.ensures.pushes.edits.builds (omega arith) (omega arith))

pub root_beside-requires-clause-root : goal.root_beside-requires-clause-root
root_beside-requires-clause-root g c = rw c.in-None.ensures.packed.1 c.requires.root

pub root_beside-requires-clause-height : goal.root_beside-requires-clause-height
root_beside-requires-clause-height g c = rw c.in-None.ensures.packed.1 c.height_of-height.ensures

pub root_beside-requires-clause-packed : goal.root_beside-requires-clause-packed
root_beside-requires-clause-packed g c = rw c.in-None.ensures.packed.1 c.in-None.ensures.packed.0

pub root_beside-requires-clause-short : goal.root_beside-requires-clause-short
root_beside-requires-clause-short g c = rw c.in-None.ensures.packed.1 c.requires.short

pub root_beside-requires-clause-held : goal.root_beside-requires-clause-held
root_beside-requires-clause-held g c = rw c.in-None.ensures.packed.1 c.requires.held

pub returns-in-None-clause-vector : goal.returns-in-None-clause-vector
returns-in-None-clause-vector g c = rw c.in-None.ensures.packed.1 at c.root_beside.ensures.vector

pub returns-in-None-clause-rule : goal.returns-in-None-clause-rule
returns-in-None-clause-rule g c = rw c.in-None.ensures.packed.1 at c.root_beside.ensures.rule

pub returns-in-None-clause-builds : goal.returns-in-None-clause-builds
returns-in-None-clause-builds g c = rw (← c.height_of-height.ensures) (rw c.in-None.ensures.packed.1 at c.root_beside.ensures.builds)
