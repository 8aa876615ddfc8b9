use Rattle.std.proofs.Common.{arith}
use Rattle.rrb_core.specs.Vector.{height_at}
use Rattle.rrb_core.proofs.Stays.{well-live}
use Rattle.rrb_core.proofs.EditLemmas.{edit-root, set-vector}
use Rattle.rrb_core.proofs.replace.set_root.Goals as goal

pub height_of-height-requires : goal.height_of-height-requires
height_of-height-requires g c = well-live c.args.heap.now (height_at c.args.heap.now c.args.root) c.args.root c.requires.root.good.shape.well

pub set_below-requires-clause-row : goal.set_below-requires-clause-row
set_below-requires-clause-row g c = edit-root c.requires.root (omega arith) c.height_of-height.ensures

pub set_below-requires-clause-inside : goal.set_below-requires-clause-inside
set_below-requires-clause-inside g c = rw c.height_of-height.ensures c.requires.inside

pub returns-clause-vector : goal.returns-clause-vector
returns-clause-vector g c = set-vector c.requires.root.good (rw c.height_of-height.ensures at c.set_below.ensures)

pub returns-clause-builds : goal.returns-clause-builds
returns-clause-builds g c = rw (← c.height_of-height.ensures) c.set_below.ensures.edits.builds
