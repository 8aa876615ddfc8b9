use Rattle.rrb_core.specs.Vector.{height_at}
use Rattle.rrb_core.proofs.Stays.{well-live}
use Rattle.vector_tests.proofs.sums.roots_are_alike.Goals as goal

pub are_alike-requires-clause-first : goal.are_alike-requires-clause-first
are_alike-requires-clause-first c = well-live c.args.heap.now (height_at c.args.heap.now c.args.first) c.args.first c.requires.first.shape.well

pub are_alike-requires-clause-second : goal.are_alike-requires-clause-second
are_alike-requires-clause-second c = well-live c.args.heap.now (height_at c.args.heap.now c.args.second) c.args.second c.requires.second.shape.well
