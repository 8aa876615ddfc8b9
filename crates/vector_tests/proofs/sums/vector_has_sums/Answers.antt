use Rattle.rrb_core.specs.Vector.{height_at}
use Rattle.rrb_core.proofs.Stays.{well-live}
use Rattle.vector_tests.proofs.sums.vector_has_sums.Goals as goal

pub has_sums-requires : goal.has_sums-requires
has_sums-requires c = well-live c.args.heap.now (height_at c.args.heap.now c.args.root) c.args.root c.requires.shape.well
