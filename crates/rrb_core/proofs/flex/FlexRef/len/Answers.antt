use Rattle.rrb_core.specs.Vector.{height_at}
use Rattle.rrb_core.proofs.Stays.{well-live, seq-live}
use Rattle.rrb_core.proofs.flex.FlexRef.len.Goals as goal

pub height_of-requires : goal.height_of-requires
height_of-requires g c = rw c.self.view_is (well-live c.args.heap.now (height_at c.args.heap.now c.args.self.now) c.args.self.now c.requires.shape.well)

pub returns-clause-live : goal.returns-clause-live
returns-clause-live g c = seq-live c.args.heap.now c.size.ensures.graph (height_at c.args.heap.now c.args.self.now) c.args.self.now
