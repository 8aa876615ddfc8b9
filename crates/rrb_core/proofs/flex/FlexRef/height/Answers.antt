use Rattle.std.proofs.Common.{◌+◌, ◌≡◌, suc, arith}
use Rattle.node_heap.specs.Heap.{form_at}
use Rattle.rrb_core.specs.Vector.{height_at}
use Rattle.rrb_core.proofs.FillRule.{fill-at, seq-le}
use Rattle.rrb_core.proofs.Stays.{well-live}
use Rattle.rrb_core.proofs.flex.FlexRef.height.Goals as goal

pub height_of-requires : goal.height_of-requires
height_of-requires g c = rw c.self.view_is (well-live c.args.heap.now (height_at c.args.heap.now c.args.self.now) c.args.self.now c.requires.shape.well)

pub returns-clause-more : goal.returns-clause-more
returns-clause-more g c = rw (c.height_of.ensures, c.self.view_is) (λ some. fill-at (form_at c.args.heap.now) (height_at c.args.heap.now c.args.self.now) c.args.self.now c.requires.shape.well some (c.requires.shape.two some))

pub returns-clause-most : goal.returns-clause-most
returns-clause-most g c =
    let up : height_at c.args.heap.now c.args.self.now + 1 ≡ suc (height_at c.args.heap.now c.args.self.now) = omega arith in
    rw (c.height_of.ensures, c.self.view_is, up) (seq-le (form_at c.args.heap.now) (height_at c.args.heap.now c.args.self.now) c.args.self.now c.requires.shape.well)
