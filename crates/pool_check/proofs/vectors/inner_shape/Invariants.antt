use Rattle.std.proofs.Common.{◌-◌, take}
use Rattle.node_heap.specs.Forms.{Forms}
use Rattle.pool_text.specs.Rows.{Bytes}
use Rattle.pool_check.specs.Shapes.{AreShapes}
use Rattle.pool_check.proofs.ShapeLemmas.{AreGrown}
use Rattle.pool_check.proofs.vectors.inner_shape.Given as goal

abbrev pub invariant-loop-link : goal.invariant-loop-link
invariant-loop-link l = (F : Forms Bytes) → AreShapes F l.fn.shapes → AreGrown F (l.fn.height - 1) (take l.link-index l.fn.links) l.length l.thick
