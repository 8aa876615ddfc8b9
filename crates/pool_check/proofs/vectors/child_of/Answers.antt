use Rattle.std.proofs.Common.{◌∙◌}
use Rattle.pool_check.proofs.ShapeLemmas.{child-none, child-some, child-other}
use Rattle.pool_check.proofs.vectors.child_of.Goals as goal

pub returns-then-shape-height : goal.returns-then-shape-height
returns-then-shape-height c F are = child-some F c.args.shapes.now are c.args.height c.args.link c.requires c.in_ok-shape.shape c.in_ok-shape.was c.if-shape-height.true

pub returns-else-shape-height : goal.returns-else-shape-height
returns-else-shape-height c F are = child-other F c.args.shapes.now are c.args.height c.args.link c.requires c.in_ok-shape.shape c.in_ok-shape.was c.if-shape-height.false

pub returns-in_err-shape : goal.returns-in_err-shape
returns-in_err-shape c F are = c.from_residual.ensures ∙ child-none F c.args.shapes.now are c.args.height c.args.link c.requires c.in_err-shape.was
