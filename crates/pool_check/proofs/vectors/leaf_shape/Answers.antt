use Rattle.pool_check.proofs.ShapeLemmas.{leaf-is}
use Rattle.pool_check.proofs.vectors.leaf_shape.Goals as goal

pub returns : goal.returns
returns c F l same = leaf-is F l c.args.elements.now c.is_empty.result same c.is_empty.ensures
