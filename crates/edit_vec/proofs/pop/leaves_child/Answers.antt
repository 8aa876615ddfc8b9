use Rattle.std.proofs.Common.{arith}
use Rattle.rrb_core.specs.Vector.{height_at}
use Rattle.rrb_core.proofs.Stays.{well-live}
use Rattle.edit_vec.proofs.PopTop.{root-child}
use Rattle.edit_vec.proofs.pop.leaves_child.Goals as goal

pub links-links-requires : goal.links-links-requires
links-links-requires g c = well-live c.args.heap.now (height_at c.args.heap.now c.args.root) c.args.root c.requires.good.shape.well

pub is_single-requires-clause-well : goal.is_single-requires-clause-well
is_single-requires-clause-well g c =
    (root-child c.args.heap.now c.args.height c.args.root 1 c.index-links-1.result c.links-links.result.now c.requires.good c.requires.height (omega arith) c.links-links.ensures.links (omega (arith, c.if-links-eq2.true)) c.index-links-1.is).well

pub is_single-requires-clause-sums : goal.is_single-requires-clause-sums
is_single-requires-clause-sums g c =
    (root-child c.args.heap.now c.args.height c.args.root 1 c.index-links-1.result c.links-links.result.now c.requires.good c.requires.height (omega arith) c.links-links.ensures.links (omega (arith, c.if-links-eq2.true)) c.index-links-1.is).sums

pub is_single-requires-clause-short : goal.is_single-requires-clause-short
is_single-requires-clause-short g c =
    (root-child c.args.heap.now c.args.height c.args.root 1 c.index-links-1.result c.links-links.result.now c.requires.good c.requires.height (omega arith) c.links-links.ensures.links (omega (arith, c.if-links-eq2.true)) c.index-links-1.is).short
