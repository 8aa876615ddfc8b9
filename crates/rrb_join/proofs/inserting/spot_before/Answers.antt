use Rattle.std.proofs.Common.{arith}
use Rattle.rrb_core.proofs.RowLists.{over}
use Rattle.rrb_join.proofs.inserting.spot_before.Goals as goal

pub returns-then-index-eq0-clause-place : goal.returns-then-index-eq0-clause-place
returns-then-index-eq0-clause-place g c = omega (arith, (over c.args.heap.now c.args.below c.args.link c.requires.well c.requires.sums).some)
