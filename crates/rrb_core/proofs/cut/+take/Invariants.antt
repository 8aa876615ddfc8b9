use Rattle.std.proofs.Common.{◌+◌, ◌*◌}
use Rattle.rrb_core.proofs.cut.+take.Given as goal

abbrev pub decreases-take_below : goal.decreases-take_below
decreases-take_below g l = 2 * l.height

abbrev pub decreases-take_inner : goal.decreases-take_inner
decreases-take_inner g l = 2 * l.below + 1
