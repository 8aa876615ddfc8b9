use Rattle.std.proofs.Common.{◌+◌, ◌*◌}
use Rattle.rrb_core.proofs.grow.+push.Given as goal

abbrev pub decreases-push_below : goal.decreases-push_below
decreases-push_below g l = 2 * l.height

abbrev pub decreases-push_inner : goal.decreases-push_inner
decreases-push_inner g l = 2 * l.below + 1
