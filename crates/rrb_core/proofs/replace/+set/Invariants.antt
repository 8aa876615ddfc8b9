use Rattle.std.proofs.Common.{◌+◌, ◌*◌}
use Rattle.rrb_core.proofs.replace.+set.Given as goal

abbrev pub decreases-set_below : goal.decreases-set_below
decreases-set_below g l = 2 * l.height

abbrev pub decreases-set_inner : goal.decreases-set_inner
decreases-set_inner g l = 2 * l.below + 1
