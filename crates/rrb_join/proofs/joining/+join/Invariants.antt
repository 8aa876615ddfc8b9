use Rattle.std.proofs.Common.{◌+◌, ◌*◌}
use Rattle.rrb_join.proofs.joining.+join.Given as goal

abbrev pub decreases-joined_rows : goal.decreases-joined_rows
decreases-joined_rows g l = 2 * l.height + 1

abbrev pub decreases-join : goal.decreases-join
decreases-join g l = 2 * l.height
