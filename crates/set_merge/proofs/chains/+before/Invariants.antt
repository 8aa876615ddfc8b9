use Rattle.std.proofs.Common.{◌+◌}
use Rattle.set_merge.proofs.chains.+before.Given as goal

abbrev pub decreases-before : goal.decreases-before
decreases-before g l = l.fronts.now.first + l.fronts.now.second
