use Rattle.std.proofs.Common.{take}
use Rattle.pool_load.specs.Making.{GivesUp}
use Rattle.pool_load.proofs.loading.release_all.Given as goal

abbrev pub invariant-loop-link : goal.invariant-loop-link
invariant-loop-link g l = GivesUp l.initial.heap l.heap (take l.link-index l.links)
