use Rattle.std.proofs.Common.{◌≡◌, take}
use Rattle.pool_load.specs.Rows.{sum_over}
use Rattle.pool_load.proofs.lengths.sum_of.Given as goal

abbrev pub invariant-loop-place : goal.invariant-loop-place
invariant-loop-place l = l.total ≡ sum_over l.lengths (take l.place-index l.places)
