use Rattle.pool_delta.proofs.PlacedCode.{HoldsAt}
use Rattle.pool_delta.proofs.delta.placed.Given as goal

abbrev pub invariant-loop-row : goal.invariant-loop-row
invariant-loop-row l = HoldsAt l.chain l.rows l.row-index l.places.items l.own.items l.free
