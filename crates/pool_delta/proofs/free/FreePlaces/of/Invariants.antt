use Rattle.std.proofs.Common.{[], map, drop}
use Rattle.pool_text.specs.Rows.{row_form}
use Rattle.pool_delta.specs.Free.{AreFreeFrom}
use Rattle.pool_delta.proofs.free.FreePlaces.of.Given as goal

abbrev pub invariant-loop-place : goal.invariant-loop-place
invariant-loop-place l = AreFreeFrom l.place (drop l.place (map row_form l.rows)) [] l.free
