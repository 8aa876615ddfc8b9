use Rattle.std.proofs.Common.{◌≡◌, map}
use Rattle.serde_json.specs.View.{view}
use Rattle.pool_text.specs.Rows.{row_form}
use Rattle.pool_text.specs.Document.{row_value}
use Rattle.pool_text.proofs.written.rows_into_value.Given as goal

abbrev pub invariant-loop-row : goal.invariant-loop-row
invariant-loop-row l = map view l.items.items ≡ map (λ row. row_value (row_form row)) l.yielded
