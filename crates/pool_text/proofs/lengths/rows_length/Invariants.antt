use Rattle.std.proofs.Common.{◌≡◌, take}
use Rattle.std.specs.Prelude.{sum_by}
use Rattle.pool_text.specs.Rows.{row_form}
use Rattle.pool_text.specs.Document.{row_value}
use Rattle.pool_text.specs.Length.{capped}
use Rattle.pool_text.proofs.TextLengths.{item_length}
use Rattle.pool_text.proofs.lengths.rows_length.Given as goal

abbrev pub invariant-loop-row : goal.invariant-loop-row
invariant-loop-row l = l.sum ≡ capped (sum_by (λ row. item_length (row_value (row_form row))) (take l.row-index l.rows))
