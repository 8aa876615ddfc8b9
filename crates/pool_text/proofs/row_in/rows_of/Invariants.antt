use Rattle.std.proofs.Common.{◌≡◌, map, take, Some}
use Rattle.serde_json.specs.View.{view}
use Rattle.pool_text.specs.Rows.{row_form}
use Rattle.pool_text.specs.Document.{row_in, all_of}
use Rattle.pool_text.proofs.row_in.rows_of.Given as goal

abbrev pub invariant-loop-value : goal.invariant-loop-value
invariant-loop-value l = all_of (row_in l.deepest) (map view (take l.value-index l.values)) ≡ Some (map row_form l.rows.items)
