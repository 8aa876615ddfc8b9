use Rattle.std.proofs.Common.{ℕ, List, map, ap, sym}
use Rattle.serde_json.specs.View.{view}
use Rattle.pool_text.specs.Rows.{is_in_range_to, row_form}
use Rattle.pool_text.specs.Document.{inner_form, form_after, kept_if}
use Rattle.pool_text.specs.declared.damage.Damage.TheVariants.{Row as RowDamage}
use Rattle.pool_text.proofs.Refusals.{reads-same}
use Rattle.pool_text.proofs.row_in.row_after.Goals as goal

-- an inner row is in range however deep tries go
pub returns-in-i : goal.returns-in-i
returns-in-i c =
    reads-same row_form RowDamage (kept_if (is_in_range_to c.args.deepest) (inner_form (map view c.args.rest.now))) _ c.inner_row.result
    (ap (λ (letter : List ℕ). kept_if (is_in_range_to c.args.deepest) (form_after letter (map view c.args.rest.now))) (sym c.in-i.is)) (c.inner_row.ensures c.args.deepest)
