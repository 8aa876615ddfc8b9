use Rattle.std.proofs.Common.{◌≡◌, ◌+◌, List, ℕ, map, length, ap, sym, ◌∙◌, arith}
use Rattle.std.specs.Prelude.{sum_by, max}
use Rattle.serde_json.specs.Data.{Data}
use Rattle.serde_json.specs.Written.{compact_text}
use Rattle.pool_text.specs.Rows.{row_form}
use Rattle.pool_text.specs.Document.{list, row_value}
use Rattle.pool_text.specs.Length.{capped}
use Rattle.pool_text.specs.declared.row.Row.{Row}
use Rattle.pool_text.proofs.Gathered.{take_all}
use Rattle.pool_text.proofs.TextLengths.{item_length, array-length, sum-map, capped-last}
use Rattle.pool_text.proofs.lengths.rows_length.Goals as goal

pub returns : goal.returns
returns c =
    let rs : List Row = c.args.rows.now in
    let value : Row → Data = λ row. row_value (row_form row) in
    let size : Row → ℕ = λ row. item_length (row_value (row_form row)) in
    let whole : length (compact_text (list (map value rs))) ≡ max (sum_by size rs) 1 + 1 = array-length (map value rs) ∙ ap (λ n. max n 1 + 1) (sum-map value rs) in
    let sum : c.loop-row.sum ≡ capped (sum_by size rs) = c.loop-row.invariant ∙ ap (λ (xs : List Row). capped (sum_by size xs)) (take_all rs c.loop-row.row-index (omega arith)) in
    c.saturating_add-2.ensures ∙ ap (λ n. capped (n + 1)) (c.max.ensures ∙ ap (λ n. max n 1) sum) ∙ capped-last (sum_by size rs) ∙ ap capped (sym whole)
