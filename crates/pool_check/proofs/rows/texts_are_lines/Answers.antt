use Rattle.std.proofs.Common.{List, ap, sym, ◌∙◌, arith}
use Rattle.std.specs.List.{list_all}
use Rattle.pool_text.specs.Rows.{row_form}
use Rattle.pool_text.specs.declared.row.Row.{Row}
use Rattle.pool_text.proofs.Gathered.{take_all}
use Rattle.pool_check.specs.Rows.{is_line_or_node}
use Rattle.pool_check.proofs.RowTests.{first-lines, more-lines, no-lines, all-lines}
use Rattle.pool_check.proofs.rows.texts_are_lines.Goals as goal

pub loop-place-init : goal.loop-place-init
loop-place-init c = first-lines c.args.pool.now c.as_slice-rows.result.now c.as_slice-rows.ensures c.args.from c.requires

pub returns-then-not-is_line_or_node_row : goal.returns-then-not-is_line_or_node_row
returns-then-not-is_line_or_node_row c =
    no-lines c.args.pool.now c.as_slice-rows.result.now c.as_slice-rows.ensures c.loop-place.place c.index-rows-place.result (omega arith) c.index-rows-place.is c.if-not-is_line_or_node_row.ensures

pub loop-place-preserved : goal.loop-place-preserved
loop-place-preserved c = more-lines c.as_slice-rows.result.now c.loop-place.place c.index-rows-place.result (omega arith) c.index-rows-place.is c.if-not-is_line_or_node_row.ensures c.loop-place.invariant

pub returns : goal.returns
returns c =
    let rows = c.as_slice-rows.result.now in
    all-lines c.args.pool.now rows c.as_slice-rows.ensures
    (ap (λ (rs : List Row). list_all (λ row. is_line_or_node (row_form row)) rs) (sym (take_all rows c.loop-place.place (omega arith))) ∙ c.loop-place.invariant)
