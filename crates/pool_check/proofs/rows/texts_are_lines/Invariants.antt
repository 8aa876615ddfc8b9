use Rattle.std.proofs.Common.{◌≡◌, true, take}
use Rattle.std.specs.List.{list_all}
use Rattle.pool_text.specs.Rows.{row_form}
use Rattle.pool_check.specs.Rows.{is_line_or_node}
use Rattle.pool_check.proofs.rows.texts_are_lines.Given as goal

abbrev pub invariant-loop-place : goal.invariant-loop-place
invariant-loop-place l = list_all (λ row. is_line_or_node (row_form row)) (take l.place l.rows) ≡ true
