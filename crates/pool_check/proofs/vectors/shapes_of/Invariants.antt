use Rattle.std.proofs.Common.{◌≡◌, ◌≤◌, true, take, length}
use Rattle.std.specs.List.{list_all}
use Rattle.pool_text.specs.Rows.{row_form}
use Rattle.pool_text.specs.Pool.{forms_in}
use Rattle.pool_check.specs.Vectors.{keeps_fill_rule}
use Rattle.pool_check.specs.Shapes.{AreShapes}
use Rattle.pool_check.proofs.vectors.shapes_of.Given as goal

abbrev pub invariant-loop-place : goal.invariant-loop-place
invariant-loop-place l = record {
  shapes : AreShapes (forms_in l.fn.pool) l.shapes.items;
  count : length l.shapes.items ≡ l.place;
  few : l.place ≤ length l.rows;
  stand : list_all (λ row. keeps_fill_rule (forms_in l.fn.pool) (row_form row)) (take l.place l.rows) ≡ true;
}
