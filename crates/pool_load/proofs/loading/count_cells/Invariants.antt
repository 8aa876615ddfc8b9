use Rattle.std.proofs.Common.{◌≡◌, ◌≤◌, map, take}
use Rattle.pool_text.specs.Rows.{row_form}
use Rattle.pool_load.specs.Loads.{cells_of}
use Rattle.pool_load.proofs.loading.count_cells.Given as goal

abbrev pub invariant-loop-row : goal.invariant-loop-row
invariant-loop-row l =
    record {
      few : l.cells ≤ l.row-index;
      cells : l.cells ≡ cells_of (map row_form (take l.row-index l.rows));
    }
