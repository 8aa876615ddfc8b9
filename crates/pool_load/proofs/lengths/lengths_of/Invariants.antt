use Rattle.std.proofs.Common.{◌≡◌, map, length}
use Rattle.pool_text.specs.Rows.{row_form}
use Rattle.pool_load.specs.Rows.{HaveLengths}
use Rattle.pool_load.proofs.lengths.lengths_of.Given as goal

abbrev pub invariant-loop-row : goal.invariant-loop-row
invariant-loop-row l =
    record {
      many : length l.lengths.items ≡ l.row-index;
      lengths : HaveLengths (map row_form l.rows) l.lengths.items;
    }
