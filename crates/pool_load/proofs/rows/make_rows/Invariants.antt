use Rattle.std.proofs.Common.{◌≡◌, ◌≤◌, map, length, vec_capacity}
use Rattle.pool_text.specs.Rows.{row_form}
use Rattle.pool_load.specs.Making.{AreMade, AreValued}
use Rattle.pool_load.proofs.rows.make_rows.Given as goal

abbrev pub invariant-loop-row : goal.invariant-loop-row
invariant-loop-row g l =
    record {
      made : AreMade g.C.CellValues.bytes_of l.initial.heap l.heap (map row_form l.fn.rows.items) l.links.items;
      valued : AreValued g.C.CellValues.bytes_of (g.C.CellValues.value_at l.values) l.heap l.links.items;
      count : length l.links.items ≡ length l.yielded;
      room : length l.fn.rows.items ≤ vec_capacity l.links;
    }
