use Rattle.std.proofs.Common.{map, length, take}
use Rattle.pool_text.specs.Rows.{row_form}
use Rattle.versions_pool.proofs.ApartLemmas.{AreMarkedOf}
use Rattle.versions_pool.proofs.apart.value_marks.Given as goal

abbrev pub invariant-loop-row : goal.invariant-loop-row
invariant-loop-row l = AreMarkedOf (map row_form (take l.row-index l.rows)) (length l.rows) l.marks.items
