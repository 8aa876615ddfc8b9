use Rattle.std.proofs.Common.{◌≡◌, map, take, option_map, slice_get}
use Rattle.std.specs.List.{filter_map}
use Rattle.pool_text.specs.Rows.{row_form}
use Rattle.pool_text.specs.Pool.{place_in, relink}
use Rattle.pool_text.proofs.from_rows.pool_of_rows.Given as goal

abbrev pub invariant-loop-row : goal.invariant-loop-row
invariant-loop-row l = map row_form l.made.items ≡ filter_map (λ k. option_map (relink (place_in l.row-items)) (slice_get l.rows k)) (take l.row-index l.row-items)
