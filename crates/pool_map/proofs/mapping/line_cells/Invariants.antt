use Rattle.std.proofs.Common.{◌≡◌, take}
use Rattle.std.specs.List.{flat_map}
use Rattle.pool_order.specs.Order.{firsts}
use Rattle.pool_text.specs.Pool.{forms_in}
use Rattle.pool_map.specs.Lines.{cells_in, leaf_links}
use Rattle.pool_map.proofs.mapping.line_cells.Given as goal

abbrev pub invariant-loop-row : goal.invariant-loop-row
invariant-loop-row l = l.places.keys ≡ firsts (flat_map (λ row. cells_in (forms_in l.pool) (leaf_links row)) (take l.row-index l.pool.rows))
