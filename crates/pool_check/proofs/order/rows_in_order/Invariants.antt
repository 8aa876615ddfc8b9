use Rattle.std.proofs.Common.{◌≡◌, take}
use Rattle.std.specs.List.{flat_map, range_with_len}
use Rattle.node_heap.specs.Forms.{links_in}
use Rattle.pool_order.specs.Order.{firsts, places}
use Rattle.pool_text.specs.Pool.{forms_in, row_count}
use Rattle.pool_check.proofs.order.rows_in_order.Given as goal

abbrev pub invariant-loop-root : goal.invariant-loop-root
invariant-loop-root l = firsts (flat_map (places (row_count l.pool) (links_in (forms_in l.pool))) (take l.root-index l.root-items)) ≡ range_with_len 0 l.next
