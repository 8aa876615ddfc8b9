use Rattle.std.proofs.Common.{map, length}
use Rattle.std.specs.List.{range_with_len}
use Rattle.pool_order.specs.Order.{places, with_all_new}
use Rattle.pool_text.specs.Rows.{row_form}
use Rattle.pool_text.specs.Pool.{links_from}
use Rattle.pool_check.proofs.OrderWalk.{IsWalk, steps_left}
use Rattle.pool_check.proofs.order.next_after.Given as goal

abbrev pub invariant-loop-visit : goal.invariant-loop-visit
invariant-loop-visit l =
    IsWalk (length l.rows) (links_from (map row_form l.rows)) l.next (with_all_new (range_with_len 0 l.fn.next) (places (length l.rows) (links_from (map row_form l.rows)) l.root)) l.stack.items

abbrev pub decreases-loop-visit : goal.decreases-loop-visit
decreases-loop-visit l = steps_left (length l.rows) (links_from (map row_form l.rows)) l.stack.items
