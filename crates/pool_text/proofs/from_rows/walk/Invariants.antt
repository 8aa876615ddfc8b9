use Rattle.std.proofs.Common.{◌<◌, length}
use Rattle.pool_order.specs.Order.{places, with_all_new}
use Rattle.pool_order.proofs.Pending.{IsWalk, steps_left}
use Rattle.pool_text.specs.Pool.{links_from}
use Rattle.pool_text.specs.Listed.{HasPlaces}
use Rattle.pool_text.proofs.from_rows.walk.Given as goal

abbrev pub invariant-loop-visit : goal.invariant-loop-visit
invariant-loop-visit l =
    IsWalk (length l.rows) (links_from l.rows) (λ k. k < length l.rows) l.listed.rows.items (with_all_new l.fn.listed.rows.items (places (length l.rows) (links_from l.rows) l.fn.root)) l.stack.items
    × HasPlaces (length l.rows) l.listed

abbrev pub decreases-loop-visit : goal.decreases-loop-visit
decreases-loop-visit l = steps_left (length l.rows) (links_from l.rows) l.stack.items
