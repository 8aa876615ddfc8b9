use Rattle.std.proofs.Common.{length}
use Rattle.std.specs.Prelude.{IsSome}
use Rattle.node_heap.specs.Heap.{row_at, links_at}
use Rattle.pool_order.specs.Order.{places, with_all_new}
use Rattle.pool_order.proofs.Pending.{IsWalk, steps_left}
use Rattle.pool_order.proofs.walk.walk.Given as goal

abbrev pub invariant-loop-visit : goal.invariant-loop-visit
invariant-loop-visit g l =
    IsWalk (length l.heap.rows) (links_at l.heap) (λ k. IsSome (row_at l.heap k)) l.seen.keys (with_all_new l.fn.seen.keys (places (length l.heap.rows) (links_at l.heap) l.fn.root)) l.stack.items

abbrev pub decreases-loop-visit : goal.decreases-loop-visit
decreases-loop-visit g l = steps_left (length l.heap.rows) (links_at l.heap) l.stack.items
