use Rattle.std.proofs.Common.{IsSome}
use Rattle.node_heap.specs.Heap.{row_at}
use Rattle.pool_tests.proofs.Counted.{counted}
use Rattle.pool_tests.proofs.orders.Rows.order.Goals as goal

pub order-requires : goal.order-requires
order-requires g c = record { live = counted (λ l. IsSome (row_at c.self.inside.heap l)) c.deref.result.now (rw c.deref.ensures.value c.links_at-roots.ensures) }
