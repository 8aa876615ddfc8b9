use Rattle.std.proofs.Common.{IsSome}
use Rattle.std.specs.List.{All}
use Rattle.node_heap.specs.Heap.{row_at}
use Rattle.pool_tests.proofs.orders.links_at.Given as goal

abbrev pub invariant-loop-turn : goal.invariant-loop-turn
invariant-loop-turn g l = All (λ k. IsSome (row_at l.fn.heap k)) l.found.items
