use Rattle.std.proofs.Common.{ℕ, ◌<◌, IsSome}
use Rattle.node_heap.specs.Links.{count}
use Rattle.node_heap.specs.Heap.{row_at}
use Rattle.container_tests.proofs.turns.rows_from.Given as goal

abbrev pub invariant-loop-at : goal.invariant-loop-at
invariant-loop-at l = (k : ℕ) → 0 < count k l.all.rows.items → IsSome (row_at l.heap k)
