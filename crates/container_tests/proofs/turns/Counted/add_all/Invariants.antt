use Rattle.std.proofs.Common.{ℕ, ◌<◌, IsSome}
use Rattle.node_heap.specs.Links.{count}
use Rattle.node_heap.specs.Heap.{row_at}
use Rattle.container_tests.proofs.turns.Counted.add_all.Given as goal

abbrev pub invariant-loop-link : goal.invariant-loop-link
invariant-loop-link l = (k : ℕ) → 0 < count k l.self.rows.items → IsSome (row_at l.heap k)
