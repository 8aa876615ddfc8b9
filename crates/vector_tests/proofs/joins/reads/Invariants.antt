use Rattle.std.proofs.Common.{IsSome}
use Rattle.std.specs.List.{All}
use Rattle.node_heap.specs.Heap.{row_at}
use Rattle.vector_tests.proofs.joins.reads.Given as goal

abbrev pub invariant-loop-number : goal.invariant-loop-number
invariant-loop-number l =
    record {
      next : (goal.iterator-loop-number).can_next l.lines;
      finite : (goal.iterator-loop-number).is_finite l.lines;
      live : All (λ element. IsSome (row_at l.heap element)) l.lines;
    }
