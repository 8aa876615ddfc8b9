use Rattle.std.proofs.Common.{◌≡◌, ◌+◌, ◌-◌, ℕ}
use Rattle.node_heap.specs.Heap.{hold_count}
use Rattle.rrb_core.specs.Vector.{IsGoodVector}
use Rattle.vector_tests.proofs.samples.pushed_all.Given as goal

abbrev pub invariant-loop-number : goal.invariant-loop-number
invariant-loop-number l =
    record {
      good : IsGoodVector l.heap l.root;
      others : (k : ℕ) → IsGoodVector l.initial.heap k → IsGoodVector l.heap k;
      count : hold_count l.heap ≡ hold_count l.initial.heap + (l.number - l.from);
    }
