use Rattle.std.proofs.Common.{◌<◌, ◌≤◌}
use Rattle.node_heap.specs.Heap.{holds_at, hold_count}
use Rattle.rrb_core.specs.Vector.{IsGoodVector}
use Rattle.vector_tests.proofs.joins.check_cuts_and_joins_as_lists_do.Given as goal

abbrev pub invariant-loop-step : goal.invariant-loop-step
invariant-loop-step g l =
    record {
      good : IsGoodVector l.heap l.root;
      held : 0 < holds_at l.heap l.root;
      few : hold_count l.heap ≤ 2001;
    }
