use Rattle.std.proofs.Common.{◌<◌, ◌≤◌, ◌-◌, ◌^◌}
use Rattle.node_heap.specs.declared.row.TheConstants.{MOST_HEIGHT}
use Rattle.rrb_core.proofs.build.lowest_height.Given as goal

abbrev pub invariant-loop-height : goal.invariant-loop-height
invariant-loop-height l =
    record {
      lowest : 1 ≤ l.height → 32 ^ l.height < l.count;
      low : l.height < MOST_HEIGHT;
    }

abbrev pub decreases-loop-height : goal.decreases-loop-height
decreases-loop-height l = MOST_HEIGHT - l.height
