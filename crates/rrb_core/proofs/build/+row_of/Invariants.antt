use Rattle.std.proofs.Common.{◌≤◌, ◌-◌, length}
use Rattle.rrb_core.specs.Filled.{MakesRows}
use Rattle.rrb_core.proofs.build.+row_of.Given as goal

abbrev pub decreases-row_of : goal.decreases-row_of
decreases-row_of g l = l.height

abbrev pub invariant-loop-done : goal.invariant-loop-done
invariant-loop-done g l =
    record {
      made : MakesRows l.initial.heap l.heap l.links l.below l.done l.rows.items;
      inside : l.done ≤ length l.links;
    }

abbrev pub decreases-loop-done : goal.decreases-loop-done
decreases-loop-done g l = length l.links - l.done
