use Rattle.std.proofs.Common.{◌≡◌, ◌+◌, ◌≤◌, drop}
use Rattle.rrb_core.specs.Vector.{elements}
use Rattle.same_value.specs.Places.{IsOnWay}
use Rattle.same_value.proofs.vectors.alike_from.Given as goal

abbrev pub invariant-loop-left : goal.invariant-loop-left
invariant-loop-left g l =
    record {
      left : IsOnWay l.heap (drop l.index (elements l.heap l.fn.a)) l.left;
      right : IsOnWay l.heap (drop l.index (elements l.heap l.fn.b)) l.right;
      left_begins : 1 ≤ l.left.height → l.left.within ≡ 0;
      right_begins : 1 ≤ l.right.height → l.right.within ≡ 0;
    }

abbrev pub decreases-loop-left : goal.decreases-loop-left
decreases-loop-left g l = l.left.height + l.right.height
