use Rattle.std.proofs.Common.{drop}
use Rattle.rrb_core.specs.Vector.{elements}
use Rattle.same_value.specs.Places.{IsOnWay}
use Rattle.same_value.proofs.places.place_from.Given as goal

abbrev pub invariant-loop-place : goal.invariant-loop-place
invariant-loop-place g l = IsOnWay l.heap (drop l.index (elements l.heap l.fn.vector)) l.place

abbrev pub decreases-loop-place : goal.decreases-loop-place
decreases-loop-place g l = l.place.height
