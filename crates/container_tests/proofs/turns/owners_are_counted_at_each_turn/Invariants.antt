use Rattle.std.proofs.Common.{◌≤◌}
use Rattle.arrayvec.specs.ArrayVec.{array_vec_len}
use Rattle.container_tests.specs.Turns.{AreHeld}
use Rattle.container_tests.proofs.turns.owners_are_counted_at_each_turn.Given as goal

abbrev pub invariant-loop : goal.invariant-loop
invariant-loop g l =
    record {
      held : AreHeld l.turns.heap l.turns.held.items;
      few : array_vec_len l.turns.held ≤ 20;
    }

abbrev pub invariant-loop-turns : goal.invariant-loop-turns
invariant-loop-turns g l = AreHeld l.turns.heap l.turns.held.items

abbrev pub decreases-loop-turns : goal.decreases-loop-turns
decreases-loop-turns g l = array_vec_len l.turns.held

abbrev pub invariant-loop-turns-2 : goal.invariant-loop-turns-2
invariant-loop-turns-2 g l = AreHeld l.turns.heap l.turns.held.items

abbrev pub decreases-loop-turns-2 : goal.decreases-loop-turns-2
decreases-loop-turns-2 g l = array_vec_len l.turns.held
