use Rattle.std.proofs.Common.{◌≡◌}
use Rattle.container_tests.proofs.turns.Counted.add.Given as goal

abbrev pub invariant-loop-at : goal.invariant-loop-at
invariant-loop-at l = l.self.rows ≡ l.initial.self.rows
