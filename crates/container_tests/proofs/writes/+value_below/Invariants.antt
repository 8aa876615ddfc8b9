use Rattle.container_tests.proofs.writes.+value_below.Given as goal

abbrev pub decreases-value_below : goal.decreases-value_below
decreases-value_below g l = l.levels
