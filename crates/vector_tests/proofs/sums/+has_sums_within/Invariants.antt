use Rattle.vector_tests.proofs.sums.+has_sums_within.Given as goal

abbrev pub decreases-has_sums_within : goal.decreases-has_sums_within
decreases-has_sums_within l = l.levels
