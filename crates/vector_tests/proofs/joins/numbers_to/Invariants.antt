use Rattle.std.proofs.Common.{◌≡◌, vec_len}
use Rattle.vector_tests.proofs.joins.numbers_to.Given as goal

abbrev pub invariant-loop-number : goal.invariant-loop-number
invariant-loop-number l = vec_len l.numbers ≡ l.number
