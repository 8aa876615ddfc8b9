use Rattle.std.proofs.Common.{arith}
use Rattle.vector_tests.proofs.joins.twice.Goals as goal

pub insert-requires-clause-held : goal.insert-requires-clause-held
insert-requires-clause-held c = omega (arith, c.in_ok-empty.ensures.answered.holds c.args.cell, c.requires.held)
