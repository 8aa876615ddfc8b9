use Rattle.pool_check.proofs.DocumentLaw.{no-memory}
use Rattle.pool_check.proofs.laws.damages_are_tests.Goals as goal

pub returns : goal.returns
returns c bits bytes is = no-memory bits bytes is
