use Rattle.pool_check.proofs.Versions.{first-range, first-bits}
use Rattle.pool_tests.proofs.documents.old_pool.Goals as goal

pub returns-then-pool-eq-FIRST_VERSION-clause-bits : goal.returns-then-pool-eq-FIRST_VERSION-clause-bits
returns-then-pool-eq-FIRST_VERSION-clause-bits c = first-bits c.in_ok-pool.pool c.args.bits c.in_ok-pool.ensures.bits c.if-pool-eq-FIRST_VERSION.true

pub returns-then-pool-eq-FIRST_VERSION-clause-rows : goal.returns-then-pool-eq-FIRST_VERSION-clause-rows
returns-then-pool-eq-FIRST_VERSION-clause-rows c = first-range c.in_ok-pool.pool c.in_ok-pool.ensures.rows c.if-pool-eq-FIRST_VERSION.true
