use Rattle.pool_check.proofs.Versions.{present-are, present-range, present-bits}
use Rattle.pool_tests.proofs.documents.present_pool.Goals as goal

pub returns-else-pool-eq-FIRST_VERSION-clause-rules : goal.returns-else-pool-eq-FIRST_VERSION-clause-rules
returns-else-pool-eq-FIRST_VERSION-clause-rules c = present-are c.in_ok-pool.pool c.in_ok-pool.ensures.rows c.if-pool-eq-FIRST_VERSION.false

pub returns-else-pool-eq-FIRST_VERSION-clause-bits : goal.returns-else-pool-eq-FIRST_VERSION-clause-bits
returns-else-pool-eq-FIRST_VERSION-clause-bits c = present-bits c.in_ok-pool.pool c.args.bits c.in_ok-pool.ensures.bits c.if-pool-eq-FIRST_VERSION.false

pub returns-else-pool-eq-FIRST_VERSION-clause-rows : goal.returns-else-pool-eq-FIRST_VERSION-clause-rows
returns-else-pool-eq-FIRST_VERSION-clause-rows c = present-range c.in_ok-pool.pool c.in_ok-pool.ensures.rows c.if-pool-eq-FIRST_VERSION.false
