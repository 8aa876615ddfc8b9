use Rattle.std.proofs.Common.{ap}
use Rattle.pool_text.specs.Rules.{rules_of}
use Rattle.pool_check.specs.Rows.{rows_in_range_by}
use Rattle.pool_tests.proofs.roots.quoted.Goals as goal

pub check_roots-requires-clause-rules : goal.check_roots-requires-clause-rules
check_roots-requires-clause-rules c = ap rules_of c.in_ok-mapped.ensures.version

pub check_roots-requires-clause-rows : goal.check_roots-requires-clause-rows
unfolding rows_in_range_by
check_roots-requires-clause-rows c = c.in_ok-mapped.ensures.range c.pool-pool.ensures.rows.in_range
