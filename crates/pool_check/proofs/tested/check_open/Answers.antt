use Rattle.pool_check.proofs.TestedRows.{nothing-follows}
use Rattle.pool_check.proofs.tested.check_open.Goals as goal

pub make_tested-requires-clause-follows : goal.make_tested-requires-clause-follows
make_tested-requires-clause-follows c = nothing-follows c.args.pool c.in_ok-found.found c.in_ok-found.ensures
