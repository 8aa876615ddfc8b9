use Rattle.rrb_core.proofs.Stays.{extended-same}
use Rattle.vector_tests.proofs.editing.opened.Goals as goal

pub returns-clause-others : goal.returns-clause-others
returns-clause-others g c = λ l good. (extended-same c.in-Ok.ensures.extends l good).0
