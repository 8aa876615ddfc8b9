use Rattle.rrb_core.proofs.Stays.{vector-stays}
use Rattle.rrb_core.proofs.flex.Flex.release.Goals as goal

pub returns-clause-vectors : goal.returns-clause-vectors
returns-clause-vectors g c = λ l left. vector-stays g.row.T.Denot c.args.heap.now c.release.new.self l (c.release.ensures.keeps.kept l (rw c.self.view_is left))
