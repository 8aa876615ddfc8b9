use Rattle.space_state.proofs.Front.{asked}
use Rattle.space_state.proofs.space.Space.same.Goals as goal

pub returns : goal.returns
returns c = asked c.self.inside.rows c.self.view_is c.self.invariant c.same.ensures
