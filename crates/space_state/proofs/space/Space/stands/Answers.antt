use Rattle.space_state.proofs.Front.{stood}
use Rattle.space_state.proofs.space.Space.stands.Goals as goal

pub returns : goal.returns
returns c = stood c.self.inside.rows c.self.view_is c.self.invariant
