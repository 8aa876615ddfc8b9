use Rattle.space_state.proofs.Front.{stood}
use Rattle.space_state.proofs.space.Space.made.Goals as goal

pub returns-clause-stands : goal.returns-clause-stands
returns-clause-stands c = stood c.self.inside.rows c.self.view_is c.self.invariant
