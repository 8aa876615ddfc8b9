use Rattle.space_state.proofs.Keeping.{current-stands}
use Rattle.space_state.proofs.Front.{asked}
use Rattle.space_state.proofs.space.Space.names.Goals as goal

pub names-requires-clause-bits : goal.names-requires-clause-bits
names-requires-clause-bits c = c.self.invariant.1.bits

pub names-requires-clause-state : goal.names-requires-clause-state
names-requires-clause-state c = (c.self.invariant.0.current, current-stands c.self.invariant.1)

pub returns : goal.returns
returns c = asked c.self.inside.rows c.self.view_is c.self.invariant (λ W K. c.names.ensures W.current (current-stands K))
