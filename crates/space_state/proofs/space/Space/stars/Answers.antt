use Rattle.space_state.proofs.Keeping.{current-stands}
use Rattle.space_state.proofs.Front.{asked}
use Rattle.space_state.proofs.space.Space.stars.Goals as goal

pub stars-requires-clause-bits : goal.stars-requires-clause-bits
stars-requires-clause-bits c = c.self.invariant.1.bits

pub stars-requires-clause-state : goal.stars-requires-clause-state
stars-requires-clause-state c = (c.self.invariant.0.current, current-stands c.self.invariant.1)

pub returns : goal.returns
returns c = asked c.self.inside.rows c.self.view_is c.self.invariant (λ W K. c.stars.ensures W.current (current-stands K))
