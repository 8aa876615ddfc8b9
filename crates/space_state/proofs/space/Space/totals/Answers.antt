use Rattle.std.proofs.Common.{subst}
use Rattle.state_rows.specs.Standing.{StandsFor}
use Rattle.space_state.specs.View.{SpaceView}
use Rattle.space_state.proofs.Keeping.{current-stands}
use Rattle.space_state.proofs.Front.{pool-is}
use Rattle.space_state.proofs.space.Space.totals.Goals as goal

pub totals-requires-clause-bits : goal.totals-requires-clause-bits
totals-requires-clause-bits c = c.self.invariant.1.bits

pub totals-requires-clause-state : goal.totals-requires-clause-state
totals-requires-clause-state c = (c.self.invariant.0.current, current-stands c.self.invariant.1)

pub returns : goal.returns
returns c = (
  c.self.invariant.0,
  subst (λ (v : SpaceView). StandsFor v.pool c.self.invariant.0) c.self.view_is (pool-is c.self.inside.rows c.self.invariant.0 c.self.invariant.1),
  c.totals.ensures.buffers c.self.invariant.0.current (current-stands c.self.invariant.1),
  c.totals.ensures.lines c.self.invariant.0.current (current-stands c.self.invariant.1),
)
