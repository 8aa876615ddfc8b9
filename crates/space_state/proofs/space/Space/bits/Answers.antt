use Rattle.std.proofs.Common.{ap, sym, ◌∙◌}
use Rattle.space_state.specs.View.{SpaceView}
use Rattle.space_state.proofs.Front.{bits-are}
use Rattle.space_state.proofs.space.Space.bits.Goals as goal

pub returns-clause-kept : goal.returns-clause-kept
returns-clause-kept c = sym (bits-are c.self.inside.rows) ∙ ap (λ (v : SpaceView). v.pool.bits) c.self.view_is

pub returns-clause-small : goal.returns-clause-small
returns-clause-small c = c.self.invariant.1.bits
