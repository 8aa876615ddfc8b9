use Rattle.std.proofs.Common.{sym, ap, ◌∙◌, subst}
use Rattle.pool_text.specs.Pool.{row_count}
use Rattle.pool_check.specs.Damages.{IsValid}
use Rattle.space_state.specs.View.{SpaceView}
use Rattle.space_state.proofs.Front.{pool-valid, rows-are, stood}
use Rattle.space_state.proofs.space.Space.rows.Goals as goal

pub returns-clause-stands : goal.returns-clause-stands
returns-clause-stands c = stood c.self.inside.rows c.self.view_is c.self.invariant

pub returns-clause-live : goal.returns-clause-live
returns-clause-live c = c.live.ensures.value ∙ ap (λ (v : SpaceView). v.live) c.self.view_is

pub returns-clause-count : goal.returns-clause-count
returns-clause-count c =
    sym (ap (λ (v : SpaceView). v.live) c.self.view_is) ∙ sym (rows-are c.self.inside.rows c.self.invariant.0 c.self.invariant.1) ∙ ap (λ (v : SpaceView). row_count v.pool) c.self.view_is

pub returns-clause-valid : goal.returns-clause-valid
returns-clause-valid c = subst (λ (v : SpaceView). IsValid v.pool) c.self.view_is (pool-valid c.self.inside.rows c.self.invariant.0 c.self.invariant.1)
