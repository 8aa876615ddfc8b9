use Rattle.std.proofs.Common.{◌≡◌, ◌≤◌, refl, subst, arith}
use Rattle.std.specs.Prelude.{IfOk}
use Rattle.elem_core.specs.declared.codes.TheConstants.{CODE_BITS}
use Rattle.pool_text.specs.Pool.{pool}
use Rattle.pool_text.specs.declared.rules.TheConstants.{PRESENT_VERSION}
use Rattle.pool_check.specs.Damages.{IsValid}
use Rattle.space_state.specs.View.{SpaceView}
use Rattle.plain_space.specs.Workspace.{most}
use Rattle.space_state.proofs.Front.{bits-are, history-is, pool-valid}
use Rattle.space_state.proofs.space.Space.pool.Goals as goal

pub returns-clause-value : goal.returns-clause-value
returns-clause-value c = subst (λ (v : SpaceView). IfOk c.pool.result (λ p. p ≡ v.pool)) c.self.view_is c.pool.ensures

pub returns-clause-valid : goal.returns-clause-valid
returns-clause-valid c = subst (λ (v : SpaceView). IsValid v.pool) c.self.view_is (pool-valid c.self.inside.rows c.self.invariant.0 c.self.invariant.1)

pub returns-clause-version : goal.returns-clause-version
unfolding pool
returns-clause-version c = subst (λ (v : SpaceView). v.pool.version ≡ PRESENT_VERSION) c.self.view_is refl

pub returns-clause-history : goal.returns-clause-history
returns-clause-history c =
    let bounded = c.self.invariant.1.bounded in
    subst (λ (v : SpaceView). v.pool.history ≤ most) c.self.view_is (omega (arith, history-is c.self.inside.rows, bounded.0, bounded.1))

pub returns-clause-bits : goal.returns-clause-bits
returns-clause-bits c = subst (λ (v : SpaceView). v.pool.bits ≤ CODE_BITS) c.self.view_is (omega (arith, bits-are c.self.inside.rows, c.self.invariant.1.bits))
