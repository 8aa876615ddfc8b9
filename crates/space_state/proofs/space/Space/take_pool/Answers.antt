use Rattle.std.proofs.Common.{sym, ap, subst, ◌∙◌}
use Rattle.space_state.specs.View.{SpaceView, TakesPool, shown}
use Rattle.space_state.proofs.Front.{bits-are}
use Rattle.space_state.proofs.Taking.{taken-seen, taken-kept}
use Rattle.space_state.proofs.space.Space.take_pool.Goals as goal

pub take_pool-requires-clause-bits : goal.take_pool-requires-clause-bits
take_pool-requires-clause-bits c = c.requires.bits ∙ sym (ap (λ (v : SpaceView). v.pool.bits) c.self.view_is) ∙ bits-are c.self.inside.rows

pub invariant_of-self : goal.invariant_of-self
invariant_of-self c = taken-kept c.args.checked c.self.inside.rows c.take_pool.result c.take_pool.new.self c.self.invariant c.take_pool.ensures

pub returns : goal.returns
returns c =
    subst (λ (v : SpaceView). TakesPool c.args.checked v c.take_pool.result (shown c.take_pool.new.self)) c.self.view_is
    (taken-seen c.args.checked c.self.inside.rows c.take_pool.result c.take_pool.new.self c.self.invariant.0 c.self.invariant.1 (c.take_pool.ensures c.self.invariant.0 c.self.invariant.1))
