use Rattle.std.proofs.Common.{ap, subst, ◌∙◌}
use Rattle.shell_terms.specs.Command as command
use Rattle.space_state.specs.View.{SpaceView, Ends, shown}
use Rattle.space_state.proofs.Front.{ends-seen, kept-on}
use Rattle.space_state.proofs.space.Space.begin.Goals as goal

pub invariant_of-self : goal.invariant_of-self
invariant_of-self c = kept-on command.begin c.self.inside.rows c.begin.result c.begin.new.self c.self.invariant c.begin.ensures.obeys

pub returns-clause-ends : goal.returns-clause-ends
returns-clause-ends c =
    subst (λ (v : SpaceView). Ends command.begin v c.begin.result (shown c.begin.new.self)) c.self.view_is
    (ends-seen command.begin c.self.inside.rows c.begin.result c.begin.new.self c.self.invariant.0 c.self.invariant.1 c.begin.ensures.obeys c.begin.ensures.spares)

pub returns-clause-made : goal.returns-clause-made
returns-clause-made c = c.begin.ensures.made ∙ ap (λ (v : SpaceView). v.made) c.self.view_is

pub returns-clause-room : goal.returns-clause-room
returns-clause-room c = c.begin.ensures.room ∙ ap (λ (v : SpaceView). v.room) c.self.view_is
