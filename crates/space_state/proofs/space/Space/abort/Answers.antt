use Rattle.std.proofs.Common.{ap, subst, ◌∙◌}
use Rattle.shell_terms.specs.Command as command
use Rattle.space_state.specs.View.{SpaceView, Ends, shown}
use Rattle.space_state.proofs.Front.{ends-seen, kept-on}
use Rattle.space_state.proofs.space.Space.abort.Goals as goal

pub invariant_of-self : goal.invariant_of-self
invariant_of-self c = kept-on command.abort c.self.inside.rows c.abort.result c.abort.new.self c.self.invariant c.abort.ensures.obeys

pub returns-clause-ends : goal.returns-clause-ends
returns-clause-ends c =
    subst (λ (v : SpaceView). Ends command.abort v c.abort.result (shown c.abort.new.self)) c.self.view_is
    (ends-seen command.abort c.self.inside.rows c.abort.result c.abort.new.self c.self.invariant.0 c.self.invariant.1 c.abort.ensures.obeys c.abort.ensures.spares)

pub returns-clause-made : goal.returns-clause-made
returns-clause-made c = c.abort.ensures.made ∙ ap (λ (v : SpaceView). v.made) c.self.view_is

pub returns-clause-room : goal.returns-clause-room
returns-clause-room c = c.abort.ensures.room ∙ ap (λ (v : SpaceView). v.room) c.self.view_is
