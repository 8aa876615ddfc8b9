use Rattle.std.proofs.Common.{subst}
use Rattle.plain_space.specs.Change.{edit_command}
use Rattle.space_state.specs.View.{SpaceView, Ends, shown}
use Rattle.space_state.proofs.Front.{ends-seen, kept-on}
use Rattle.space_state.proofs.space.Space.edit.Goals as goal

pub invariant_of-self : goal.invariant_of-self
invariant_of-self c = kept-on (edit_command c.args.change) c.self.inside.rows c.edit.result c.edit.new.self c.self.invariant c.edit.ensures.ends

pub returns : goal.returns
returns c =
    subst (λ (v : SpaceView). Ends (edit_command c.args.change) v c.edit.result (shown c.edit.new.self)) c.self.view_is
    (ends-seen (edit_command c.args.change) c.self.inside.rows c.edit.result c.edit.new.self c.self.invariant.0 c.self.invariant.1 c.edit.ensures.ends c.edit.ensures.spares)
