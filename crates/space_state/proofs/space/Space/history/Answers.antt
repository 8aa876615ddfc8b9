use Rattle.std.proofs.Common.{◌≡◌, ◌+◌, ◌≤◌, length, subst}
use Rattle.shell_terms.specs.Command as command
use Rattle.plain_space.specs.Workspace.{Workspace}
use Rattle.state_rows.specs.Standing.{StandsFor}
use Rattle.space_state.specs.declared.undo_redo.TheConstants.{HISTORY_NODES}
use Rattle.space_state.specs.View.{SpaceView, Ends, shown}
use Rattle.space_state.proofs.Front.{keeps-alone, ends-seen, kept-on}
use Rattle.space_state.proofs.space.Space.history.Goals as goal

pub invariant_of-self : goal.invariant_of-self
invariant_of-self c = kept-on (command.history c.args.count) c.self.inside.rows c.set_history.result c.set_history.new.self c.self.invariant c.set_history.ensures.ends

pub returns-clause-ends : goal.returns-clause-ends
returns-clause-ends c =
    subst (λ (v : SpaceView). Ends (command.history c.args.count) v c.set_history.result (shown c.set_history.new.self)) c.self.view_is
    (ends-seen (command.history c.args.count) c.self.inside.rows c.set_history.result c.set_history.new.self c.self.invariant.0 c.self.invariant.1 c.set_history.ensures.ends c.set_history.ensures.spares)

pub returns-clause-made : goal.returns-clause-made
returns-clause-made c = subst (λ (v : SpaceView). c.set_history.new.self.heap.made ≤ v.made + HISTORY_NODES) c.self.view_is c.set_history.ensures.made

pub returns-clause-within : goal.returns-clause-within
returns-clause-within c =
    subst (λ (v : SpaceView). (W : Workspace) → StandsFor v.pool W → length W.undo ≤ c.args.count → c.set_history.new.self.heap.made ≡ v.made) c.self.view_is
    (λ W stands few. c.set_history.ensures.within W (keeps-alone c.self.inside.rows c.self.invariant.0 c.self.invariant.1 W stands) few)
