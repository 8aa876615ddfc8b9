use Rattle.std.proofs.Common.{◌+◌, ◌<◌, ◌≤◌, length, subst}
use Rattle.shell_terms.specs.Command as command
use Rattle.plain_space.specs.Workspace.{Workspace}
use Rattle.state_rows.specs.declared.histories.TheConstants.{EMPTIED_NODES, PUSHED_NODES}
use Rattle.state_rows.specs.Standing.{StandsFor}
use Rattle.space_state.specs.declared.undo_end.TheConstants.{TURN_NODES}
use Rattle.space_state.specs.View.{SpaceView, Ends, shown}
use Rattle.space_state.proofs.Front.{keeps-alone, ends-seen, kept-on}
use Rattle.space_state.proofs.space.Space.end.Goals as goal

pub invariant_of-self : goal.invariant_of-self
invariant_of-self c = kept-on command.«end» c.self.inside.rows c.end.result c.end.new.self c.self.invariant c.end.ensures.ends

pub returns-clause-ends : goal.returns-clause-ends
returns-clause-ends c =
    subst (λ (v : SpaceView). Ends command.«end» v c.end.result (shown c.end.new.self)) c.self.view_is
    (ends-seen command.«end» c.self.inside.rows c.end.result c.end.new.self c.self.invariant.0 c.self.invariant.1 c.end.ensures.ends c.end.ensures.spares)

pub returns-clause-made : goal.returns-clause-made
returns-clause-made c = subst (λ (v : SpaceView). c.end.new.self.heap.made ≤ v.made + TURN_NODES) c.self.view_is c.end.ensures.made

pub returns-clause-below : goal.returns-clause-below
returns-clause-below c =
    subst (λ (v : SpaceView). (W : Workspace) → StandsFor v.pool W → length W.undo < W.history → c.end.new.self.heap.made ≤ v.made + (PUSHED_NODES + EMPTIED_NODES)) c.self.view_is
    (λ W stands fewer. c.end.ensures.below W (keeps-alone c.self.inside.rows c.self.invariant.0 c.self.invariant.1 W stands) fewer)
