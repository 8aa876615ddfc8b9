use Rattle.std.proofs.Common.{◌+◌, ◌<◌, ◌≤◌, length, subst}
use Rattle.shell_terms.specs.Command as command
use Rattle.plain_space.specs.Workspace.{Workspace}
use Rattle.state_rows.specs.Standing.{StandsFor}
use Rattle.space_state.specs.declared.undo_redo.TheConstants.{UNDO_NODES, REDO_NODES}
use Rattle.space_state.specs.View.{SpaceView, Ends, shown}
use Rattle.space_state.proofs.Front.{keeps-alone, ends-seen, kept-on}
use Rattle.space_state.proofs.space.Space.redo.Goals as goal

pub invariant_of-self : goal.invariant_of-self
invariant_of-self c = kept-on command.redo c.self.inside.rows c.redo.result c.redo.new.self c.self.invariant c.redo.ensures.ends

pub returns-clause-ends : goal.returns-clause-ends
returns-clause-ends c =
    subst (λ (v : SpaceView). Ends command.redo v c.redo.result (shown c.redo.new.self)) c.self.view_is
    (ends-seen command.redo c.self.inside.rows c.redo.result c.redo.new.self c.self.invariant.0 c.self.invariant.1 c.redo.ensures.ends c.redo.ensures.spares)

pub returns-clause-made : goal.returns-clause-made
returns-clause-made c = subst (λ (v : SpaceView). c.redo.new.self.heap.made ≤ v.made + REDO_NODES) c.self.view_is c.redo.ensures.made

pub returns-clause-below : goal.returns-clause-below
returns-clause-below c =
    subst (λ (v : SpaceView). (W : Workspace) → StandsFor v.pool W → length W.undo < W.history → c.redo.new.self.heap.made ≤ v.made + UNDO_NODES) c.self.view_is
    (λ W stands fewer. c.redo.ensures.below W (keeps-alone c.self.inside.rows c.self.invariant.0 c.self.invariant.1 W stands) fewer)
