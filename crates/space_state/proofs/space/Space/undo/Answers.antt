use Rattle.std.proofs.Common.{◌+◌, ◌≤◌, subst}
use Rattle.shell_terms.specs.Command as command
use Rattle.space_state.specs.declared.undo_redo.TheConstants.{UNDO_NODES}
use Rattle.space_state.specs.View.{SpaceView, Ends, shown}
use Rattle.space_state.proofs.Front.{ends-seen, kept-on}
use Rattle.space_state.proofs.space.Space.undo.Goals as goal

pub invariant_of-self : goal.invariant_of-self
invariant_of-self c = kept-on command.undo c.self.inside.rows c.undo.result c.undo.new.self c.self.invariant c.undo.ensures.ends

pub returns-clause-ends : goal.returns-clause-ends
returns-clause-ends c =
    subst (λ (v : SpaceView). Ends command.undo v c.undo.result (shown c.undo.new.self)) c.self.view_is
    (ends-seen command.undo c.self.inside.rows c.undo.result c.undo.new.self c.self.invariant.0 c.self.invariant.1 c.undo.ensures.ends c.undo.ensures.spares)

pub returns-clause-made : goal.returns-clause-made
returns-clause-made c = subst (λ (v : SpaceView). c.undo.new.self.heap.made ≤ v.made + UNDO_NODES) c.self.view_is c.undo.ensures.made
