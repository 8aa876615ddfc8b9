use Rattle.std.proofs.Common.{subst}
use Rattle.elem_core.specs.Shown.{name_bytes}
use Rattle.shell_terms.specs.Edit.{fill}
use Rattle.shell_terms.specs.Command.{edit}
use Rattle.space_state.specs.View.{SpaceView, Ends, shown}
use Rattle.space_state.proofs.Front.{ends-seen, kept-on}
use Rattle.space_state.proofs.space.Space.fill.Goals as goal

pub invariant_of-self : goal.invariant_of-self
invariant_of-self c = kept-on (edit (fill (name_bytes c.args.buffer) c.args.lines)) c.self.inside.rows c.fill.result c.fill.new.self c.self.invariant c.fill.ensures.ends

pub returns : goal.returns
returns c =
    subst (λ (v : SpaceView). Ends (edit (fill (name_bytes c.args.buffer) c.args.lines)) v c.fill.result (shown c.fill.new.self)) c.self.view_is
    (ends-seen (edit (fill (name_bytes c.args.buffer) c.args.lines)) c.self.inside.rows c.fill.result c.fill.new.self c.self.invariant.0 c.self.invariant.1 c.fill.ensures.ends c.fill.ensures.spares)
