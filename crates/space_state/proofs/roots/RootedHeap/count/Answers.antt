use Rattle.std.proofs.Common.{◌≡◌, ◌∙◌, length}
use Rattle.elem_core.specs.Shown.{name_bytes}
use Rattle.plain_space.specs.Workspace.{lines_of}
use Rattle.state_rows.specs.InHeap.{AreLinesIn}
use Rattle.space_state.proofs.Keeping.{lines-length}
use Rattle.space_state.proofs.Texts.{some-and}
use Rattle.space_state.proofs.roots.RootedHeap.count.Goals as goal

pub returns : goal.returns
returns c = λ W K.
    some-and (AreLinesIn c.args.self.now.heap c.args.self.now.bits c.in_ok-lines.lines) (λ lines. c.len.result ≡ length lines) (lines_of W.current (name_bytes c.args.name))
    (λ lines are. c.len.ensures.value ∙ lines-length are) (c.in_ok-lines.ensures W K)
