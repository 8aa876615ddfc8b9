use Rattle.std.proofs.Common.{◌≡◌, ◌≤◌, length, slice_range}
use Rattle.elem_core.specs.Shown.{name_bytes}
use Rattle.plain_space.specs.Workspace.{lines_of}
use Rattle.state_rows.specs.InHeap.{AreLinesIn}
use Rattle.space_state.proofs.Steps.{not-yes}
use Rattle.space_state.proofs.Texts.{some-and, some-there}
use Rattle.space_state.proofs.roots.RootedHeap.lines.Goals as goal

pub returns-then-not-has_part : goal.returns-then-not-has_part
returns-then-not-has_part c = λ W K.
    some-and (AreLinesIn c.args.self.now.heap c.args.self.now.bits c.in_ok-lines.lines) (λ lines. ¬ ((c.args.from ≤ c.args.to) × (c.args.to ≤ length lines))) (lines_of W.current (name_bytes c.args.name))
    (λ lines are part. not-yes ((c.has_part.ensures c.args.self.now.bits lines are).1 part) c.if-not-has_part.true) (c.in_ok-lines.ensures W K)

pub new-requires : goal.new-requires
new-requires c =
    let found = some-there (AreLinesIn c.args.self.now.heap c.args.self.now.bits c.in_ok-lines.lines) (lines_of c.requires.0.current (name_bytes c.args.name)) (c.in_ok-lines.ensures c.requires.0 c.requires.1) in
    let part = (c.has_part.ensures c.args.self.now.bits found.0 found.1).0 c.if-not-has_part.false in
    record { lines = (c.args.self.now.bits, found.0, found.1, part.0, part.1) }

pub returns : goal.returns
returns c = λ W K.
    some-and (AreLinesIn c.args.self.now.heap c.args.self.now.bits c.in_ok-lines.lines) (λ lines. (c.args.from ≤ c.args.to) × (c.args.to ≤ length lines) × (c.new.result ≡ slice_range lines c.args.from c.args.to))
    (lines_of W.current (name_bytes c.args.name))
    (λ lines are. let part = (c.has_part.ensures c.args.self.now.bits lines are).0 c.if-not-has_part.false in (part.0, part.1, c.new.ensures c.args.self.now.bits lines are)) (c.in_ok-lines.ensures W K)
