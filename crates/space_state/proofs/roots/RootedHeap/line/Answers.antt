use Rattle.std.proofs.Common.{◌≡◌, ◌≤◌, ◌∙◌, sym, length, Some, IsSome, slice_get, arith}
use Rattle.elem_core.specs.Shown.{name_bytes}
use Rattle.node_heap.specs.Forms.{value_of}
use Rattle.node_heap.specs.Heap.{row_at}
use Rattle.pool_text.proofs.Placed.{get-none}
use Rattle.rrb_core.specs.Vector.{elements}
use Rattle.plain_space.specs.Workspace.{lines_of}
use Rattle.state_rows.specs.InHeap.{AreLinesIn}
use Rattle.space_state.proofs.Keeping.{lines-length}
use Rattle.space_state.proofs.Texts.{some-and, some-there, line-found, line-there, none-there}
use Rattle.space_state.proofs.roots.RootedHeap.line.Goals as goal

pub returns-in_default : goal.returns-in_default
returns-in_default c = λ W K.
    let past : length (elements c.args.self.now.heap c.in_ok-lines.lines) ≤ c.args.index = get-none (elements c.args.self.now.heap c.in_ok-lines.lines) c.args.index (sym c.in_default.is ∙ c.get.ensures.value) in
    some-and (AreLinesIn c.args.self.now.heap c.args.self.now.bits c.in_ok-lines.lines) (λ lines. length lines ≤ c.args.index) (lines_of W.current (name_bytes c.args.name))
    (λ lines are. omega (arith, lines-length are)) (c.in_ok-lines.ensures W K)

pub unreachable-requires : goal.unreachable-requires
unreachable-requires c =
    let W = c.requires.0 in
    let K = c.requires.1 in
    let found = some-there (AreLinesIn c.args.self.now.heap c.args.self.now.bits c.in_ok-lines.lines) (lines_of W.current (name_bytes c.args.name)) (c.in_ok-lines.ensures W K) in
    let there : IsSome (value_of (row_at c.args.self.now.heap c.in-Some.line)) =
    line-there c.args.self.now.heap c.args.self.now.bits c.in_ok-lines.lines found.0 c.args.index c.in-Some.line found.1 (sym c.get.ensures.value ∙ c.in-Some.is) in
    none-there (value_of (row_at c.args.self.now.heap c.in-Some.line)) c.in_default-value.ensures there

pub returns : goal.returns
returns c = λ W K.
    some-and (AreLinesIn c.args.self.now.heap c.args.self.now.bits c.in_ok-lines.lines) (λ lines. slice_get lines c.args.index ≡ Some c.in-Some-value.text.now) (lines_of W.current (name_bytes c.args.name))
    (λ lines are. line-found c.args.self.now.heap c.args.self.now.bits c.in_ok-lines.lines lines c.args.index c.in-Some.line c.in-Some-value.text.now are (sym c.get.ensures.value ∙ c.in-Some.is) (sym c.in-Some-value.ensures)) (c.in_ok-lines.ensures W K)
