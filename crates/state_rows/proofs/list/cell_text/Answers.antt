use Rattle.node_heap.specs.Heap.{row_at}
use Rattle.rrb_core.proofs.Stays.{form-live}
use Rattle.state_rows.proofs.Listed.{cell-value}
use Rattle.state_rows.proofs.list.cell_text.Goals as goal

pub value-requires : goal.value-requires
value-requires c = form-live (row_at c.args.heap.now c.args.link) _ c.requires.1

pub unreachable-requires : goal.unreachable-requires
unreachable-requires c =
    let none = c.in_default.ensures in
    let some = cell-value c.args.heap.now c.args.link c.requires.0 c.requires.1 in
    cc

pub returns : goal.returns
returns c = λ text is.
    let shown = c.in-Some.ensures in
    let some = cell-value c.args.heap.now c.args.link text is in
    cc
