use Rattle.std.proofs.Common.{sym, subst}
use Rattle.std.specs.List.{All}
use Rattle.std.proofs.lemmas.List.Elements.{All-weaker}
use Rattle.node_heap.specs.Heap.{form_at}
use Rattle.node_heap.proofs.Frames.{Extends-trans}
use Rattle.rrb_core.specs.Vector.{elements, IsGoodVector}
use Rattle.same_value.specs.Cells.{IsCellLink, IsLines}
use Rattle.vector_tests.proofs.LinesLemmas.{lines-stay, cell-stays, lines-more, row-cell}
use Rattle.vector_tests.proofs.versions.pushed.Goals as goal

pub push-requires-clause-good : goal.push-requires-clause-good
push-requires-clause-good c =
    let before = Extends-trans {new = c.cell-cell.new.self} c.in_ok-reserve.ensures.extends c.cell-cell.ensures.extends in
    subst (IsGoodVector c.cell-cell.new.self) (sym c.at.ensures) (lines-stay before c.args.root c.requires.lines).good

pub returns-clause-lines : goal.returns-clause-lines
returns-clause-lines c =
    let old = c.cell-cell.new.self in
    let new = c.push.new.heap in
    let before = Extends-trans {new = old} c.in_ok-reserve.ensures.extends c.cell-cell.ensures.extends in
    let after = c.in_ok-push.ensures.answered.extends in
    let cells = subst (λ l. All (IsCellLink (form_at old)) (elements old l)) (sym c.at.ensures) (lines-stay before c.args.root c.requires.lines).cells in
    subst (IsLines new) (sym c.into_root.ensures)
    (lines-more new c.in_ok-push.field-0 c.cell-cell.result (elements old c.at.result) c.in_ok-push.ensures.good c.in_ok-push.ensures.items (All-weaker (IsCellLink (form_at old)) (IsCellLink (form_at new)) (cell-stays after) (elements old c.at.result) cells)
    (cell-stays after c.cell-cell.result (row-cell old c.cell-cell.result _ c.cell-cell.ensures.adds.here)))

pub returns-clause-others : goal.returns-clause-others
returns-clause-others c = λ l is. lines-stay c.in_ok-push.ensures.answered.extends l (lines-stay (Extends-trans {new = c.cell-cell.new.self} c.in_ok-reserve.ensures.extends c.cell-cell.ensures.extends) l is)
