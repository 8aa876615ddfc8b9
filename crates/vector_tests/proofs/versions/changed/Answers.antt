use Rattle.std.proofs.Common.{sym, subst}
use Rattle.std.specs.List.{All}
use Rattle.std.proofs.lemmas.List.Elements.{All-weaker, All-set}
use Rattle.node_heap.specs.Heap.{form_at}
use Rattle.node_heap.proofs.Frames.{Extends-trans}
use Rattle.rrb_core.specs.Vector.{elements, IsGoodVector}
use Rattle.same_value.specs.Cells.{IsCellLink, IsLines}
use Rattle.vector_tests.proofs.LinesLemmas.{lines-stay, cell-stays, row-cell}
use Rattle.vector_tests.proofs.versions.changed.Goals as goal

pub set-requires-clause-good : goal.set-requires-clause-good
set-requires-clause-good c =
    let before = Extends-trans {new = c.cell-cell.new.self} c.in_ok-reserve.ensures.extends c.cell-cell.ensures.extends in
    subst (IsGoodVector c.cell-cell.new.self) (sym c.at.ensures) (lines-stay before c.args.root c.requires.lines).good

pub returns-clause-lines : goal.returns-clause-lines
returns-clause-lines c =
    let old = c.cell-cell.new.self in
    let new = c.set.new.heap in
    let before = Extends-trans {new = old} c.in_ok-reserve.ensures.extends c.cell-cell.ensures.extends in
    let after = c.in_ok-vector.ensures.answered.extends in
    let cells = subst (λ l. All (IsCellLink (form_at old)) (elements old l)) (sym c.at.ensures) (lines-stay before c.args.root c.requires.lines).cells in
    let kept = All-weaker (IsCellLink (form_at old)) (IsCellLink (form_at new)) (cell-stays after) (elements old c.at.result) cells in
    let one = cell-stays after c.cell-cell.result (row-cell old c.cell-cell.result _ c.cell-cell.ensures.adds.here) in
    subst (IsLines new) (sym c.into_root.ensures)
    (record { good = c.in_ok-vector.ensures.good; cells = subst (All (IsCellLink (form_at new))) (sym c.in_ok-vector.ensures.items) (All-set (IsCellLink (form_at new)) (elements old c.at.result) c.args.index c.cell-cell.result one kept) })

pub returns-clause-others : goal.returns-clause-others
returns-clause-others c = λ l is. lines-stay c.in_ok-vector.ensures.answered.extends l (lines-stay (Extends-trans {new = c.cell-cell.new.self} c.in_ok-reserve.ensures.extends c.cell-cell.ensures.extends) l is)
