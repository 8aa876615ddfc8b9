use Rattle.std.proofs.Common.{sym, subst}
use Rattle.std.specs.List.{All}
use Rattle.std.proofs.lemmas.List.Elements.{All-weaker, All-take}
use Rattle.node_heap.specs.Heap.{form_at}
use Rattle.rrb_core.specs.Vector.{elements, IsGoodVector}
use Rattle.same_value.specs.Cells.{IsCellLink, IsLines}
use Rattle.vector_tests.proofs.LinesLemmas.{lines-stay, cell-stays}
use Rattle.vector_tests.proofs.versions.front.Goals as goal

pub take-requires-clause-good : goal.take-requires-clause-good
take-requires-clause-good c = subst (IsGoodVector c.args.heap.now) (sym c.at.ensures) c.requires.lines.good

pub returns-clause-lines : goal.returns-clause-lines
returns-clause-lines c =
    let old = c.args.heap.now in
    let new = c.take.new.heap in
    let after = c.in_ok-take.ensures.answered.extends in
    let cells = subst (λ l. All (IsCellLink (form_at old)) (elements old l)) (sym c.at.ensures) c.requires.lines.cells in
    let kept = All-weaker (IsCellLink (form_at old)) (IsCellLink (form_at new)) (cell-stays after) (elements old c.at.result) cells in
    subst (IsLines new) (sym c.into_root.ensures)
    (record { good = c.in_ok-take.ensures.good; cells = subst (All (IsCellLink (form_at new))) (sym c.in_ok-take.ensures.items) (All-take (IsCellLink (form_at new)) c.args.count (elements old c.at.result) kept) })

pub returns-clause-others : goal.returns-clause-others
returns-clause-others c = λ l is. lines-stay c.in_ok-take.ensures.answered.extends l is
