use Rattle.std.proofs.Common.{sym, subst}
use Rattle.std.specs.List.{All}
use Rattle.std.proofs.lemmas.List.Elements.{All-weaker}
use Rattle.node_heap.specs.Heap.{form_at}
use Rattle.rrb_core.specs.Vector.{elements, IsGoodVector}
use Rattle.same_value.specs.Cells.{IsCellLink, IsLines}
use Rattle.vector_tests.proofs.LinesLemmas.{lines-stay, cell-stays, lines-both}
use Rattle.vector_tests.proofs.versions.joined.Goals as goal

pub concat-requires-clause-left_good : goal.concat-requires-clause-left_good
concat-requires-clause-left_good c = subst (IsGoodVector c.args.heap.now) (sym c.at.ensures) c.requires.left.good

pub concat-requires-clause-right_good : goal.concat-requires-clause-right_good
concat-requires-clause-right_good c = subst (IsGoodVector c.args.heap.now) (sym c.at-2.ensures) c.requires.right.good

pub returns-clause-lines : goal.returns-clause-lines
returns-clause-lines c =
    let old = c.args.heap.now in
    let new = c.concat.new.heap in
    let after = c.in_ok-concat.ensures.answered.extends in
    let first = subst (λ l. All (IsCellLink (form_at old)) (elements old l)) (sym c.at.ensures) c.requires.left.cells in
    let second = subst (λ l. All (IsCellLink (form_at old)) (elements old l)) (sym c.at-2.ensures) c.requires.right.cells in
    subst (IsLines new) (sym c.into_root.ensures)
    (lines-both new c.in_ok-concat.field-0 (elements old c.at.result) (elements old c.at-2.result) c.in_ok-concat.ensures.good c.in_ok-concat.ensures.items
    (All-weaker (IsCellLink (form_at old)) (IsCellLink (form_at new)) (cell-stays after) (elements old c.at.result) first)
    (All-weaker (IsCellLink (form_at old)) (IsCellLink (form_at new)) (cell-stays after) (elements old c.at-2.result) second))

pub returns-clause-others : goal.returns-clause-others
returns-clause-others c = λ l is. lines-stay c.in_ok-concat.ensures.answered.extends l is
