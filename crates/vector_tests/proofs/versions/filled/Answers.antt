use Rattle.std.proofs.Common.{sym, subst, arith}
use Rattle.std.specs.List.{All}
use Rattle.std.proofs.lemmas.List.Elements.{All-weaker}
use Rattle.node_heap.specs.Forms.{cell}
use Rattle.node_heap.specs.Heap.{form_at}
use Rattle.node_heap.proofs.Frames.{Extends-trans}
use Rattle.champ_chain.proofs.FrameLemmas.{form-live}
use Rattle.same_value.specs.Cells.{IsCellLink, IsLines}
use Rattle.vector_tests.proofs.LinesLemmas.{lines-stay, cell-stays}
use Rattle.vector_tests.proofs.VectorsLemmas.{counted-all}
use Rattle.vector_tests.proofs.versions.filled.Goals as goal

pub hold_all-requires-clause-live : goal.hold_all-requires-clause-live
hold_all-requires-clause-live c = λ l some.
    let is = counted-all (IsCellLink (form_at c.args.heap.now)) c.args.links.now c.requires.cells l some in
    form-live c.args.heap.now l (cell is.0) is.1

pub vector_of-requires-clause-held : goal.vector_of-requires-clause-held
vector_of-requires-clause-held c = λ l. omega (arith, c.hold_all.ensures.holds l)

pub returns-clause-lines : goal.returns-clause-lines
returns-clause-lines c =
    let old = c.args.heap.now in
    let new = c.vector_of.new.heap in
    let after = Extends-trans {new = new} c.hold_all.ensures.extends c.in_ok-vector_of.ensures.answered.extends in
    subst (IsLines new) (sym c.into_root.ensures)
    (record { good = c.in_ok-vector_of.ensures.good; cells = subst (All (IsCellLink (form_at new))) (sym c.in_ok-vector_of.ensures.items) (All-weaker (IsCellLink (form_at old)) (IsCellLink (form_at new)) (cell-stays after) c.args.links.now c.requires.cells) })

pub returns-clause-others : goal.returns-clause-others
returns-clause-others c = λ l is. lines-stay (Extends-trans {new = c.vector_of.new.heap} c.hold_all.ensures.extends c.in_ok-vector_of.ensures.answered.extends) l is
