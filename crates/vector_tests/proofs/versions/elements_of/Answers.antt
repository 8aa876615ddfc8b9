use Rattle.std.proofs.Common.{ℕ, sym, subst}
use Rattle.std.specs.List.{All}
use Rattle.std.proofs.lemmas.List.Elements.{All-push}
use Rattle.node_heap.specs.Heap.{form_at}
use Rattle.same_value.specs.Cells.{IsCellLink}
use Rattle.vector_tests.proofs.versions.elements_of.Goals as goal

pub loop-index-preserved : goal.loop-index-preserved
loop-index-preserved g c =
    let IsCell = λ (l : ℕ). IsCellLink (form_at c.args.heap.now) l in
    subst (All IsCell) (sym c.kept.ensures.list) (All-push IsCell c.loop-index.links.items c.in-Some.link c.loop-index.invariant c.in-Some.ensures)
