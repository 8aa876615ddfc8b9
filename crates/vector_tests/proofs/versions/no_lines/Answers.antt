use Rattle.std.proofs.Common.{sym, subst}
use Rattle.std.specs.List.{All}
use Rattle.std.proofs.lemmas.List.Elements.{All-nil}
use Rattle.node_heap.specs.Heap.{form_at}
use Rattle.same_value.specs.Cells.{IsCellLink, IsLines}
use Rattle.vector_tests.proofs.LinesLemmas.{lines-stay}
use Rattle.vector_tests.proofs.versions.no_lines.Goals as goal

pub returns-clause-lines : goal.returns-clause-lines
returns-clause-lines c =
    let h = c.empty.new.heap in
    subst (IsLines h) (sym c.into_root.ensures) (record { good = c.in_ok-empty.ensures.good; cells = subst (All (IsCellLink (form_at h))) (sym c.in_ok-empty.ensures.items) (All-nil (IsCellLink (form_at h))) })

pub returns-clause-others : goal.returns-clause-others
returns-clause-others c = λ l is. lines-stay c.in_ok-empty.ensures.answered.extends l is
