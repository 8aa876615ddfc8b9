use Rattle.std.proofs.Common.{[], sym, subst}
use Rattle.std.proofs.lemmas.List.Elements.{All-nil}
use Rattle.node_heap.specs.Heap.{form_at}
use Rattle.champ_kinds.specs.Binding.{Binding}
use Rattle.champ_kinds.specs.Root.{Root}
use Rattle.same_value.specs.Cells.{IsCellLink}
use Rattle.map_tests.specs.Stands.{IsCellMap}
use Rattle.map_tests.proofs.map_versions.no_cells.Goals as goal

pub returns-clause-good : goal.returns-clause-good
returns-clause-good g c =
    let h = c.empty.new.heap in
    subst (λ (r : Root). IsCellMap g.T.Ord.cmp g.T.Element.code_of h r) (sym c.held.ensures) ([], record { map = c.in_ok-empty.ensures.map; values = All-nil (λ (b : Binding g.row.T.Denot). IsCellLink (form_at h) b.value) })
