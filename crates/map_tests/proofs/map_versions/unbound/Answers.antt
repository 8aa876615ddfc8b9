use Rattle.std.proofs.Common.{sym, subst, arith}
use Rattle.std.proofs.lemmas.List.Elements.{All-weaker, All-filter}
use Rattle.node_heap.specs.Heap.{form_at}
use Rattle.champ_kinds.specs.Root.{Root}
use Rattle.champ_kinds.specs.Binding.{Binding, unbind}
use Rattle.same_value.specs.Cells.{IsCellLink}
use Rattle.map_tests.specs.Stands.{IsCellMap}
use Rattle.map_tests.proofs.StandLemmas.{cell-maps-stay, cell-stays}
use Rattle.map_tests.proofs.map_versions.unbound.Goals as goal

pub returns-in-Ok-Some-clause-good : goal.returns-in-Ok-Some-clause-good
returns-in-Ok-Some-clause-good g c =
    let M = c.requires.good in
    let left = rw c.in-Ok-Some.field-0-is at c.in-Ok-Some.ensures in
    let after = (left.answered M.0 M.1.map).extends in
    let IsCell = λ (b : Binding g.row.T.Denot). IsCellLink (form_at c.map_remove.new.heap) b.value in
    subst (λ (r : Root). IsCellMap g.T.Ord.cmp g.T.Element.code_of c.map_remove.new.heap r) (sym c.held.ensures) (
      unbind g.T.Ord.cmp (g.P.Probe.stands_for c.args.key.now) M.0,
      record {
        map = left.contents M.0 M.1.map;
        values = All-filter _ IsCell M.0 (All-weaker (λ (b : Binding g.row.T.Denot). IsCellLink (form_at c.args.heap.now) b.value) IsCell (λ b cell. cell-stays after b.value cell) M.0 M.1.values);
      },
    )

pub returns-in-Ok-Some-clause-others : goal.returns-in-Ok-Some-clause-others
returns-in-Ok-Some-clause-others g c =
    let M = c.requires.good in
    let left = rw c.in-Ok-Some.field-0-is at c.in-Ok-Some.ensures in
    cell-maps-stay (left.answered M.0 M.1.map).extends g.T.Ord.cmp g.T.Element.code_of

pub returns-in-Ok-Some-clause-count : goal.returns-in-Ok-Some-clause-count
returns-in-Ok-Some-clause-count g c =
    let M = c.requires.good in
    let left = rw c.in-Ok-Some.field-0-is at c.in-Ok-Some.ensures in
    omega (arith, (left.answered M.0 M.1.map).count)

pub returns-in-Ok-Some-clause-holds : goal.returns-in-Ok-Some-clause-holds
returns-in-Ok-Some-clause-holds g c =
    let M = c.requires.good in
    let left = rw c.in-Ok-Some.field-0-is at c.in-Ok-Some.ensures in
    rw c.held.ensures (λ k. omega (arith, (left.answered M.0 M.1.map).holds k))
