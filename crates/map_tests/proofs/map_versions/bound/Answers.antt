use Rattle.std.proofs.Common.{sym, subst, arith}
use Rattle.std.proofs.lemmas.List.Elements.{All-weaker, All-cons, All-filter}
use Rattle.node_heap.specs.Heap.{form_at}
use Rattle.node_heap.proofs.BuildLemmas.{count-one}
use Rattle.node_heap.proofs.Frames.{Extends-trans}
use Rattle.champ_kinds.specs.Binding.{Binding, bind}
use Rattle.champ_kinds.specs.Root.{Root}
use Rattle.same_value.specs.Cells.{IsCellLink}
use Rattle.map_tests.specs.Stands.{IsCellMap}
use Rattle.map_tests.proofs.StandLemmas.{cell-maps-stay, cell-stays, row-cell}
use Rattle.map_tests.proofs.map_versions.bound.Goals as goal

pub map_insert-requires-clause-contents : goal.map_insert-requires-clause-contents
map_insert-requires-clause-contents g c =
    let M = cell-maps-stay (Extends-trans {new = c.cell-value.new.self} c.in_ok-reserve.ensures.extends c.cell-value.ensures.extends) g.T.Ord.cmp g.T.Element.code_of c.args.map c.requires.good in
    (M.0, M.1.map)

pub returns-clause-good : goal.returns-clause-good
returns-clause-good g c =
    let old = c.cell-value.new.self in
    let new = c.map_insert.new.heap in
    let M = cell-maps-stay (Extends-trans {new = old} c.in_ok-reserve.ensures.extends c.cell-value.ensures.extends) g.T.Ord.cmp g.T.Element.code_of c.args.map c.requires.good in
    let after = (c.in_ok-made.ensures.answered M.0 M.1.map).extends in
    let IsCell = λ (b : Binding g.row.T.Denot). IsCellLink (form_at new) b.value in
    subst (λ (r : Root). IsCellMap g.T.Ord.cmp g.T.Element.code_of new r) (sym c.held.ensures) (
      bind g.T.Ord.cmp M.0 c.args.key c.cell-value.result,
      record {
        map = c.in_ok-made.ensures.contents M.0 M.1.map;
        values = All-cons IsCell _ _ (cell-stays after c.cell-value.result (row-cell old c.cell-value.result _ c.cell-value.ensures.adds.here))
            (All-filter _ IsCell M.0 (All-weaker (λ (b : Binding g.row.T.Denot). IsCellLink (form_at old) b.value) IsCell (λ b cell. cell-stays after b.value cell) M.0 M.1.values));
      },
    )

pub returns-clause-others : goal.returns-clause-others
returns-clause-others g c =
    let before = Extends-trans {new = c.cell-value.new.self} c.in_ok-reserve.ensures.extends c.cell-value.ensures.extends in
    let M = cell-maps-stay before g.T.Ord.cmp g.T.Element.code_of c.args.map c.requires.good in
    λ r is. cell-maps-stay (c.in_ok-made.ensures.answered M.0 M.1.map).extends g.T.Ord.cmp g.T.Element.code_of r (cell-maps-stay before g.T.Ord.cmp g.T.Element.code_of r is)

pub returns-clause-count : goal.returns-clause-count
returns-clause-count g c =
    let before = Extends-trans {new = c.cell-value.new.self} c.in_ok-reserve.ensures.extends c.cell-value.ensures.extends in
    let M = cell-maps-stay before g.T.Ord.cmp g.T.Element.code_of c.args.map c.requires.good in
    omega (arith, (c.in_ok-made.ensures.answered M.0 M.1.map).count, c.cell-value.ensures.count, c.in_ok-reserve.ensures.rest.count)

pub returns-clause-holds : goal.returns-clause-holds
returns-clause-holds g c =
    let before = Extends-trans {new = c.cell-value.new.self} c.in_ok-reserve.ensures.extends c.cell-value.ensures.extends in
    let M = cell-maps-stay before g.T.Ord.cmp g.T.Element.code_of c.args.map c.requires.good in
    rw c.held.ensures (λ k. omega (arith, (c.in_ok-made.ensures.answered M.0 M.1.map).holds k, c.cell-value.ensures.adds.holds k, c.in_ok-reserve.ensures.rest.holds k, count-one k c.cell-value.result))
