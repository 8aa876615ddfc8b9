use Rattle.std.proofs.Common.{ap, sym, subst, arith}
use Rattle.std.specs.Prelude.{is_some}
use Rattle.champ_kinds.specs.Binding.{value_with}
use Rattle.champ_kinds.specs.Root.{Root}
use Rattle.set_merge.specs.Need.{both_need}
use Rattle.map_tests.specs.Stands.{IsCellMap}
use Rattle.map_tests.proofs.StandLemmas.{cell-maps-stay, cells-left, forms-same}
use Rattle.map_tests.proofs.map_versions.common_there.Goals as goal

pub map_both_there-made-requires-clause-first : goal.map_both_there-made-requires-clause-first
map_both_there-made-requires-clause-first g c =
    let M = cell-maps-stay c.in_ok-reserve.ensures.extends g.T.Ord.cmp g.T.Element.code_of c.args.a c.requires.first in
    (M.0, M.1.map)

pub map_both_there-made-requires-clause-second : goal.map_both_there-made-requires-clause-second
map_both_there-made-requires-clause-second g c =
    let N = cell-maps-stay c.in_ok-reserve.ensures.extends g.T.Ord.cmp g.T.Element.code_of c.args.b c.requires.second in
    (N.0, N.1.map)

pub map_both_there-made-requires-clause-ample : goal.map_both_there-made-requires-clause-ample
map_both_there-made-requires-clause-ample g c =
    let same = ap (λ F. both_need g.T.Ord.cmp g.T.Element.code_of F c.args.a.bits c.args.a.root c.args.b.root) (forms-same c.args.heap.now c.reserve.new.self c.in_ok-reserve.ensures.rest.rows) in
    (c.in_ok-reserve.ensures.spares.0, omega (arith, same, c.map_both_need-need.ensures.need, c.in_ok-reserve.ensures.spares.1))

pub returns-clause-good : goal.returns-clause-good
returns-clause-good g c =
    let M = cell-maps-stay c.in_ok-reserve.ensures.extends g.T.Ord.cmp g.T.Element.code_of c.args.a c.requires.first in
    let N = cell-maps-stay c.in_ok-reserve.ensures.extends g.T.Ord.cmp g.T.Element.code_of c.args.b c.requires.second in
    let made = c.map_both_there-made.ensures in
    subst (λ (r : Root). IsCellMap g.T.Ord.cmp g.T.Element.code_of c.map_both_there-made.new.heap r) (sym c.held.ensures)
    (cells-left made.answered.extends g.T.Ord.cmp g.T.Element.code_of (λ b. is_some (value_with g.T.Ord.cmp b.key N.0)) M (made.contents M.0 N.0 M.1.map N.1.map))

pub returns-clause-others : goal.returns-clause-others
returns-clause-others g c = λ r is.
    cell-maps-stay c.map_both_there-made.ensures.answered.extends g.T.Ord.cmp g.T.Element.code_of r
    (cell-maps-stay c.in_ok-reserve.ensures.extends g.T.Ord.cmp g.T.Element.code_of r is)
