use Rattle.std.proofs.Common.{ap, sym, subst, arith}
use Rattle.champ_kinds.specs.Root.{Root}
use Rattle.champ_kinds.specs.Stands.{IsSomeSet}
use Rattle.champ_kinds.proofs.StayLemmas.{sets-kept, sets-stay}
use Rattle.set_merge.specs.Need.{less_need}
use Rattle.map_tests.proofs.StandLemmas.{forms-same}
use Rattle.map_tests.proofs.set_versions.rest_there.Goals as goal

pub set_less_there-made-requires-clause-first : goal.set_less_there-made-requires-clause-first
set_less_there-made-requires-clause-first g c = sets-stay g.T.Ord.cmp g.T.Element.code_of c.in_ok-reserve.ensures.extends c.args.a c.requires.first

pub set_less_there-made-requires-clause-second : goal.set_less_there-made-requires-clause-second
set_less_there-made-requires-clause-second g c = sets-stay g.T.Ord.cmp g.T.Element.code_of c.in_ok-reserve.ensures.extends c.args.b c.requires.second

pub set_less_there-made-requires-clause-ample : goal.set_less_there-made-requires-clause-ample
set_less_there-made-requires-clause-ample g c =
    let same = ap (λ F. less_need g.T.Ord.cmp g.T.Element.code_of F c.args.a.bits c.args.a.root c.args.b.root) (forms-same c.args.heap.now c.reserve.new.self c.in_ok-reserve.ensures.rest.rows) in
    (c.in_ok-reserve.ensures.spares.0, omega (arith, same, c.set_less_need-need.ensures.need, c.in_ok-reserve.ensures.spares.1))

pub returns-clause-good : goal.returns-clause-good
returns-clause-good g c =
    let E = sets-stay g.T.Ord.cmp g.T.Element.code_of c.in_ok-reserve.ensures.extends c.args.a c.requires.first in
    let D = sets-stay g.T.Ord.cmp g.T.Element.code_of c.in_ok-reserve.ensures.extends c.args.b c.requires.second in
    subst (λ (r : Root). IsSomeSet g.T.Ord.cmp g.T.Element.code_of c.set_less_there-made.new.heap r) (sym c.held.ensures) (_, c.set_less_there-made.ensures.contents E.0 D.0 E.1 D.1)

pub returns-clause-others : goal.returns-clause-others
returns-clause-others g c = λ r is.
    sets-kept g.T.Ord.cmp g.T.Element.code_of c.set_less_there-made.ensures.containers r (sets-stay g.T.Ord.cmp g.T.Element.code_of c.in_ok-reserve.ensures.extends r is)
