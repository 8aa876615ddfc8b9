use Rattle.std.proofs.Common.{sym, subst}
use Rattle.champ_kinds.specs.Root.{Root}
use Rattle.champ_kinds.specs.Stands.{IsSomeSet}
use Rattle.champ_kinds.proofs.StayLemmas.{sets-kept}
use Rattle.map_tests.proofs.set_versions.united.Goals as goal

pub returns-clause-good : goal.returns-clause-good
returns-clause-good g c =
    let E = c.requires.first in
    let D = c.requires.second in
    subst (λ (r : Root). IsSomeSet g.T.Ord.cmp g.T.Element.code_of c.set_union.new.heap r) (sym c.held.ensures) (_, c.in_ok-made.ensures.contents E.0 D.0 E.1 D.1)

pub returns-clause-others : goal.returns-clause-others
returns-clause-others g c = sets-kept g.T.Ord.cmp g.T.Element.code_of c.in_ok-made.ensures.containers
