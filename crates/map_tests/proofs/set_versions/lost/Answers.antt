use Rattle.std.proofs.Common.{sym, subst, arith}
use Rattle.champ_chain.specs.Entry.{others}
use Rattle.champ_kinds.specs.Root.{Root}
use Rattle.champ_kinds.specs.Stands.{IsSomeSet}
use Rattle.champ_kinds.proofs.StayLemmas.{sets-kept}
use Rattle.map_tests.proofs.set_versions.lost.Goals as goal

pub returns-in-Ok-Some-clause-good : goal.returns-in-Ok-Some-clause-good
returns-in-Ok-Some-clause-good g c =
    let E = c.requires.good in
    let left = rw c.in-Ok-Some.field-0-is at c.in-Ok-Some.ensures in
    subst (λ (r : Root). IsSomeSet g.T.Ord.cmp g.T.Element.code_of c.set_remove.new.heap r) (sym c.held.ensures) (others g.T.Ord.cmp (g.P.Probe.stands_for c.args.key.now) E.0, left.contents E.0 E.1)

pub returns-in-Ok-Some-clause-others : goal.returns-in-Ok-Some-clause-others
returns-in-Ok-Some-clause-others g c = sets-kept g.T.Ord.cmp g.T.Element.code_of c.in-Ok-Some.ensures.containers

pub returns-in-Ok-Some-clause-count : goal.returns-in-Ok-Some-clause-count
returns-in-Ok-Some-clause-count g c =
    let E = c.requires.good in
    let left = rw c.in-Ok-Some.field-0-is at c.in-Ok-Some.ensures in
    omega (arith, (left.answered E.0 E.1).count)
