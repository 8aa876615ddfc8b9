use Rattle.std.proofs.Common.{arith}
use Rattle.champ_chain.specs.Entry.{others}
use Rattle.map_tests.proofs.StandLemmas.{tries-stay}
use Rattle.map_tests.proofs.trie_versions.lost.Goals as goal

pub returns-in-Ok-Some-clause-good : goal.returns-in-Ok-Some-clause-good
returns-in-Ok-Some-clause-good g c =
    let E = c.requires.good in
    let left = rw c.in-Ok-Some.field-0-is at c.in-Ok-Some.ensures in
    (others g.T.Ord.cmp (g.P.Probe.stands_for c.args.key.now) E.0, left.entries E.0 E.1)

pub returns-in-Ok-Some-clause-others : goal.returns-in-Ok-Some-clause-others
returns-in-Ok-Some-clause-others g c =
    let E = c.requires.good in
    let left = rw c.in-Ok-Some.field-0-is at c.in-Ok-Some.ensures in
    tries-stay (left.answered E.0 E.1).extends g.T.Ord.cmp g.T.Element.code_of c.args.bits

pub returns-in-Ok-Some-clause-count : goal.returns-in-Ok-Some-clause-count
returns-in-Ok-Some-clause-count g c =
    let E = c.requires.good in
    let left = rw c.in-Ok-Some.field-0-is at c.in-Ok-Some.ensures in
    omega (arith, (left.answered E.0 E.1).count)
