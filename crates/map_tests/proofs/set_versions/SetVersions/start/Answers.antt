use Rattle.std.proofs.Common.{List, [], ◌∷◌, ◌++◌, ◌≡◌, ap, subst}
use Rattle.std.specs.Prelude.{sum, IfOk}
use Rattle.champ_kinds.specs.Root.{Root}
use Rattle.champ_kinds.specs.Stands.{IsSomeSet}
use Rattle.map_tests.proofs.StandLemmas.{first-held}
use Rattle.map_tests.proofs.set_versions.SetVersions.start.Goals as goal

pub invariant_of-result : goal.invariant_of-result
invariant_of-result g c =
    let made = c.no_keys-made in
    let list = subst (λ (had : List Root). IfOk made.result (λ r. c.kept.new.things.items ≡ had ++ r ∷ [])) c.new-sets.ensures.items c.kept.ensures.list in
    first-held (IsSomeSet g.T.Ord.cmp g.T.Element.code_of) c.new-heap.result made.new.heap c.kept.new.things.items made.result c.kept.ensures.ok made.ensures.good (ap sum c.new-heap.ensures.holds) made.ensures.count list
