use Rattle.map_tests.specs.Stands.{IsCellMap}
use Rattle.map_tests.proofs.StandLemmas.{more-held}
use Rattle.map_tests.proofs.map_versions.MapVersions.lose.Goals as goal

pub invariant_of-self : goal.invariant_of-self
invariant_of-self g c =
    let made = c.rest-made in
    more-held (IsCellMap g.T.Ord.cmp g.T.Element.code_of) c.self.inside.heap made.new.heap c.self.inside.maps.items c.kept.new.things.items made.result c.kept.ensures.ok made.ensures.good made.ensures.others made.ensures.count c.kept.ensures.list c.self.invariant
