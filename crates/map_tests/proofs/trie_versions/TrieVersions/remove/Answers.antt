use Rattle.map_tests.specs.Stands.{IsSomeTrie}
use Rattle.map_tests.proofs.StandLemmas.{more-held}
use Rattle.map_tests.proofs.trie_versions.TrieVersions.remove.Goals as goal

pub invariant_of-self : goal.invariant_of-self
invariant_of-self g c =
    let made = c.lost-made in (
      c.self.invariant.0,
      more-held (IsSomeTrie g.T.Ord.cmp g.T.Element.code_of c.self.inside.bits) c.self.inside.heap made.new.heap c.self.inside.roots.items c.kept.new.things.items made.result c.kept.ensures.ok made.ensures.good made.ensures.others made.ensures.count c.kept.ensures.list c.self.invariant.1,
    )
