use Rattle.vector_tests.proofs.VectorsLemmas.{vectors-more}
use Rattle.vector_tests.proofs.versions.Versions.fill.Goals as goal

pub invariant_of-self : goal.invariant_of-self
invariant_of-self g c =
    let made = c.filled-made in
    vectors-more c.self.inside.heap made.new.heap c.self.inside.roots.items c.kept.new.roots.items made.result c.kept.ensures.ok made.ensures.lines made.ensures.others made.ensures.count c.kept.ensures.list c.self.invariant
