use Rattle.vector_tests.proofs.VectorsLemmas.{vector-at}
use Rattle.vector_tests.proofs.versions.Versions.number.Goals as goal

pub number_at-requires : goal.number_at-requires
number_at-requires g c = (vector-at c.self.inside.heap c.self.inside.roots.items c.args.turn c.root_at.result (rw c.deref.ensures.value at c.root_at.ensures.root) c.self.invariant).good
