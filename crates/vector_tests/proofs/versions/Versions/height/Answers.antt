use Rattle.vector_tests.proofs.VectorsLemmas.{vector-at}
use Rattle.vector_tests.proofs.versions.Versions.height.Goals as goal

pub height-requires : goal.height-requires
height-requires g c = rw c.at.ensures (vector-at c.self.inside.heap c.self.inside.roots.items c.args.turn c.root_at.result (rw c.deref.ensures.value at c.root_at.ensures.root) c.self.invariant).good
