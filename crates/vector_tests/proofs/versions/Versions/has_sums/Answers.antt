use Rattle.vector_tests.proofs.VectorsLemmas.{vector-live}
use Rattle.vector_tests.proofs.versions.Versions.has_sums.Goals as goal

pub has_sums-requires : goal.has_sums-requires
has_sums-requires g c = vector-live c.self.inside.heap c.self.inside.roots.items c.args.turn c.root_at.result (rw c.deref.ensures.value at c.root_at.ensures.root) c.self.invariant
