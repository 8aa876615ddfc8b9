use Rattle.vector_tests.proofs.VectorsLemmas.{vector-at}
use Rattle.vector_tests.proofs.versions.Versions.set_fault.Goals as goal

pub changed-requires-clause-lines : goal.changed-requires-clause-lines
changed-requires-clause-lines g c = vector-at c.self.inside.heap c.self.inside.roots.items c.args.turn c.root_at-root.result (rw c.deref.ensures.value at c.root_at-root.ensures.root) c.self.invariant
