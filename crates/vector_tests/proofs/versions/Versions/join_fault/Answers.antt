use Rattle.vector_tests.proofs.VectorsLemmas.{vector-at}
use Rattle.vector_tests.proofs.versions.Versions.join_fault.Goals as goal

pub joined-requires-clause-left : goal.joined-requires-clause-left
joined-requires-clause-left g c = vector-at c.self.inside.heap c.self.inside.roots.items c.args.left c.root_at-left.result (rw c.deref.ensures.value at c.root_at-left.ensures.root) c.self.invariant

pub joined-requires-clause-right : goal.joined-requires-clause-right
joined-requires-clause-right g c =
    vector-at c.self.inside.heap c.self.inside.roots.items c.args.right c.root_at-right.result (rw c.deref-2.ensures.value at c.root_at-right.ensures.root) c.self.invariant
