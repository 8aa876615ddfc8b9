use Rattle.vector_tests.proofs.EditingLemmas.{root-held, open-editing}
use Rattle.vector_tests.proofs.editing.Editing.reopened.Goals as goal

pub opened-vector-requires-clause-held : goal.opened-vector-requires-clause-held
opened-vector-requires-clause-held g c = rw c.freeze.ensures (root-held c.self.inside.heap c.self.inside.vector c.self.inside.kept c.self.inside.cells.items c.self.invariant)

pub invariant_of-result : goal.invariant_of-result
invariant_of-result g c = let did = c.opened-vector.ensures in open-editing c.self.inside.heap c.opened-vector.new.heap c.self.inside.vector c.opened-vector.result c.self.inside.kept c.self.inside.cells.items c.self.invariant did.good did.others (rw c.freeze.ensures at did.holds) did.count
