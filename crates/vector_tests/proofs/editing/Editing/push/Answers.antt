use Rattle.std.proofs.lemmas.Result.{IfOk-at_ok}
use Rattle.vector_tests.proofs.EditingLemmas.{last-cell, push-editing}
use Rattle.vector_tests.proofs.editing.Editing.push.Goals as goal

pub invariant_of-self : goal.invariant_of-self
invariant_of-self g c =
    push-editing c.self.inside.heap c.push.new.heap c.self.inside.vector c.push.new.self c.self.inside.kept c.expect-cell.result c.self.inside.cells.items c.pop.new.self.items (last-cell _ _ _ _ c.pop.ensures.items c.expect-cell.ensures) c.self.invariant
    (IfOk-at_ok _ c.expect.ensures c.push.ensures.pushes)
