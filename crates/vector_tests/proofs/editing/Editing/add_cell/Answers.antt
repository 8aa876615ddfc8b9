use Rattle.vector_tests.proofs.EditingLemmas.{cell-editing}
use Rattle.vector_tests.proofs.editing.Editing.add_cell.Goals as goal

pub invariant_of-self : goal.invariant_of-self
invariant_of-self g c =
    let did = c.cell-cell.ensures in
    cell-editing c.self.inside.heap c.reserve.new.self c.cell-cell.new.self c.self.inside.vector c.self.inside.kept c.cell-cell.result _ c.self.inside.cells.items c.push.new.self.items (rw c.expect-2.ensures at c.push.ensures.items) c.self.invariant c.reserve.ensures.rest c.reserve.ensures.extends did.adds did.extends did.count
