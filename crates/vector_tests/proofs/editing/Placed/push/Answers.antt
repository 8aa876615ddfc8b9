use Rattle.std.proofs.Common.{arith}
use Rattle.std.proofs.lemmas.Result.{IfOk-at_ok}
use Rattle.vector_tests.proofs.PlacedLemmas.{placed-cell, placed-push}
use Rattle.vector_tests.proofs.editing.Placed.push.Goals as goal

pub push_at-requires-clause-child : goal.push_at-requires-clause-child
push_at-requires-clause-child g c =
    let did = c.cell-cell.ensures in
    let is = placed-cell c.self.inside.heap c.reserve.new.self c.cell-cell.new.self c.self.inside.pair c.cell-cell.result _ c.self.invariant c.reserve.ensures.rest c.reserve.ensures.extends c.reserve.ensures.owners did.adds did.owners did.extends did.count in
    omega (arith, is.two)

pub push_at-requires-clause-good : goal.push_at-requires-clause-good
push_at-requires-clause-good g c =
    let did = c.cell-cell.ensures in
    let is = placed-cell c.self.inside.heap c.reserve.new.self c.cell-cell.new.self c.self.inside.pair c.cell-cell.result _ c.self.invariant c.reserve.ensures.rest c.reserve.ensures.extends c.reserve.ensures.owners did.adds did.owners did.extends did.count in
    is.good

pub push_at-requires-clause-apart : goal.push_at-requires-clause-apart
push_at-requires-clause-apart g c =
    let did = c.cell-cell.ensures in
    let is = placed-cell c.self.inside.heap c.reserve.new.self c.cell-cell.new.self c.self.inside.pair c.cell-cell.result _ c.self.invariant c.reserve.ensures.rest c.reserve.ensures.extends c.reserve.ensures.owners did.adds did.owners did.extends did.count in
    is.apart

pub invariant_of-self : goal.invariant_of-self
invariant_of-self g c =
    let did = c.cell-cell.ensures in
    let is = placed-cell c.self.inside.heap c.reserve.new.self c.cell-cell.new.self c.self.inside.pair c.cell-cell.result _ c.self.invariant c.reserve.ensures.rest c.reserve.ensures.extends c.reserve.ensures.owners did.adds did.owners did.extends did.count in
    placed-push c.cell-cell.new.self c.push_at.new.heap c.self.inside.pair c.cell-cell.result _ is (IfOk-at_ok _ c.expect-2.ensures c.push_at.ensures.pushes) (IfOk-at_ok _ c.expect-2.ensures c.push_at.ensures.changes)
