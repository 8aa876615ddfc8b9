use Rattle.std.proofs.Common.{arith}
use Rattle.std.proofs.lemmas.Result.{IfOk-at_ok}
use Rattle.vector_tests.proofs.PlacedLemmas.{placed-cell, placed-set, placed-release}
use Rattle.vector_tests.proofs.editing.Placed.set.Goals as goal

pub set_at-given-requires-clause-child : goal.set_at-given-requires-clause-child
set_at-given-requires-clause-child g c =
    let did = c.cell-cell.ensures in
    let is = placed-cell c.self.inside.heap c.reserve.new.self c.cell-cell.new.self c.self.inside.pair c.cell-cell.result _ c.self.invariant c.reserve.ensures.rest c.reserve.ensures.extends c.reserve.ensures.owners did.adds did.owners did.extends did.count in
    omega (arith, is.two)

pub set_at-given-requires-clause-good : goal.set_at-given-requires-clause-good
set_at-given-requires-clause-good g c =
    let did = c.cell-cell.ensures in
    let is = placed-cell c.self.inside.heap c.reserve.new.self c.cell-cell.new.self c.self.inside.pair c.cell-cell.result _ c.self.invariant c.reserve.ensures.rest c.reserve.ensures.extends c.reserve.ensures.owners did.adds did.owners did.extends did.count in
    is.good

pub set_at-given-requires-clause-apart : goal.set_at-given-requires-clause-apart
set_at-given-requires-clause-apart g c =
    let did = c.cell-cell.ensures in
    let is = placed-cell c.self.inside.heap c.reserve.new.self c.cell-cell.new.self c.self.inside.pair c.cell-cell.result _ c.self.invariant c.reserve.ensures.rest c.reserve.ensures.extends c.reserve.ensures.owners did.adds did.owners did.extends did.count in
    is.apart

pub number_in-number-requires : goal.number_in-number-requires
number_in-number-requires g c =
    let did = c.cell-cell.ensures in
    let is = placed-cell c.self.inside.heap c.reserve.new.self c.cell-cell.new.self c.self.inside.pair c.cell-cell.result _ c.self.invariant c.reserve.ensures.rest c.reserve.ensures.extends c.reserve.ensures.owners did.adds did.owners did.extends did.count in
    let after = placed-set c.cell-cell.new.self c.set_at-given.new.heap c.self.inside.pair c.cell-cell.result c.args.index c.expect-given.result _ is (IfOk-at_ok _ c.expect-given.ensures c.set_at-given.ensures.sets) (IfOk-at_ok _ c.expect-given.ensures c.set_at-given.ensures.changes) in
    (IfOk-at_ok _ c.expect-given.ensures c.set_at-given.ensures.changes).trades.graph.held c.expect-given.result after.came

pub release-requires : goal.release-requires
release-requires g c =
    let did = c.cell-cell.ensures in
    let is = placed-cell c.self.inside.heap c.reserve.new.self c.cell-cell.new.self c.self.inside.pair c.cell-cell.result _ c.self.invariant c.reserve.ensures.rest c.reserve.ensures.extends c.reserve.ensures.owners did.adds did.owners did.extends did.count in
    let after = placed-set c.cell-cell.new.self c.set_at-given.new.heap c.self.inside.pair c.cell-cell.result c.args.index c.expect-given.result _ is (IfOk-at_ok _ c.expect-given.ensures c.set_at-given.ensures.sets) (IfOk-at_ok _ c.expect-given.ensures c.set_at-given.ensures.changes) in
    after.came

pub invariant_of-self : goal.invariant_of-self
invariant_of-self g c =
    let did = c.cell-cell.ensures in
    let is = placed-cell c.self.inside.heap c.reserve.new.self c.cell-cell.new.self c.self.inside.pair c.cell-cell.result _ c.self.invariant c.reserve.ensures.rest c.reserve.ensures.extends c.reserve.ensures.owners did.adds did.owners did.extends did.count in
    let after = placed-set c.cell-cell.new.self c.set_at-given.new.heap c.self.inside.pair c.cell-cell.result c.args.index c.expect-given.result _ is (IfOk-at_ok _ c.expect-given.ensures c.set_at-given.ensures.sets) (IfOk-at_ok _ c.expect-given.ensures c.set_at-given.ensures.changes) in
    placed-release c.set_at-given.new.heap c.release.new.self c.self.inside.pair c.expect-given.result after (IfOk-at_ok _ c.expect-given.ensures c.set_at-given.ensures.changes).trades.graph c.release.ensures.graph c.release.ensures.releases c.release.ensures.keeps
