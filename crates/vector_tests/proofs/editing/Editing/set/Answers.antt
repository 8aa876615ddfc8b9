use Rattle.std.proofs.lemmas.Result.{IfOk-at_ok}
use Rattle.vector_tests.proofs.EditingLemmas.{last-cell, set-editing, given-live, given-held, release-editing}
use Rattle.vector_tests.proofs.editing.Editing.set.Goals as goal

pub number_in-number-requires : goal.number_in-number-requires
number_in-number-requires g c =
    let did = IfOk-at_ok _ c.expect-given.ensures c.set-given.ensures.sets in
    let list = last-cell _ _ _ _ c.pop.ensures.items c.expect-cell.ensures in
    let is = set-editing c.self.inside.heap c.set-given.new.heap c.self.inside.vector c.set-given.new.self c.self.inside.kept c.expect-cell.result c.args.index c.expect-given.result c.self.inside.cells.items c.pop.new.self.items list c.self.invariant did in
    given-live c.set-given.new.heap c.set-given.new.self c.self.inside.kept c.expect-given.result c.pop.new.self.items did.edits.trades.graph is

pub release-requires : goal.release-requires
release-requires g c =
    let did = IfOk-at_ok _ c.expect-given.ensures c.set-given.ensures.sets in
    let list = last-cell _ _ _ _ c.pop.ensures.items c.expect-cell.ensures in
    let is = set-editing c.self.inside.heap c.set-given.new.heap c.self.inside.vector c.set-given.new.self c.self.inside.kept c.expect-cell.result c.args.index c.expect-given.result c.self.inside.cells.items c.pop.new.self.items list c.self.invariant did in
    given-held c.set-given.new.heap c.set-given.new.self c.self.inside.kept c.expect-given.result c.pop.new.self.items is

pub invariant_of-self : goal.invariant_of-self
invariant_of-self g c =
    let did = IfOk-at_ok _ c.expect-given.ensures c.set-given.ensures.sets in
    let list = last-cell _ _ _ _ c.pop.ensures.items c.expect-cell.ensures in
    let is = set-editing c.self.inside.heap c.set-given.new.heap c.self.inside.vector c.set-given.new.self c.self.inside.kept c.expect-cell.result c.args.index c.expect-given.result c.self.inside.cells.items c.pop.new.self.items list c.self.invariant did in
    release-editing c.set-given.new.heap c.release.new.self c.set-given.new.self c.self.inside.kept c.expect-given.result c.pop.new.self.items is c.release.ensures.releases c.release.ensures.keeps
