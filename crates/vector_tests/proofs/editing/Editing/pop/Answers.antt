use Rattle.std.proofs.lemmas.Result.{IfOk-at_ok}
use Rattle.vector_tests.proofs.EditingLemmas.{pop-editing, given-live, given-held, release-editing}
use Rattle.vector_tests.proofs.editing.Editing.pop.Goals as goal

pub number_in-number-requires : goal.number_in-number-requires
number_in-number-requires g c =
    let did = IfOk-at_ok _ c.in_ok-given.ensures c.pop.ensures.pops in
    let is = pop-editing c.self.inside.heap c.pop.new.heap c.self.inside.vector c.pop.new.self c.self.inside.kept c.in_ok-given.given c.self.inside.cells.items c.self.invariant did in
    given-live c.pop.new.heap c.pop.new.self c.self.inside.kept c.in_ok-given.given c.self.inside.cells.items did.edits.trades.graph is

pub release-requires : goal.release-requires
release-requires g c =
    let did = IfOk-at_ok _ c.in_ok-given.ensures c.pop.ensures.pops in
    let is = pop-editing c.self.inside.heap c.pop.new.heap c.self.inside.vector c.pop.new.self c.self.inside.kept c.in_ok-given.given c.self.inside.cells.items c.self.invariant did in
    given-held c.pop.new.heap c.pop.new.self c.self.inside.kept c.in_ok-given.given c.self.inside.cells.items is

pub invariant_of-self-2 : goal.invariant_of-self-2
invariant_of-self-2 g c =
    let did = IfOk-at_ok _ c.in_ok-given.ensures c.pop.ensures.pops in
    let is = pop-editing c.self.inside.heap c.pop.new.heap c.self.inside.vector c.pop.new.self c.self.inside.kept c.in_ok-given.given c.self.inside.cells.items c.self.invariant did in
    release-editing c.pop.new.heap c.release.new.self c.pop.new.self c.self.inside.kept c.in_ok-given.given c.self.inside.cells.items is c.release.ensures.releases c.release.ensures.keeps
