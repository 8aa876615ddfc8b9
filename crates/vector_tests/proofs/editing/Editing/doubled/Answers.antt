use Rattle.std.proofs.Common.{arith}
use Rattle.std.proofs.lemmas.Result.{IfOk-at_ok}
use Rattle.vector_tests.proofs.EditingLemmas.{root-held, made-editing, open-editing}
use Rattle.vector_tests.proofs.editing.Editing.doubled.Goals as goal

pub release-requires : goal.release-requires
release-requires g c =
    let answered = IfOk-at_ok _ c.expect-twice.ensures c.concat.ensures.answered in
    rw c.freeze-once.ensures (omega (arith, root-held c.self.inside.heap c.self.inside.vector c.self.inside.kept c.self.inside.cells.items c.self.invariant, answered.holds c.self.inside.vector))

pub opened-vector-requires-clause-good : goal.opened-vector-requires-clause-good
opened-vector-requires-clause-good g c =
    let did = c.concat.ensures in
    let good = IfOk-at_ok _ c.expect-twice.ensures did.good in
    let answered = IfOk-at_ok _ c.expect-twice.ensures did.answered in
    let releases = rw c.freeze-once.ensures at c.release.ensures.releases in
    let keeps = rw c.freeze-once.ensures at c.release.ensures.keeps in
    let is = made-editing c.self.inside.heap c.concat.new.heap c.release.new.heap c.self.inside.vector c.expect-twice.result c.self.inside.kept _ _ c.self.inside.cells.items c.self.invariant good (λ l was. (did.vectors l was).0) answered releases keeps in
    is.good

pub opened-vector-requires-clause-held : goal.opened-vector-requires-clause-held
opened-vector-requires-clause-held g c =
    let did = c.concat.ensures in
    let good = IfOk-at_ok _ c.expect-twice.ensures did.good in
    let answered = IfOk-at_ok _ c.expect-twice.ensures did.answered in
    let releases = rw c.freeze-once.ensures at c.release.ensures.releases in
    let keeps = rw c.freeze-once.ensures at c.release.ensures.keeps in
    let is = made-editing c.self.inside.heap c.concat.new.heap c.release.new.heap c.self.inside.vector c.expect-twice.result c.self.inside.kept _ _ c.self.inside.cells.items c.self.invariant good (λ l was. (did.vectors l was).0) answered releases keeps in
    root-held c.release.new.heap c.expect-twice.result c.self.inside.kept c.self.inside.cells.items is

pub invariant_of-result : goal.invariant_of-result
invariant_of-result g c =
    let did = c.concat.ensures in
    let good = IfOk-at_ok _ c.expect-twice.ensures did.good in
    let answered = IfOk-at_ok _ c.expect-twice.ensures did.answered in
    let releases = rw c.freeze-once.ensures at c.release.ensures.releases in
    let keeps = rw c.freeze-once.ensures at c.release.ensures.keeps in
    let is = made-editing c.self.inside.heap c.concat.new.heap c.release.new.heap c.self.inside.vector c.expect-twice.result c.self.inside.kept _ _ c.self.inside.cells.items c.self.invariant good (λ l was. (did.vectors l was).0) answered releases keeps in
    let did = c.opened-vector.ensures in
    open-editing c.release.new.heap c.opened-vector.new.heap c.expect-twice.result c.opened-vector.result c.self.inside.kept c.self.inside.cells.items is did.good did.others did.holds did.count
