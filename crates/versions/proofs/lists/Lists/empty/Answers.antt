use Rattle.versions.specs.Rooted.{IsListOf, list_at}
use Rattle.versions.proofs.CallLemmas.{on-err}
use Rattle.versions.proofs.ListLemmas.{list-kind}
use Rattle.versions.proofs.MadeLemmas.{still-seen, adds-version, roots-stay}
use Rattle.versions.proofs.lists.Lists.empty.Goals as goal

pub returns-in_err-reserve-clause-refused : goal.returns-in_err-reserve-clause-refused
returns-in_err-reserve-clause-refused g c = on-err c.from_residual.result _ (still-seen IsListOf list_at list-kind c.self.invariant c.self.view_is c.reserve.ensures.keeps)

pub invariant_of-self-2 : goal.invariant_of-self-2
invariant_of-self-2 g c =
    let added = adds-version IsListOf list_at list-kind c.self.invariant c.self.view_is c.reserve.ensures.keeps c.emptied-root.ensures c.keep.ensures in
    added.stands

pub returns-clause-fresh : goal.returns-clause-fresh
returns-clause-fresh g c =
    let added = adds-version IsListOf list_at list-kind c.self.invariant c.self.view_is c.reserve.ensures.keeps c.emptied-root.ensures c.keep.ensures in
    added.fresh

pub returns-clause-made : goal.returns-clause-made
returns-clause-made g c =
    let added = adds-version IsListOf list_at list-kind c.self.invariant c.self.view_is c.reserve.ensures.keeps c.emptied-root.ensures c.keep.ensures in
    added.made

pub invariant_of-self : goal.invariant_of-self
invariant_of-self g c = roots-stay IsListOf list_at list-kind c.self.inside.heap c.reserve.new.heap c.self.inside.roots.slots c.reserve.new.roots.slots c.self.invariant c.reserve.ensures.keeps
