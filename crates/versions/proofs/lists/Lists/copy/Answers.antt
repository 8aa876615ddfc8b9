use Rattle.versions.specs.Store.{list_of}
use Rattle.versions.specs.Rooted.{IsListOf, list_at}
use Rattle.versions.proofs.CallLemmas.{on-err}
use Rattle.versions.proofs.ListLemmas.{list-kind, seen-list, lists-stay}
use Rattle.versions.proofs.MadeLemmas.{held-at, still-seen, adds-version, roots-stay}
use Rattle.versions.proofs.lists.Lists.copy.Goals as goal

pub root_of-root-requires : goal.root_of-root-requires
root_of-root-requires g c = held-at list_at c.self.inside.heap c.self.inside.roots.slots c.args.version c.args.self.now c.self.view_is c.requires

pub returns-in_err-reserve-clause-refused : goal.returns-in_err-reserve-clause-refused
returns-in_err-reserve-clause-refused g c = on-err c.from_residual.result _ (still-seen IsListOf list_at list-kind c.self.invariant c.self.view_is c.reserve.ensures.keeps)

pub shared-root-requires-clause-good : goal.shared-root-requires-clause-good
shared-root-requires-clause-good g c =
    let list = seen-list c.self.inside.heap c.self.inside.roots.slots c.args.version c.root_of-root.result c.self.invariant c.self.view_is c.root_of-root.ensures in
    let kept = lists-stay c.self.inside.heap c.reserve.new.heap c.reserve.ensures.keeps.extends c.root_of-root.result (list_of c.args.self.now c.args.version) list in
    kept.good

pub invariant_of-self-2 : goal.invariant_of-self-2
invariant_of-self-2 g c =
    let list = seen-list c.self.inside.heap c.self.inside.roots.slots c.args.version c.root_of-root.result c.self.invariant c.self.view_is c.root_of-root.ensures in
    let kept = lists-stay c.self.inside.heap c.reserve.new.heap c.reserve.ensures.keeps.extends c.root_of-root.result (list_of c.args.self.now c.args.version) list in
    let added = adds-version IsListOf list_at list-kind c.self.invariant c.self.view_is c.reserve.ensures.keeps (c.shared-root.ensures (list_of c.args.self.now c.args.version) kept) c.keep.ensures in
    added.stands

pub returns-clause-fresh : goal.returns-clause-fresh
returns-clause-fresh g c =
    let list = seen-list c.self.inside.heap c.self.inside.roots.slots c.args.version c.root_of-root.result c.self.invariant c.self.view_is c.root_of-root.ensures in
    let kept = lists-stay c.self.inside.heap c.reserve.new.heap c.reserve.ensures.keeps.extends c.root_of-root.result (list_of c.args.self.now c.args.version) list in
    let added = adds-version IsListOf list_at list-kind c.self.invariant c.self.view_is c.reserve.ensures.keeps (c.shared-root.ensures (list_of c.args.self.now c.args.version) kept) c.keep.ensures in
    added.fresh

pub returns-clause-made : goal.returns-clause-made
returns-clause-made g c =
    let list = seen-list c.self.inside.heap c.self.inside.roots.slots c.args.version c.root_of-root.result c.self.invariant c.self.view_is c.root_of-root.ensures in
    let kept = lists-stay c.self.inside.heap c.reserve.new.heap c.reserve.ensures.keeps.extends c.root_of-root.result (list_of c.args.self.now c.args.version) list in
    let added = adds-version IsListOf list_at list-kind c.self.invariant c.self.view_is c.reserve.ensures.keeps (c.shared-root.ensures (list_of c.args.self.now c.args.version) kept) c.keep.ensures in
    added.made

pub invariant_of-self : goal.invariant_of-self
invariant_of-self g c = roots-stay IsListOf list_at list-kind c.self.inside.heap c.reserve.new.heap c.self.inside.roots.slots c.reserve.new.roots.slots c.self.invariant c.reserve.ensures.keeps
