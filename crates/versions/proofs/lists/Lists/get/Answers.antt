use Rattle.std.proofs.Common.{◌∙◌, sym}
use Rattle.versions.specs.Store.{list_of}
use Rattle.versions.specs.Rooted.{list_at}
use Rattle.versions.proofs.CallLemmas.{value-got, none-got}
use Rattle.versions.proofs.ListLemmas.{seen-list}
use Rattle.versions.proofs.MadeLemmas.{held-at}
use Rattle.versions.proofs.lists.Lists.get.Goals as goal

pub root_of-root-requires : goal.root_of-root-requires
root_of-root-requires g c = held-at list_at c.self.inside.heap c.self.inside.roots.slots c.args.version c.args.self.now c.self.view_is c.requires

pub returns : goal.returns
returns g c =
    let list = seen-list c.self.inside.heap c.self.inside.roots.slots c.args.version c.root_of-root.result c.self.invariant c.self.view_is c.root_of-root.ensures in
    c.value.ensures ∙ value-got c.self.inside.heap c.root_of-root.result c.at.result (list_of c.args.self.now c.args.version) c.at.ensures list c.args.index c.in_ok-cell.cell (sym c.get.ensures.value ∙ c.in_ok-cell.was)

pub returns-in_err-cell : goal.returns-in_err-cell
returns-in_err-cell g c =
    let list = seen-list c.self.inside.heap c.self.inside.roots.slots c.args.version c.root_of-root.result c.self.invariant c.self.view_is c.root_of-root.ensures in
    rw c.from_residual.ensures (sym (none-got c.self.inside.heap c.root_of-root.result c.at.result (list_of c.args.self.now c.args.version) c.at.ensures list c.args.index (sym c.get.ensures.value ∙ c.in_err-cell.was)))
