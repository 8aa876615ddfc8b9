use Rattle.std.proofs.Common.{◌∙◌}
use Rattle.versions.specs.Store.{list_of}
use Rattle.versions.specs.Rooted.{list_at}
use Rattle.versions.proofs.MadeLemmas.{held-at}
use Rattle.versions.proofs.ListLemmas.{seen-list}
use Rattle.versions.proofs.CallLemmas.{length-at}
use Rattle.versions.proofs.lists.Lists.len.Goals as goal

pub root_of-requires : goal.root_of-requires
root_of-requires g c = held-at list_at c.self.inside.heap c.self.inside.roots.slots c.args.version c.args.self.now c.self.view_is c.requires

pub returns : goal.returns
returns g c =
    let list = seen-list c.self.inside.heap c.self.inside.roots.slots c.args.version c.root_of.result c.self.invariant c.self.view_is c.root_of.ensures in
    c.len.ensures.value ∙ length-at c.self.inside.heap c.root_of.result c.at.result (list_of c.args.self.now c.args.version) c.at.ensures list
