use Rattle.versions.specs.Store.{list_of}
use Rattle.versions.specs.Rooted.{list_at}
use Rattle.versions.proofs.CallLemmas.{empty-at, at-empty}
use Rattle.versions.proofs.ListLemmas.{seen-list}
use Rattle.versions.proofs.MadeLemmas.{held-at}
use Rattle.versions.proofs.lists.Lists.is_empty.Goals as goal

pub root_of-requires : goal.root_of-requires
root_of-requires g c = held-at list_at c.self.inside.heap c.self.inside.roots.slots c.args.version c.args.self.now c.self.view_is c.requires

pub returns : goal.returns
returns g c =
    let list = seen-list c.self.inside.heap c.self.inside.roots.slots c.args.version c.root_of.result c.self.invariant c.self.view_is c.root_of.ensures in
    (λ yes. empty-at c.self.inside.heap c.root_of.result c.at.result (list_of c.args.self.now c.args.version) c.at.ensures list (c.is_empty.ensures.0 yes), λ none. c.is_empty.ensures.1 (at-empty c.self.inside.heap c.root_of.result c.at.result (list_of c.args.self.now c.args.version) c.at.ensures list none))
