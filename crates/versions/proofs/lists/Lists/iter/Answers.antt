use Rattle.std.proofs.Common.{sym, subst}
use Rattle.versions.specs.Store.{list_of}
use Rattle.versions.specs.Rooted.{IsListOf, list_at}
use Rattle.versions.proofs.ListLemmas.{seen-list}
use Rattle.versions.proofs.MadeLemmas.{held-at}
use Rattle.versions.proofs.lists.Lists.iter.Goals as goal

pub root_of-requires : goal.root_of-requires
root_of-requires g c = held-at list_at c.self.inside.heap c.self.inside.roots.slots c.args.version c.args.self.now c.self.view_is c.requires

pub new-requires : goal.new-requires
new-requires g c =
    let list = seen-list c.self.inside.heap c.self.inside.roots.slots c.args.version c.root_of.result c.self.invariant c.self.view_is c.root_of.ensures in
    ((list_of c.args.self.now c.args.version), subst (λ l. IsListOf c.self.inside.heap l (list_of c.args.self.now c.args.version)) (sym c.at-vector.ensures) list)

pub returns : goal.returns
returns g c =
    let list = seen-list c.self.inside.heap c.self.inside.roots.slots c.args.version c.root_of.result c.self.invariant c.self.view_is c.root_of.ensures in
    c.new.ensures (list_of c.args.self.now c.args.version) (subst (λ l. IsListOf c.self.inside.heap l (list_of c.args.self.now c.args.version)) (sym c.at-vector.ensures) list)
