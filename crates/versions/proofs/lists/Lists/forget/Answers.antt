use Rattle.std.proofs.Common.{ap, ◌∙◌}
use Rattle.std.specs.FinMap as map
use Rattle.versions.specs.Rooted.{IsListOf, list_at}
use Rattle.versions.proofs.MadeLemmas.{held-at, roots-left, versions-left}
use Rattle.versions.proofs.ListLemmas.{list-kind}
use Rattle.versions.proofs.lists.Lists.forget.Goals as goal

pub forget-requires-clause-held : goal.forget-requires-clause-held
forget-requires-clause-held g c = held-at list_at c.self.inside.heap c.self.inside.roots.slots c.args.version c.args.self.now c.self.view_is c.requires

pub invariant_of-self : goal.invariant_of-self
invariant_of-self g c = roots-left IsListOf list_at list-kind c.self.inside.heap c.forget.new.heap c.self.inside.roots.slots c.forget.new.roots.slots c.args.version c.self.invariant c.forget.ensures

pub returns : goal.returns
returns g c =
    versions-left IsListOf list_at list-kind c.self.inside.heap c.forget.new.heap c.self.inside.roots.slots c.forget.new.roots.slots c.args.version c.self.invariant c.forget.ensures
    ∙ ap (λ m. map.remove m c.args.version) c.self.view_is
