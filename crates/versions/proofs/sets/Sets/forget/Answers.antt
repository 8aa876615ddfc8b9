use Rattle.std.proofs.Common.{ap, ◌∙◌}
use Rattle.std.specs.FinMap as map
use Rattle.versions.specs.Keyed.{keys_at, IsKeySet}
use Rattle.versions.proofs.KeyedLemmas.{set-kind}
use Rattle.versions.proofs.MadeLemmas.{held-at, roots-left, versions-left}
use Rattle.versions.proofs.sets.Sets.forget.Goals as goal

pub forget-requires-clause-held : goal.forget-requires-clause-held
forget-requires-clause-held g c = held-at (keys_at g.K.Ord.cmp) c.self.inside.heap c.self.inside.roots.slots c.args.version c.args.self.now c.self.view_is c.requires

pub invariant_of-self : goal.invariant_of-self
invariant_of-self g c = roots-left (IsKeySet g.K.Ord.cmp g.K.Element.code_of) (keys_at g.K.Ord.cmp) (set-kind g.K.Ord.cmp g.met.K.Ord.total g.K.Element.code_of) c.self.inside.heap c.forget.new.heap c.self.inside.roots.slots c.forget.new.roots.slots c.args.version c.self.invariant c.forget.ensures

pub returns : goal.returns
returns g c =
    versions-left (IsKeySet g.K.Ord.cmp g.K.Element.code_of) (keys_at g.K.Ord.cmp) (set-kind g.K.Ord.cmp g.met.K.Ord.total g.K.Element.code_of) c.self.inside.heap c.forget.new.heap c.self.inside.roots.slots c.forget.new.roots.slots c.args.version c.self.invariant c.forget.ensures
    ∙ ap (λ m. map.remove m c.args.version) c.self.view_is
