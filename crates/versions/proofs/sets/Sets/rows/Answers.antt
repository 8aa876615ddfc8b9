use Rattle.std.proofs.Common.{◌∙◌}
use Rattle.versions.specs.Keyed.{keys_at, IsKeySet}
use Rattle.versions.proofs.WholeLemmas.{no-rows}
use Rattle.versions.proofs.sets.Sets.rows.Goals as goal

pub returns : goal.returns
returns g c = λ none. c.live.ensures.value ∙ no-rows (IsKeySet g.K.Ord.cmp g.K.Element.code_of) (keys_at g.K.Ord.cmp) c.self.inside.heap c.self.inside.roots.slots c.self.invariant c.live.ensures.graph (c.self.view_is ∙ none)
