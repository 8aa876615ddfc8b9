use Rattle.std.proofs.Common.{◌∙◌}
use Rattle.versions.specs.Bound.{map_at, IsKeyMap}
use Rattle.versions.proofs.WholeLemmas.{no-rows}
use Rattle.versions.proofs.maps.Maps.rows.Goals as goal

pub returns : goal.returns
returns g c = λ none. c.live.ensures.value ∙ no-rows (IsKeyMap g.K.Ord.cmp g.V.Ord.cmp g.K.Element.code_of) (map_at g.K.Ord.cmp) c.self.inside.heap c.self.inside.roots.slots c.self.invariant c.live.ensures.graph (c.self.view_is ∙ none)
