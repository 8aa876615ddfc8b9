use Rattle.std.proofs.Common.{ap, sym, ◌∙◌}
use Rattle.std.specs.FinMap as map
use Rattle.versions.specs.Bound.{map_at}
use Rattle.versions.proofs.WholeLemmas.{keys-in}
use Rattle.versions.proofs.maps.Maps.versions.Goals as goal

pub returns : goal.returns
returns g c = c.versions_of.ensures ∙ sym (keys-in (map_at g.K.Ord.cmp) c.self.inside.heap c.self.inside.roots.slots) ∙ ap map.keys c.self.view_is
