use Rattle.std.proofs.Common.{ap, sym, ◌∙◌}
use Rattle.std.specs.FinMap as map
use Rattle.versions.specs.Rooted.{list_at}
use Rattle.versions.proofs.WholeLemmas.{keys-in}
use Rattle.versions.proofs.lists.Lists.versions.Goals as goal

pub returns : goal.returns
returns g c = c.versions_of.ensures ∙ sym (keys-in list_at c.self.inside.heap c.self.inside.roots.slots) ∙ ap map.keys c.self.view_is
