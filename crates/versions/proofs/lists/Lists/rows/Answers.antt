use Rattle.std.proofs.Common.{◌∙◌}
use Rattle.versions.specs.Rooted.{IsListOf, list_at}
use Rattle.versions.proofs.WholeLemmas.{no-rows}
use Rattle.versions.proofs.lists.Lists.rows.Goals as goal

pub returns : goal.returns
returns g c = λ none. c.live.ensures.value ∙ no-rows IsListOf list_at c.self.inside.heap c.self.inside.roots.slots c.self.invariant c.live.ensures.graph (c.self.view_is ∙ none)
