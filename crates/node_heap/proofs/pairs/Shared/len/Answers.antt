use Rattle.std.proofs.Common.{sym, ◌∙◌}
use Rattle.node_heap.specs.Pairs.{common_at}
use Rattle.node_heap.proofs.MoreOwners.{filled-more}
use Rattle.node_heap.proofs.pairs.Shared.len.Goals as goal

pub returns : goal.returns
returns g c = rw (← c.self.view_is) (c.len.ensures ∙ sym (filled-more (common_at c.self.inside.table.slots c.self.inside.pairs.items) c.self.inside.table.slots))
