use Rattle.std.proofs.Common.{sym, ap, ◌∙◌}
use Rattle.node_heap.specs.Reads.{sums_in}
use Rattle.node_heap.specs.Pairs.{common_at}
use Rattle.node_heap.proofs.MoreOwners.{live-more, graph-more}
use Rattle.node_heap.proofs.pairs.Shared.sums.Goals as goal

pub sums-requires : goal.sums-requires
sums-requires g c =
    let live = rw (← c.self.view_is) at c.requires in
    live-more (common_at c.self.inside.table.slots c.self.inside.pairs.items) c.self.inside.table.slots c.args.place live

pub returns : goal.returns
returns g c = rw (← c.self.view_is) (c.sums.ensures ∙ ap sums_in (sym (graph-more (common_at c.self.inside.table.slots c.self.inside.pairs.items) c.self.inside.table.slots c.args.place)))
