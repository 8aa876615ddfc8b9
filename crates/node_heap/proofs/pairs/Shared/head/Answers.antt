use Rattle.std.proofs.Common.{sym, ap, ◌∙◌}
use Rattle.node_heap.specs.Forms.{head_of}
use Rattle.node_heap.specs.Pairs.{common_at}
use Rattle.node_heap.proofs.MoreOwners.{live-more, graph-more}
use Rattle.node_heap.proofs.pairs.Shared.head.Goals as goal

pub head-requires : goal.head-requires
head-requires g c =
    let live = rw (← c.self.view_is) at c.requires in
    live-more (common_at c.self.inside.table.slots c.self.inside.pairs.items) c.self.inside.table.slots c.args.place live

pub returns : goal.returns
returns g c = rw (← c.self.view_is) (c.head.ensures ∙ ap head_of (sym (graph-more (common_at c.self.inside.table.slots c.self.inside.pairs.items) c.self.inside.table.slots c.args.place)))
