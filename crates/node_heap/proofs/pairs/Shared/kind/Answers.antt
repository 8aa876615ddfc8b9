use Rattle.std.proofs.Common.{sym, ap, ◌∙◌, option_map}
use Rattle.node_heap.specs.Forms.{head_of, kind_of}
use Rattle.node_heap.specs.Pairs.{common_at}
use Rattle.node_heap.proofs.MoreOwners.{live-more, graph-more}
use Rattle.node_heap.proofs.pairs.Shared.kind.Goals as goal

pub kind-requires : goal.kind-requires
kind-requires g c =
    let live = rw (← c.self.view_is) at c.requires in
    live-more (common_at c.self.inside.table.slots c.self.inside.pairs.items) c.self.inside.table.slots c.args.place live

pub returns : goal.returns
returns g c = rw (← c.self.view_is) (c.kind.ensures ∙ ap (λ r. option_map kind_of (head_of r)) (sym (graph-more (common_at c.self.inside.table.slots c.self.inside.pairs.items) c.self.inside.table.slots c.args.place)))
