use Rattle.std.proofs.Common.{sym, ap, ◌∙◌}
use Rattle.node_heap.specs.Forms.{is_node}
use Rattle.node_heap.specs.Pairs.{common_at}
use Rattle.node_heap.proofs.MoreOwners.{graph-more}
use Rattle.node_heap.proofs.pairs.Shared.copy_node.Goals as goal

pub copy_node-requires : goal.copy_node-requires
copy_node-requires g c =
    let is = rw (← c.self.view_is) at c.requires in
    ap is_node (sym (graph-more (common_at c.self.inside.table.slots c.self.inside.pairs.items) c.self.inside.table.slots c.args.place)) ∙ is

pub returns : goal.returns
returns g c = rw (← c.self.view_is) (graph-more (common_at c.self.inside.table.slots c.self.inside.pairs.items) c.self.inside.table.slots c.args.place ∙ c.copy_node.ensures)
