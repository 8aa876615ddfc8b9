use Rattle.node_heap.proofs.Placed.{is_odd, node-live, node-graph}
use Rattle.node_heap.proofs.table.Table.copy_node.Goals as goal

pub copy-requires : goal.copy-requires
copy-requires g c = node-live _ _ c.self.view_is c.args.place c.requires

pub returns : goal.returns
returns g c = node-graph _ _ c.self.view_is c.args.place _ _ (is_odd _ _ c.self.view_is c.args.place c.requires) c.copy.ensures.head c.copy.ensures.links
