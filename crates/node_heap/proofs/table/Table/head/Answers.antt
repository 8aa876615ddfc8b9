use Rattle.std.proofs.Common.{sym, ◌∙◌}
use Rattle.node_heap.proofs.Placed.{live-node, node-head, cell-head}
use Rattle.node_heap.proofs.table.Table.head.Goals as goal

pub returns-then-place-eq0 : goal.returns-then-place-eq0
returns-then-place-eq0 g c = cell-head _ _ c.self.view_is c.args.place c.if-place-eq0.true

pub head-requires : goal.head-requires
head-requires g c = live-node _ _ c.self.view_is c.args.place c.if-place-eq0.false c.requires

pub returns : goal.returns
returns g c = sym (node-head _ _ c.self.view_is c.args.place c.if-place-eq0.false ∙ c.head.ensures)
