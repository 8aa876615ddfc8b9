use Rattle.std.proofs.Common.{sym, ap, ◌∙◌}
use Rattle.node_heap.specs.Reads.{sums_or}
use Rattle.node_heap.proofs.Placed.{live-node, node-head, cell-head, node-sums}
use Rattle.node_heap.proofs.table.Table.sums.Goals as goal

pub returns-then-place-eq0 : goal.returns-then-place-eq0
returns-then-place-eq0 g c = ap sums_or (cell-head _ _ c.self.view_is c.args.place c.if-place-eq0.true)

pub sums-requires : goal.sums-requires
sums-requires g c = live-node _ _ c.self.view_is c.args.place c.if-place-eq0.false c.requires

pub returns : goal.returns
returns g c = sym (ap sums_or (node-head _ _ c.self.view_is c.args.place c.if-place-eq0.false) ∙ node-sums _ _ c.sums.ensures)
