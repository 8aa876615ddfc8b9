use Rattle.std.proofs.Common.{sym, ◌∙◌}
use Rattle.node_heap.proofs.Placed.{live-node, node-links, cell-links}
use Rattle.node_heap.proofs.table.Table.row_links.Goals as goal

pub returns-then-place-eq0 : goal.returns-then-place-eq0
returns-then-place-eq0 g c = c.new.ensures ∙ cell-links _ _ c.self.view_is c.args.place c.if-place-eq0.true

pub row_links-requires : goal.row_links-requires
row_links-requires g c = live-node _ _ c.self.view_is c.args.place c.if-place-eq0.false c.requires

pub returns : goal.returns
returns g c = c.row_links.ensures ∙ sym (node-links _ _ c.self.view_is c.args.place c.if-place-eq0.false)
