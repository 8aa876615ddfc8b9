use Rattle.std.proofs.Common.{sym, ap, ◌∙◌}
use Rattle.std.specs.Prelude.{option_map}
use Rattle.node_heap.specs.Forms.{kind_of}
use Rattle.node_heap.proofs.Placed.{live-node, node-head, cell-head}
use Rattle.node_heap.proofs.table.Table.kind.Goals as goal

pub returns-then-place-eq0 : goal.returns-then-place-eq0
returns-then-place-eq0 g c = ap (option_map kind_of) (cell-head _ _ c.self.view_is c.args.place c.if-place-eq0.true)

pub kind-requires : goal.kind-requires
kind-requires g c = live-node _ _ c.self.view_is c.args.place c.if-place-eq0.false c.requires

pub returns : goal.returns
returns g c = sym (ap (option_map kind_of) (node-head _ _ c.self.view_is c.args.place c.if-place-eq0.false) ∙ c.kind.ensures)
