use Rattle.std.proofs.Common.{◌/◌, sym, ap, subst, ◌∙◌, arith, IsSome}
use Rattle.node_heap.specs.Small.{cell_owners}
use Rattle.node_heap.proofs.Free.{found, value_in}
use Rattle.node_heap.proofs.Woven.{slot-inside}
use Rattle.node_heap.specs.Layout.{owners_in}
use Rattle.node_heap.proofs.Placed.{live-cell, live-node, read-cell, node-owned}
use Rattle.node_heap.proofs.table.Table.owners.Goals as goal

pub index-requires : goal.index-requires
index-requires g c = omega (arith, slot-inside c.self.inside.cells.items (c.args.place / 2) (live-cell _ _ c.self.view_is c.args.place c.if-place-eq0.true c.requires), c.self.inside.cells.ok.0)

pub owners-requires : goal.owners-requires
owners-requires g c =
    let live = live-cell _ _ c.self.view_is c.args.place c.if-place-eq0.true c.requires in
    subst IsSome (found c.self.inside.cells.items (c.args.place / 2) _ _ live c.index.ensures) live

pub owners-requires-else-place-eq0 : goal.owners-requires-else-place-eq0
owners-requires-else-place-eq0 g c = live-node _ _ c.self.view_is c.args.place c.if-place-eq0.false c.requires

pub returns-then-place-eq0 : goal.returns-then-place-eq0
returns-then-place-eq0 g c =
    let live = live-cell _ _ c.self.view_is c.args.place c.if-place-eq0.true c.requires in
    let x = value_in _ live in
    c.owners.ensures ∙ ap cell_owners (sym (found c.self.inside.cells.items (c.args.place / 2) _ _ live c.index.ensures) ∙ x.1) ∙ sym (ap owners_in (read-cell _ _ c.self.view_is c.args.place x.0 c.if-place-eq0.true x.1))

pub returns-else-place-eq0 : goal.returns-else-place-eq0
returns-else-place-eq0 g c = c.owners-else-place-eq0.ensures ∙ sym (node-owned _ _ c.self.view_is c.args.place c.if-place-eq0.false)
