use Rattle.std.proofs.Common.{◌/◌, sym, ap, subst, ◌∙◌, arith, IsSome}
use Rattle.node_heap.specs.Small.{cell_value}
use Rattle.node_heap.proofs.Free.{found, value_in}
use Rattle.node_heap.proofs.Woven.{slot-inside}
use Rattle.node_heap.specs.Forms.{value_of}
use Rattle.node_heap.specs.Layout.{row_of_slot}
use Rattle.node_heap.proofs.Placed.{live-cell, read-cell, node-value}
use Rattle.node_heap.proofs.table.Table.value.Goals as goal

pub returns-then-place-ne0 : goal.returns-then-place-ne0
returns-then-place-ne0 g c = node-value _ _ c.self.view_is c.args.place c.if-place-ne0.true

pub index-requires : goal.index-requires
index-requires g c = omega (arith, slot-inside c.self.inside.cells.items (c.args.place / 2) (live-cell _ _ c.self.view_is c.args.place c.if-place-ne0.false c.requires), c.self.inside.cells.ok.0)

pub value-requires : goal.value-requires
value-requires g c =
    let live = live-cell _ _ c.self.view_is c.args.place c.if-place-ne0.false c.requires in
    subst IsSome (found c.self.inside.cells.items (c.args.place / 2) _ _ live c.index.ensures) live

pub returns : goal.returns
returns g c =
    let live = live-cell _ _ c.self.view_is c.args.place c.if-place-ne0.false c.requires in
    let x = value_in _ live in
    sym (ap (λ o. value_of (row_of_slot o)) (read-cell _ _ c.self.view_is c.args.place x.0 c.if-place-ne0.false x.1) ∙ sym (ap cell_value (sym (found c.self.inside.cells.items (c.args.place / 2) _ _ live c.index.ensures) ∙ x.1)) ∙ c.value.ensures)
