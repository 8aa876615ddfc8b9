use Rattle.std.proofs.Common.{◌/◌, ◌+◌, refl, sym, ap, subst, ◌∙◌, arith, IsSome}
use Rattle.node_heap.specs.Layout.{owners_in}
use Rattle.node_heap.specs.Small.{cell_owners}
use Rattle.node_heap.proofs.Free.{found, value_in}
use Rattle.node_heap.proofs.Parting.{Covers-free}
use Rattle.node_heap.proofs.Woven.{slot-inside}
use Rattle.node_heap.proofs.Placed.{live-cell, live-node, read-cell, node-owned, takes-cell, takes-node, IsTable-gone, IsTable-node}
use Rattle.node_heap.proofs.table.Table.take.Goals as goal

pub index-requires : goal.index-requires
index-requires g c = omega (arith, slot-inside c.self.inside.cells.items (c.args.place / 2) (live-cell _ _ c.self.view_is c.args.place c.if-place-eq0.true c.requires), c.self.inside.cells.ok.0)

pub owners-owners-requires : goal.owners-owners-requires
owners-owners-requires g c =
    let live = live-cell _ _ c.self.view_is c.args.place c.if-place-eq0.true c.requires in
    subst IsSome (found c.self.inside.cells.items (c.args.place / 2) _ _ live c.index.ensures) live

pub empty_cell-requires-clause-some : goal.empty_cell-requires-clause-some
empty_cell-requires-clause-some g c = live-cell _ _ c.self.view_is c.args.place c.if-place-eq0.true c.requires

pub empty_cell-requires-clause-room : goal.empty_cell-requires-clause-room
empty_cell-requires-clause-room g c =
    let live = live-cell _ _ c.self.view_is c.args.place c.if-place-eq0.true c.requires in
    omega (arith, Covers-free _ _ _ _ _ (c.args.place / 2) live c.self.invariant.of_cells, c.self.inside.free_cells.ok.0)

pub invariant_of-self : goal.invariant_of-self
invariant_of-self g c =
    let x = value_in _ (live-cell _ _ c.self.view_is c.args.place c.if-place-eq0.true c.requires) in
    let out = c.empty_cell.ensures in
    IsTable-gone c.self.invariant _ _ _ _ (c.args.place / 2) x.0 out.capacity out.free_capacity x.1 out.slots out.free

pub returns-then-place-eq0-clause-owners : goal.returns-then-place-eq0-clause-owners
returns-then-place-eq0-clause-owners g c =
    let live = live-cell _ _ c.self.view_is c.args.place c.if-place-eq0.true c.requires in
    let x = value_in _ live in
    c.owners-owners.ensures ∙ ap cell_owners (sym (found c.self.inside.cells.items (c.args.place / 2) _ _ live c.index.ensures) ∙ x.1) ∙ sym (ap owners_in (read-cell _ _ c.self.view_is c.args.place x.0 c.if-place-eq0.true x.1))

pub returns-then-place-eq0-clause-takes : goal.returns-then-place-eq0-clause-takes
returns-then-place-eq0-clause-takes g c =
    let x = value_in _ (live-cell _ _ c.self.view_is c.args.place c.if-place-eq0.true c.requires) in
    takes-cell c.self.inside.cells.items c.self.inside.nodes c.self.view_is c.empty_cell.new.cells.items c.args.place (c.self.inside.spare_cells + 1) x.0 c.if-place-eq0.true x.1 c.empty_cell.ensures.slots refl

pub owners-owners-requires-2 : goal.owners-owners-requires-2
owners-owners-requires-2 g c = live-node _ _ c.self.view_is c.args.place c.if-place-eq0.false c.requires

pub free-requires : goal.free-requires
free-requires g c = live-node _ _ c.self.view_is c.args.place c.if-place-eq0.false c.requires

pub invariant_of-self-2 : goal.invariant_of-self-2
invariant_of-self-2 g c = IsTable-node c.self.invariant _ (omega (arith, c.free.ensures.len, c.free.ensures.spares))

pub returns-clause-owners : goal.returns-clause-owners
returns-clause-owners g c = c.owners-owners-2.ensures ∙ sym (node-owned _ _ c.self.view_is c.args.place c.if-place-eq0.false)

pub returns-clause-takes : goal.returns-clause-takes
returns-clause-takes g c =
    let value = value_in _ (live-node _ _ c.self.view_is c.args.place c.if-place-eq0.false c.requires) in
    let freed = c.free.ensures in
    takes-node _ _ c.self.view_is c.free.new.self c.args.place value.0 c.if-place-eq0.false value.1 freed.gone freed.others freed.len freed.spares
