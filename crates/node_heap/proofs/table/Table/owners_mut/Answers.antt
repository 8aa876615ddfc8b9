use Rattle.std.proofs.Common.{◌/◌, refl, sym, ap, subst, ◌∙◌, arith, IsSome}
use Rattle.node_heap.specs.Layout.{owners_in}
use Rattle.node_heap.specs.Small.{cell_owners, cell_owned_by}
use Rattle.node_heap.proofs.Free.{found, value_in}
use Rattle.node_heap.proofs.Headed.{len-owned}
use Rattle.node_heap.proofs.Woven.{slot-inside}
use Rattle.node_heap.proofs.Placed.{live-cell, live-node, read-cell, cell-owners, node-owned, node-owners, IsTable-cell, IsTable-node}
use Rattle.node_heap.proofs.table.Table.owners_mut.Goals as goal

pub index_mut-requires : goal.index_mut-requires
index_mut-requires g c = omega (arith, slot-inside c.self.inside.cells.items (c.args.place / 2) (live-cell _ _ c.self.view_is c.args.place c.if-place-eq0.true c.requires), c.self.inside.cells.ok.0)

pub owners_mut-requires : goal.owners_mut-requires
owners_mut-requires g c =
    let live = live-cell _ _ c.self.view_is c.args.place c.if-place-eq0.true c.requires in
    subst IsSome (found c.self.inside.cells.items (c.args.place / 2) _ _ live c.index_mut.ensures.value) live

pub invariant_of-self-lent : goal.invariant_of-self-lent
invariant_of-self-lent g c w =
    let live = live-cell _ _ c.self.view_is c.args.place c.if-place-eq0.true c.requires in
    let x = value_in _ live in
    let is = sym (found c.self.inside.cells.items (c.args.place / 2) _ _ live c.index_mut.ensures.value) ∙ x.1 in
    rw (ap (cell_owned_by w) is) (IsTable-cell c.self.invariant (c.args.place / 2) x.0 _ x.1)

pub returns-then-place-eq0 : goal.returns-then-place-eq0
returns-then-place-eq0 g c =
    let live = live-cell _ _ c.self.view_is c.args.place c.if-place-eq0.true c.requires in
    let x = value_in _ live in
    let is = found c.self.inside.cells.items (c.args.place / 2) _ _ live c.index_mut.ensures.value in (
      (refl, λ w. rw (← is) (cell-owners _ _ c.self.view_is c.args.place w x.0 c.if-place-eq0.true x.1)),
      record { writes_back = tt; value = c.owners_mut.ensures.value ∙ ap cell_owners (sym is ∙ x.1) ∙ sym (ap owners_in (read-cell _ _ c.self.view_is c.args.place x.0 c.if-place-eq0.true x.1)) },
    )

pub owners_mut-requires-else-place-eq0 : goal.owners_mut-requires-else-place-eq0
owners_mut-requires-else-place-eq0 g c = live-node _ _ c.self.view_is c.args.place c.if-place-eq0.false c.requires

pub invariant_of-self-lent-else-place-eq0 : goal.invariant_of-self-lent-else-place-eq0
invariant_of-self-lent-else-place-eq0 g c w =
    let live = live-node _ _ c.self.view_is c.args.place c.if-place-eq0.false c.requires in
    IsTable-node c.self.invariant _ (omega (arith, len-owned c.self.inside.nodes.slots (c.args.place / 2) w live))

pub returns-else-place-eq0 : goal.returns-else-place-eq0
returns-else-place-eq0 g c =
    let value = value_in _ (live-node _ _ c.self.view_is c.args.place c.if-place-eq0.false c.requires) in (
      (refl, λ w. node-owners _ _ c.self.view_is c.args.place w value.0 c.if-place-eq0.false value.1),
      record { writes_back = tt; value = c.owners_mut-else-place-eq0.ensures.value ∙ sym (node-owned _ _ c.self.view_is c.args.place c.if-place-eq0.false) },
    )
