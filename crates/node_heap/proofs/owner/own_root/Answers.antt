use Rattle.std.proofs.Common.{◌<◌, refl, subst, sym, arith}
use Rattle.node_heap.specs.Heap.{holds_at}
use Rattle.node_heap.specs.Root.{OwnsRoot}
use Rattle.node_heap.proofs.EditLaws.{Gains-Builds}
use Rattle.node_heap.proofs.OwnedRows.{owns}
use Rattle.node_heap.proofs.OwnedChild.{owns-child, gains-child}
use Rattle.node_heap.proofs.RootLemmas.{root-held, root-placed}
use Rattle.node_heap.proofs.owner.own_root.Goals as goal

pub own-requires-clause-held : goal.own-requires-clause-held
own-requires-clause-held g c = rw c.in-Hold.is at c.requires.owner

pub own-requires-clause-node : goal.own-requires-clause-node
own-requires-clause-node g c = rw c.in-Hold.is at c.requires.node

pub own_child-requires-clause-sole : goal.own_child-requires-clause-sole
own_child-requires-clause-sole g c = let can = rw c.in-Child.is at c.requires.owner in can.1

pub own_child-requires-clause-index : goal.own_child-requires-clause-index
own_child-requires-clause-index g c = let can = rw c.in-Child.is at c.requires.owner in can.0

pub own_child-requires-clause-node : goal.own_child-requires-clause-node
own_child-requires-clause-node g c = rw c.in-Child.is at c.requires.node

pub returns-in-Hold-clause-owns : goal.returns-in-Hold-clause-owns
returns-in-Hold-clause-owns g c =
    let can : 0 < holds_at c.args.heap.now c.in-Hold.root = rw c.in-Hold.is at c.requires.owner in
    let did = c.own.ensures in
    subst (λ o. OwnsRoot o c.args.heap.now c.own.new.self c.own.result) (sym c.in-Hold.is)
    (root-held (owns refl c.rows_form_a_graph.ensures can did.same did.row did.sole did.fresh did.owners did.builds did.makes))

pub returns-in-Hold-clause-gains : goal.returns-in-Hold-clause-gains
returns-in-Hold-clause-gains g c = Gains-Builds c.own.ensures.builds

pub returns-in-Hold-clause-spares : goal.returns-in-Hold-clause-spares
returns-in-Hold-clause-spares g c = (omega (arith, c.own.ensures.makes.spare_cells), omega (arith, c.own.ensures.builds.makes.spare_nodes, c.own.ensures.builds.few_nodes))

pub returns-in-Child-clause-owns : goal.returns-in-Child-clause-owns
returns-in-Child-clause-owns g c =
    let can = rw c.in-Child.is at c.requires.owner in
    let did = c.own_child.ensures in
    subst (λ o. OwnsRoot o c.args.heap.now c.own_child.new.self c.own_child.result) (sym c.in-Child.is)
    (root-placed c.rows_form_a_graph.ensures (owns-child can.0 did.same did.row did.sole did.fresh did.parent_head did.parent_links did.stays did.others did.owners did.changes did.makes))

pub returns-in-Child-clause-gains : goal.returns-in-Child-clause-gains
returns-in-Child-clause-gains g c =
    let can = rw c.in-Child.is at c.requires.owner in
    let did = c.own_child.ensures in
    gains-child c.args.heap.now c.own_child.new.self c.in-Child.parent c.in-Child.index c.own_child.result
    (owns-child can.0 did.same did.row did.sole did.fresh did.parent_head did.parent_links did.stays did.others did.owners did.changes did.makes)

pub returns-in-Child-clause-spares : goal.returns-in-Child-clause-spares
returns-in-Child-clause-spares g c = (omega (arith, c.own_child.ensures.makes.spare_cells), omega (arith, c.own_child.ensures.changes.trades.balance.spare_nodes, c.own_child.ensures.changes.trades.nodes))
