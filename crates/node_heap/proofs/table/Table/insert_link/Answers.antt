use Rattle.std.proofs.Common.{ap, refl, arith, length}
use Rattle.node_heap.proofs.Free.{value_in}
use Rattle.node_heap.proofs.Placed.{is_odd, node-live, read-node, node-links, rewrites, rewrites-room, IsTable-node}
use Rattle.node_heap.proofs.table.Table.insert_link.Goals as goal

pub insert_link-requires-clause-live : goal.insert_link-requires-clause-live
insert_link-requires-clause-live g c = node-live c.self.inside.cells.items c.self.inside.nodes c.self.view_is c.args.place c.requires.node

pub insert_link-requires-clause-position : goal.insert_link-requires-clause-position
insert_link-requires-clause-position g c =
    omega (arith, c.requires.index, ap length (node-links c.self.inside.cells.items c.self.inside.nodes c.self.view_is c.args.place (is_odd c.self.inside.cells.items c.self.inside.nodes c.self.view_is c.args.place c.requires.node)))

pub insert_link-requires-clause-room : goal.insert_link-requires-clause-room
insert_link-requires-clause-room g c =
    omega (arith, c.requires.room, ap length (node-links c.self.inside.cells.items c.self.inside.nodes c.self.view_is c.args.place (is_odd c.self.inside.cells.items c.self.inside.nodes c.self.view_is c.args.place c.requires.node)))

pub returns-clause-rewrites : goal.returns-clause-rewrites
returns-clause-rewrites g c =
    let odd = is_odd c.self.inside.cells.items c.self.inside.nodes c.self.view_is c.args.place c.requires.node in
    let value = value_in _ (node-live c.self.inside.cells.items c.self.inside.nodes c.self.view_is c.args.place c.requires.node) in
    rw (read-node c.self.inside.cells.items c.self.inside.nodes c.self.view_is c.args.place value.0 odd value.1) (rewrites c.self.inside.cells.items c.self.inside.nodes c.self.view_is c.insert_link.new.self c.args.place _ value.0 odd value.1 refl c.insert_link.ensures.becomes)

pub returns-clause-room : goal.returns-clause-room
returns-clause-room g c = rewrites-room c.self.inside.cells.items c.self.inside.nodes c.self.view_is _ _ _ c.insert_link.ensures.becomes c.insert_link.ensures.spares

pub invariant_of-self : goal.invariant_of-self
invariant_of-self g c = IsTable-node c.self.invariant _ (omega (arith, c.insert_link.ensures.becomes.len, c.insert_link.ensures.spares))
