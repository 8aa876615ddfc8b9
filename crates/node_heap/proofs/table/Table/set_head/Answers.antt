use Rattle.std.proofs.Common.{refl, arith}
use Rattle.node_heap.proofs.Free.{value_in}
use Rattle.node_heap.proofs.Placed.{is_odd, node-live, read-node, rewrites, rewrites-room, IsTable-node}
use Rattle.node_heap.proofs.table.Table.set_head.Goals as goal

pub set_head-requires : goal.set_head-requires
set_head-requires g c = node-live c.self.inside.cells.items c.self.inside.nodes c.self.view_is c.args.place c.requires

pub returns-clause-rewrites : goal.returns-clause-rewrites
returns-clause-rewrites g c =
    let odd = is_odd c.self.inside.cells.items c.self.inside.nodes c.self.view_is c.args.place c.requires in
    let value = value_in _ (node-live c.self.inside.cells.items c.self.inside.nodes c.self.view_is c.args.place c.requires) in
    rw (read-node c.self.inside.cells.items c.self.inside.nodes c.self.view_is c.args.place value.0 odd value.1) (rewrites c.self.inside.cells.items c.self.inside.nodes c.self.view_is c.set_head.new.self c.args.place _ value.0 odd value.1 refl c.set_head.ensures.becomes)

pub returns-clause-room : goal.returns-clause-room
returns-clause-room g c = rewrites-room c.self.inside.cells.items c.self.inside.nodes c.self.view_is _ _ _ c.set_head.ensures.becomes c.set_head.ensures.spares

pub invariant_of-self : goal.invariant_of-self
invariant_of-self g c = IsTable-node c.self.invariant _ (omega (arith, c.set_head.ensures.becomes.len, c.set_head.ensures.spares))
