use Rattle.std.proofs.Common.{◌∙◌, sym, ap, refl, arith, length, slice_index}
use Rattle.node_heap.proofs.Free.{value_in}
use Rattle.node_heap.proofs.Placed.{linked-odd, linked-live, read-node, node-links, rewrites, rewrites-room, IsTable-node}
use Rattle.node_heap.proofs.table.Table.remove_link.Goals as goal

pub remove_link-requires : goal.remove_link-requires
remove_link-requires g c =
    omega (arith, c.requires, ap length (node-links c.self.inside.cells.items c.self.inside.nodes c.self.view_is c.args.place (linked-odd c.self.inside.cells.items c.self.inside.nodes c.self.view_is c.args.place _ c.requires)))

pub returns-clause-old : goal.returns-clause-old
returns-clause-old g c =
    c.remove_link.ensures.old ∙ sym (ap (λ xs. slice_index xs c.args.index) (node-links c.self.inside.cells.items c.self.inside.nodes c.self.view_is c.args.place (linked-odd c.self.inside.cells.items c.self.inside.nodes c.self.view_is c.args.place _ c.requires)))

pub returns-clause-rewrites : goal.returns-clause-rewrites
returns-clause-rewrites g c =
    let odd = linked-odd c.self.inside.cells.items c.self.inside.nodes c.self.view_is c.args.place _ c.requires in
    let value = value_in _ (linked-live c.self.inside.cells.items c.self.inside.nodes c.self.view_is c.args.place _ c.requires) in
    rw (read-node c.self.inside.cells.items c.self.inside.nodes c.self.view_is c.args.place value.0 odd value.1) (rewrites c.self.inside.cells.items c.self.inside.nodes c.self.view_is c.remove_link.new.self c.args.place _ value.0 odd value.1 refl c.remove_link.ensures.becomes)

pub returns-clause-room : goal.returns-clause-room
returns-clause-room g c = rewrites-room c.self.inside.cells.items c.self.inside.nodes c.self.view_is _ _ _ c.remove_link.ensures.becomes c.remove_link.ensures.spares

pub invariant_of-self : goal.invariant_of-self
invariant_of-self g c = IsTable-node c.self.invariant _ (omega (arith, c.remove_link.ensures.becomes.len, c.remove_link.ensures.spares))
