use Rattle.std.proofs.Common.{[], ◌∷◌, insert, arith}
use Rattle.node_heap.specs.Forms.{head_of}
use Rattle.node_heap.specs.Heap.{row_at, links_at}
use Rattle.node_heap.proofs.Rewritten.{Moves, Moves-insert, IsHeap-moved, WritesNode-moved}
use Rattle.node_heap.proofs.heap.Heap.insert_link.Given.{Over}
use Rattle.node_heap.proofs.Owned.{owners-room}
use Rattle.node_heap.proofs.heap.Heap.insert_link.Goals as goal

-- the node has the new link besides
moves : (g : Over) (c : goal.After-insert_link g) → Moves c.self.inside.table.slots c.insert_link.new.self.slots c.parent.inside.place (head_of (row_at c.args.self.now c.args.parent)) (insert (links_at c.args.self.now c.args.parent) c.args.index c.args.new) (c.args.new ∷ []) []
moves g c =
    let r = c.requires in
    Moves-insert c.self.invariant.counted c.self.view_is c.parent.view_is _ _ r.sole r.index r.room r.held r.apart c.insert_link.ensures.rewrites

pub invariant_of-self : goal.invariant_of-self
invariant_of-self g c = IsHeap-moved c.insert_link.ensures.room c.self.invariant (moves g c) (omega (arith, c.self.invariant.few_holds))

pub returns : goal.returns
returns g c = assumption (WritesNode-moved c.insert_link.ensures.room c.self.invariant c.self.view_is c.parent.view_is (invariant_of-self g c) (moves g c))

pub insert_link-requires-clause-room : goal.insert_link-requires-clause-room
insert_link-requires-clause-room g c l = omega (arith, owners-room c.self.invariant l)
