use Rattle.std.proofs.Common.{Some, [], arith}
use Rattle.node_heap.specs.Heap.{links_at}
use Rattle.node_heap.proofs.Rewritten.{Moves, Moves-head, IsHeap-moved, WritesNode-moved}
use Rattle.node_heap.proofs.heap.Heap.set_head.Given.{Over}
use Rattle.node_heap.proofs.heap.Heap.set_head.Goals as goal

-- the node has the new head
moves : (g : Over) (c : goal.After-set_head g) → Moves c.self.inside.table.slots c.set_head.new.self.slots c.parent.inside.place (Some c.args.head) (links_at c.args.self.now c.args.parent) [] []
moves g c = Moves-head c.self.invariant.counted c.self.view_is c.parent.view_is _ c.requires.sole c.set_head.ensures.rewrites

pub invariant_of-self : goal.invariant_of-self
invariant_of-self g c = IsHeap-moved c.set_head.ensures.room c.self.invariant (moves g c) (omega (arith, c.self.invariant.few_holds))

pub returns : goal.returns
returns g c = assumption (WritesNode-moved c.set_head.ensures.room c.self.invariant c.self.view_is c.parent.view_is (invariant_of-self g c) (moves g c))
