use Rattle.std.proofs.Common.{◌≡◌, [], ◌∷◌, remove, ap, arith}
use Rattle.node_heap.specs.Forms.{head_of}
use Rattle.node_heap.specs.Heap.{row_at, links_at, hold_count}
use Rattle.node_heap.specs.InPlace.{child_at}
use Rattle.node_heap.proofs.Rewritten.{Moves, child-seen, Moves-remove, IsHeap-moved, WritesNode-moved}
use Rattle.node_heap.proofs.heap.Heap.remove_link.Given.{Over}
use Rattle.node_heap.proofs.Owned.{owners-room}
use Rattle.node_heap.proofs.heap.Heap.remove_link.Goals as goal

-- the answer is the child that stood there
old : (g : Over) (c : goal.After-remove_link g) → c.remove_link.result ≡ child_at c.args.self.now c.args.parent c.args.index
old g c = child-seen c.self.invariant.counted c.self.view_is c.parent.view_is _ _ c.remove_link.ensures.old

-- the node has the link no more
moves : (g : Over) (c : goal.After-remove_link g) → Moves c.self.inside.table.slots c.remove_link.new.self.slots c.parent.inside.place (head_of (row_at c.args.self.now c.args.parent)) (remove (links_at c.args.self.now c.args.parent) c.args.index) [] (c.remove_link.result ∷ [])
moves g c = Moves-remove c.self.invariant.counted c.self.view_is c.parent.view_is _ _ c.requires.sole c.requires.index (old g c) c.remove_link.ensures.rewrites

pub invariant_of-self : goal.invariant_of-self
invariant_of-self g c = IsHeap-moved c.remove_link.ensures.room c.self.invariant (moves g c) (omega (arith, ap hold_count c.self.view_is, c.requires.few))

pub returns : goal.returns
returns g c = assumption (old g c, WritesNode-moved c.remove_link.ensures.room c.self.invariant c.self.view_is c.parent.view_is (invariant_of-self g c) (moves g c))

pub remove_link-requires-clause-room : goal.remove_link-requires-clause-room
remove_link-requires-clause-room g c l = omega (arith, owners-room c.self.invariant l)
