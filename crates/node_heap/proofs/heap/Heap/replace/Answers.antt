use Rattle.std.proofs.Common.{◌≡◌, [], ◌∷◌, set, arith}
use Rattle.node_heap.specs.Forms.{head_of}
use Rattle.node_heap.specs.Heap.{row_at, links_at}
use Rattle.node_heap.specs.InPlace.{child_at}
use Rattle.node_heap.proofs.Rewritten.{Moves, child-seen, Moves-replace, IsHeap-moved, WritesNode-moved}
use Rattle.node_heap.proofs.heap.Heap.replace.Given.{Over}
use Rattle.node_heap.proofs.Owned.{owners-room}
use Rattle.node_heap.proofs.heap.Heap.replace.Goals as goal

-- the answer is the child that stood there
old : (g : Over) (c : goal.After-replace_link g) → c.replace_link.result ≡ child_at c.args.self.now c.args.parent c.args.index
old g c = child-seen c.self.invariant.counted c.self.view_is c.parent.view_is _ _ c.replace_link.ensures.old

-- the node has the new link in its place
moves : (g : Over) (c : goal.After-replace_link g) → Moves c.self.inside.table.slots c.replace_link.new.self.slots c.parent.inside.place (head_of (row_at c.args.self.now c.args.parent)) (set (links_at c.args.self.now c.args.parent) c.args.index c.args.new) (c.args.new ∷ []) (c.replace_link.result ∷ [])
moves g c =
    let r = c.requires in
    Moves-replace c.self.invariant.counted c.self.view_is c.parent.view_is _ _ _ r.sole r.index r.held r.apart (old g c) c.replace_link.ensures.rewrites

pub invariant_of-self : goal.invariant_of-self
invariant_of-self g c = IsHeap-moved c.replace_link.ensures.room c.self.invariant (moves g c) (omega (arith, c.self.invariant.few_holds))

pub returns : goal.returns
returns g c = assumption (old g c, WritesNode-moved c.replace_link.ensures.room c.self.invariant c.self.view_is c.parent.view_is (invariant_of-self g c) (moves g c))

pub replace_link-requires-clause-room : goal.replace_link-requires-clause-room
replace_link-requires-clause-room g c l = omega (arith, owners-room c.self.invariant l)
