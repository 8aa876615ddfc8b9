use Rattle.std.proofs.Common.{arith}
use Rattle.node_heap.specs.Forms.{node}
use Rattle.node_heap.proofs.Added.{Joins, Joins-held, IsHeap-joined, MakesRow-joined}
use Rattle.node_heap.proofs.heap.Heap.node.Given.{Over}
use Rattle.node_heap.proofs.heap.Heap.node.Goals as goal

-- the node stands at a place of its own, and the links that it takes were held
joins : (g : Over) (c : goal.After-put_node-place g) → Joins c.self.inside.table.slots c.put_node-place.new.self.slots c.put_node-place.result (node c.args.head c.args.links.now)
joins g c = Joins-held c.self.invariant c.self.view_is c.put_node-place.ensures.puts c.requires.short c.requires.held

pub invariant_of-self : goal.invariant_of-self
invariant_of-self g c =
    let put = c.put_node-place.ensures in
    IsHeap-joined c.self.invariant c.self.view_is (joins g c) (omega (arith, put.spare_cells)) put.spare_nodes c.requires.few c.saturating_add-self-inside.type_inv

pub returns : goal.returns
returns g c =
    let put = c.put_node-place.ensures in
    assumption (MakesRow-joined c.self.invariant c.self.view_is (invariant_of-self g c) (joins g c) (omega (arith, put.spare_cells)) put.spare_nodes c.saturating_add-self-inside.ensures)
