use Rattle.std.proofs.Common.{arith}
use Rattle.std.proofs.Math.Nat.{add-zero}
use Rattle.node_heap.specs.Forms.{cell}
use Rattle.node_heap.proofs.Added.{Joins, Joins-held, IsHeap-joined, MakesRow-joined}
use Rattle.node_heap.proofs.heap.Heap.cell.Given.{Over}
use Rattle.node_heap.proofs.heap.Heap.cell.Goals as goal

-- the cell stands at a place of its own
joins : (g : Over) (c : goal.After-put_cell-place g) → Joins c.self.inside.table.slots c.put_cell-place.new.self.slots c.put_cell-place.result (cell c.args.value)
joins g c = Joins-held c.self.invariant c.self.view_is c.put_cell-place.ensures.puts (omega arith) (λ l. omega arith)

pub invariant_of-self : goal.invariant_of-self
invariant_of-self g c =
    let put = c.put_cell-place.ensures in
    IsHeap-joined c.self.invariant c.self.view_is (joins g c) put.spare_cells (omega (arith, put.spare_nodes)) c.requires.few c.saturating_add-self-inside.type_inv

pub returns : goal.returns
returns g c =
    let put = c.put_cell-place.ensures in
    let made = MakesRow-joined c.self.invariant c.self.view_is (invariant_of-self g c) (joins g c) put.spare_cells (omega (arith, put.spare_nodes)) c.saturating_add-self-inside.ensures in
    assumption (made, rw add-zero at made.count)
