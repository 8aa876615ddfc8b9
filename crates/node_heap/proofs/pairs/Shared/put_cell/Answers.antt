use Rattle.node_heap.proofs.SharedTable.{sharing-put, puts-shared}
use Rattle.node_heap.proofs.pairs.Shared.put_cell.Goals as goal

pub put_cell-requires : goal.put_cell-requires
put_cell-requires g c = rw (← c.self.view_is) at c.requires

pub invariant_of-self : goal.invariant_of-self
invariant_of-self g c = sharing-put c.put_cell.ensures.puts c.self.invariant

pub returns-clause-puts : goal.returns-clause-puts
returns-clause-puts g c = rw (← c.self.view_is) (puts-shared c.put_cell.ensures.puts c.self.invariant)

pub returns-clause-spare_cells : goal.returns-clause-spare_cells
returns-clause-spare_cells g c = rw (← c.self.view_is) c.put_cell.ensures.spare_cells

pub returns-clause-spare_nodes : goal.returns-clause-spare_nodes
returns-clause-spare_nodes g c = rw (← c.self.view_is) c.put_cell.ensures.spare_nodes
