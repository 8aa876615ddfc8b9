use Rattle.node_heap.proofs.Stored.{IsGraph-stored}
use Rattle.node_heap.proofs.heap.Heap.rows_form_a_graph.Goals as goal

pub returns : goal.returns
returns g c = rw (← c.self.view_is) (IsGraph-stored _ _ _ _ c.self.invariant)
