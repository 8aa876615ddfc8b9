use Rattle.node_heap.proofs.Stored.{IsGraph-stored}
use Rattle.node_heap.proofs.heap.Heap.links.Goals as goal

pub returns-clause-graph : goal.returns-clause-graph
returns-clause-graph g c = rw (← c.self.view_is) (IsGraph-stored _ _ _ _ c.self.invariant)
