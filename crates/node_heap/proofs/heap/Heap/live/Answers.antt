use Rattle.std.proofs.Common.{sym, ◌∙◌}
use Rattle.node_heap.proofs.Stored.{IsGraph-stored, live_slots}
use Rattle.node_heap.proofs.heap.Heap.live.Goals as goal

pub returns-clause-value : goal.returns-clause-value
returns-clause-value g c = rw (← c.self.view_is) (c.len.ensures ∙ sym (live_slots c.self.inside.table.slots))

pub returns-clause-graph : goal.returns-clause-graph
returns-clause-graph g c = rw (← c.self.view_is) (IsGraph-stored _ _ _ _ c.self.invariant)
