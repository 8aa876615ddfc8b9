use Rattle.node_heap.proofs.heap.Heap.with_inserted.Goals as goal

pub changed-requires-clause-few : goal.changed-requires-clause-few
changed-requires-clause-few g c none = absurd cc
