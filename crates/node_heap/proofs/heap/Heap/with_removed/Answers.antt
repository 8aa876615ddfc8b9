use Rattle.node_heap.specs.Heap.{row_at}
use Rattle.node_heap.proofs.Changed.{node-long}
use Rattle.node_heap.proofs.heap.Heap.with_removed.Goals as goal

pub changed-requires-clause-node : goal.changed-requires-clause-node
changed-requires-clause-node g c = node-long (row_at c.args.self.now c.args.row) c.args.index c.requires.index

pub changed-requires-clause-room : goal.changed-requires-clause-room
changed-requires-clause-room g c none = absurd cc
