use Rattle.std.proofs.Common.{arith}
use Rattle.std.proofs.lemmas.List.Edits.{length-remove}
use Rattle.node_heap.specs.Heap.{row_at, links_at}
use Rattle.node_heap.proofs.Changed.{node-long}
use Rattle.node_heap.proofs.heap.Heap.with_turned.Goals as goal

pub changed-requires-clause-node : goal.changed-requires-clause-node
changed-requires-clause-node g c = node-long (row_at c.args.self.now c.args.row) c.args.out c.requires.out

pub changed-requires-clause-into : goal.changed-requires-clause-into
changed-requires-clause-into g c = omega (arith, c.requires.index, length-remove (links_at c.args.self.now c.args.row) c.args.out c.requires.out)

pub changed-requires-clause-room : goal.changed-requires-clause-room
changed-requires-clause-room g c none = absurd cc

pub changed-requires-clause-few : goal.changed-requires-clause-few
changed-requires-clause-few g c none = absurd cc
