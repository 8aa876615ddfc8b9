use Rattle.std.proofs.Common.{◌≡◌, ◌+◌, drop}
use Rattle.node_heap.specs.Pairs.{common_at}
use Rattle.node_heap.proofs.pairs.left_out.Given as goal

abbrev pub invariant-loop-pair : goal.invariant-loop-pair
invariant-loop-pair g l = l.sum + common_at l.table.slots (drop l.pair-index l.pairs) l.place ≡ common_at l.table.slots l.pairs l.place
