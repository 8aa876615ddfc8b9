use Rattle.std.proofs.Common.{◌≡◌, ◌≤◌, length, drop}
use Rattle.node_heap.specs.Links.{count}
use Rattle.node_heap.specs.Pairs.{paired}
use Rattle.node_heap.proofs.pairs.pair_of.Given as goal

abbrev pub invariant-loop-left : goal.invariant-loop-left
invariant-loop-left l = record { fits : l.left ≤ length l.pairs; off : count l.place (paired (drop l.left l.pairs)) ≡ 0 }

abbrev pub decreases-loop-left : goal.decreases-loop-left
decreases-loop-left l = l.left
