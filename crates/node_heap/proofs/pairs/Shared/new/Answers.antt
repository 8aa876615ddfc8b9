use Rattle.std.proofs.Common.{ap}
use Rattle.node_heap.specs.Pairs.{common_at, more}
use Rattle.node_heap.proofs.PairLemmas.{sharing-none}
use Rattle.node_heap.proofs.pairs.Shared.new.Goals as goal

pub invariant_of-result : goal.invariant_of-result
invariant_of-result g c = rw c.new-2.ensures (sharing-none c.new.result.slots)

pub returns-clause-slots : goal.returns-clause-slots
returns-clause-slots g c = ap (λ xs. more (common_at xs c.new-2.result.items) 0 xs) c.new.ensures.slots
