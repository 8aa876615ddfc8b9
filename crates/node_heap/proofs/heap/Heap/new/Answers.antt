use Rattle.std.proofs.Common.{arith}
use Rattle.node_heap.proofs.Slots.{IsCounted-empty}
use Rattle.node_heap.proofs.Stored.{IsGraph-stored}
use Rattle.node_heap.proofs.heap.Heap.new.Goals as goal

pub invariant_of-result : goal.invariant_of-result
invariant_of-result g c =
    rw (c.new.ensures.slots, c.new.ensures.spare_cells, c.new.ensures.spare_nodes)
    (record {
      counted = IsCounted-empty;
      few = omega arith;
      few_holds = omega arith;
      fits = omega arith;
    })

pub returns-clause-graph : goal.returns-clause-graph
returns-clause-graph g c = IsGraph-stored _ _ _ _ (invariant_of-result g c)
