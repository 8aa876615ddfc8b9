use Rattle.std.proofs.Common.{ap, arith}
use Rattle.node_heap.specs.Pairs.{common_at, more, counted_too}
use Rattle.node_heap.proofs.MoreOwners.{filled-more}
use Rattle.node_heap.proofs.SharedTable.{err-then}
use Rattle.node_heap.proofs.pairs.Shared.reserve.Goals as goal

pub reserve-requires-clause-more_cells : goal.reserve-requires-clause-more_cells
reserve-requires-clause-more_cells g c = rw (← c.self.view_is) at c.requires.more_cells

pub reserve-requires-clause-more_nodes : goal.reserve-requires-clause-more_nodes
reserve-requires-clause-more_nodes g c = rw (← c.self.view_is) at c.requires.more_nodes

pub reserve-requires-clause-few : goal.reserve-requires-clause-few
reserve-requires-clause-few g c =
    let few = rw (← c.self.view_is) at c.requires.few in
    omega (arith, few, filled-more (common_at c.self.inside.table.slots c.self.inside.pairs.items) c.self.inside.table.slots)

pub invariant_of-self : goal.invariant_of-self
invariant_of-self g c = rw c.reserve.ensures.slots c.self.invariant

pub returns-clause-slots : goal.returns-clause-slots
returns-clause-slots g c = rw (← c.self.view_is) (ap (λ xs. more (common_at xs c.self.inside.pairs.items) 0 xs) c.reserve.ensures.slots)

pub returns-clause-refused : goal.returns-clause-refused
returns-clause-refused g c = rw (← c.self.view_is) (err-then c.reserve.result (λ same. ap (λ t. counted_too t c.self.inside.pairs.items) same) c.reserve.ensures.refused)

pub returns-clause-ample : goal.returns-clause-ample
returns-clause-ample g c = rw (← c.self.view_is) c.reserve.ensures.ample
