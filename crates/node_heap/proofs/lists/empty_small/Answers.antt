use Rattle.node_heap.proofs.Free.{IsFree-take, value_in}
use Rattle.node_heap.proofs.lists.empty_small.Goals as goal

pub returns-clause-free : goal.returns-clause-free
returns-clause-free g c =
    let value = value_in _ c.requires.some in
    rw (c.empty.ensures, c.push_reserved.ensures.items) (IsFree-take _ _ _ value.0 value.1 c.requires.free)
