use Rattle.node_heap.proofs.OwnerLemmas.{insert-removed}
use Rattle.node_heap.proofs.pairs.put_row.Goals as goal

pub put_beside-requires-clause-index : goal.put_beside-requires-clause-index
put_beside-requires-clause-index g c = rw (c.in-Some.ensures.gone) at c.requires.out

pub returns-in-Some-clause-puts : goal.returns-in-Some-clause-puts
returns-in-Some-clause-puts g c = rw (c.in-Some.ensures.gone, c.in-Some.ensures.came, insert-removed _ _ _ (rw (c.in-Some.ensures.gone) at c.requires.out)) c.put_beside.ensures.puts
