use Rattle.std.proofs.Common.{ap, arith}
use Rattle.node_heap.specs.Links.{count}
use Rattle.space_state.proofs.PoolRows.{rows-fit}
use Rattle.space_state.proofs.roots.RootedHeap.pool_from.Goals as goal

pub pool_of-requires-clause-fits : goal.pool_of-requires-clause-fits
pool_of-requires-clause-fits c = λ r l root down. rows-fit c.args.self.now c.requires.keeps.0 c.requires.keeps.1 r l (omega (arith, root, ap (count r) c.requires.roots)) down
