use Rattle.std.proofs.Common.{arith}
use Rattle.container_tests.proofs.writes.check_reads_through_a_glass.Goals as goal

pub node-leaf-requires-clause-held : goal.node-leaf-requires-clause-held
node-leaf-requires-clause-held g c = λ l. omega (arith, c.cell-seven.ensures.adds.holds l)
