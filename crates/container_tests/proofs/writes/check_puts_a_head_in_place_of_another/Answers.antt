use Rattle.std.proofs.Common.{arith}
use Rattle.container_tests.proofs.writes.check_puts_a_head_in_place_of_another.Goals as goal

pub node-row-requires-clause-held : goal.node-row-requires-clause-held
node-row-requires-clause-held g c = λ l. omega (arith, c.cell-cell.ensures.adds.holds l)
