use Rattle.std.proofs.Common.{arith}
use Rattle.container_tests.proofs.TurnLemmas.{held-pushed, held-unchanged}
use Rattle.container_tests.proofs.turns.Turns.make_cell.Goals as goal

pub returns-clause-held : goal.returns-clause-held
returns-clause-held c = held-pushed _ c.cell-cell.ensures.graph (λ k. omega (arith, c.cell-cell.ensures.adds.holds k)) c.cell-cell.ensures.count c.push.ensures.items (held-unchanged c.in_ok-reserve.ensures.rest c.requires.held)
