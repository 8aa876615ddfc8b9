use Rattle.container_tests.proofs.TurnLemmas.{held-as, held-pushed}
use Rattle.container_tests.proofs.turns.Turns.hold_below.Goals as goal

pub returns : goal.returns
returns c = record { held = held-pushed _ c.hold.ensures.graph c.hold.ensures.holds c.hold.ensures.count c.push.ensures.items (held-as c.any-row.ensures.heap c.any-row.ensures.same c.requires.held) }
