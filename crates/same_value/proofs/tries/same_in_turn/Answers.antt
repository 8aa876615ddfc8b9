use Rattle.std.proofs.Common.{refl, arith}
use Rattle.node_heap.specs.Glass.{lent}
use Rattle.same_value.proofs.Zips.{zip-by}
use Rattle.same_value.proofs.tries.same_in_turn.Goals as goal

pub returns-clause-same : goal.returns-clause-same
returns-clause-same g c = (
  λ yes. zip-by (g.C.Compares.same c.args.how.now (lent c.args.glass.now)) c.args.links.now c.args.others.now c.requires.number (λ i low. c.loop-place.invariant.0 i (omega (arith, low, c.loop-place-test.false))),
  λ zip. refl,
)
