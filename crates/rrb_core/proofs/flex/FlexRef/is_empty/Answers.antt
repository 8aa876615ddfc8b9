use Rattle.std.proofs.Common.{arith, length, ap}
use Rattle.std.proofs.lemmas.Bool.{eqb-true, eq-eqb}
use Rattle.rrb_core.specs.Vector.{elements}
use Rattle.rrb_core.proofs.Lists.{empty-list}
use Rattle.rrb_core.proofs.flex.FlexRef.is_empty.Goals as goal

pub returns-then-height-gt0 : goal.returns-then-height-gt0
returns-then-height-gt0 g c = (λ yes. absurd cc, λ none. absurd (omega (arith, ap length none, c.height.ensures.more (omega (arith, c.if-height-gt0.true)))))

pub returns : goal.returns
returns g c = (
  λ yes. empty-list (elements c.args.heap.now c.args.self.now) (omega (arith, c.len.ensures.value, eqb-true _ _ yes)),
  λ none. eq-eqb _ _ (omega (arith, c.len.ensures.value, ap length none)),
)
