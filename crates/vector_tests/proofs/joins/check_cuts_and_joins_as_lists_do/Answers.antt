use Rattle.std.proofs.Common.{arith}
use Rattle.vector_tests.proofs.joins.check_cuts_and_joins_as_lists_do.Goals as goal

pub loop-step-preserved : goal.loop-step-preserved
loop-step-preserved g c =
    record {
      good = c.in_ok-cuts_as_the_list.ensures.vectors c.in_ok-root.root c.loop-step.invariant.held c.loop-step.invariant.good;
      held = omega (arith, c.loop-step.invariant.held, c.in_ok-cuts_as_the_list.ensures.holds c.in_ok-root.root);
      few = omega (arith, c.loop-step.invariant.few, c.in_ok-cuts_as_the_list.ensures.count);
    }
