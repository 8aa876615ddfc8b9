use Rattle.std.proofs.Common.{arith, suc}
use Rattle.vector_tests.proofs.joins.reads.Goals as goal

pub number_in-requires : goal.number_in-requires
number_in-requires c =
    let live = rw c.in-Some.ensures.steps at c.loop-number.invariant.live in
    live 0 c.in-Some.element (omega arith)

pub loop-number-preserved : goal.loop-number-preserved
loop-number-preserved c =
    let live = rw c.in-Some.ensures.steps at c.loop-number.invariant.live in
    record { next = tt; finite = tt; live = λ k d inside. live (suc k) d (omega (arith, inside)) }
