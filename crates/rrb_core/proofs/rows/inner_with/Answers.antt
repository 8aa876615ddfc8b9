use Rattle.std.proofs.Common.{arith, ◌≤◌, length}
use Rattle.std.proofs.lemmas.Bool.Decides.{nat_tests}
use Rattle.rrb_core.proofs.rows.inner_with.Goals as goal

pub regular_with-requires-clause-regular : goal.regular_with-requires-clause-regular
regular_with-requires-clause-regular g c = c.stays_regular.ensures c.if-stays_regular.true

pub summed_with-requires-clause-some : goal.summed_with-requires-clause-some
summed_with-requires-clause-some g c =
    let some : 1 ≤ length c.sums_of.result.now = grind (arith, nat_tests, c.if-is_empty.ensures) in
    rw c.sums_of.ensures at some
