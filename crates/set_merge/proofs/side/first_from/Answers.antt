use Rattle.std.proofs.Common.{arith}
use Rattle.std.proofs.lemmas.Nat.{shr_le}
use Rattle.set_merge.proofs.PositionLemmas.{none-later, none-before, lowest-low}
use Rattle.set_merge.proofs.side.first_from.Goals as goal

pub returns-then-from-eq32-clause-none : goal.returns-then-from-eq32-clause-none
returns-then-from-eq32-clause-none c = λ p after before. absurd (omega (arith, after, before, c.if-from-eq32.true))

pub returns-then-rest-eq0-clause-none : goal.returns-then-rest-eq0-clause-none
returns-then-rest-eq0-clause-none c = λ p after before. none-later c.args.set c.args.from p c.if-rest-eq0.true after

pub overflow_add-result : goal.overflow_add-result
overflow_add-result c = omega (arith, lowest-low c.args.set c.args.from c.ranges.set.fits (omega (arith, c.if-rest-eq0.false)) (omega (arith, shr_le c.args.set c.args.from, c.ranges.set.fits)))

pub returns-clause-from : goal.returns-clause-from
returns-clause-from c = (omega arith, omega (arith, lowest-low c.args.set c.args.from c.ranges.set.fits (omega (arith, c.if-rest-eq0.false)) (omega (arith, shr_le c.args.set c.args.from, c.ranges.set.fits))))

pub returns-clause-none : goal.returns-clause-none
returns-clause-none c = λ p after before. none-before c.args.set c.args.from p (omega (arith, c.if-rest-eq0.false)) (omega (arith, shr_le c.args.set c.args.from, c.ranges.set.fits)) after before
