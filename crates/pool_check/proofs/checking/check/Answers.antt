use Rattle.std.proofs.Common.{sym, subst, true, None, Some, ◌≡◌, ◌≢◌}
use Rattle.pool_text.specs.Rules.{Rules, present_rules}
use Rattle.pool_text.specs.declared.damage.Damage.TheVariants.{Memory}
use Rattle.pool_text.proofs.Refusals.{handed-on}
use Rattle.pool_check.specs.Rows.{rows_in_range_by}
use Rattle.pool_check.specs.Damages.{damage, damage_by}
use Rattle.pool_check.proofs.DamageLemmas.{undamaged-valid}
use Rattle.pool_check.proofs.Refused.{in-range}
use Rattle.pool_check.proofs.checking.check.Goals as goal

pub make_tests-requires-clause-rows : goal.make_tests-requires-clause-rows
make_tests-requires-clause-rows g c = subst (λ (r : Rules). rows_in_range_by r c.args.pool ≡ true) (sym c.present.ensures) (in-range present_rules c.args.pool c.requires.rows)

pub returns-in_err-make_tests-clause-damage : goal.returns-in_err-make_tests-clause-damage
returns-in_err-make_tests-clause-damage g c =
    handed-on c.from_residual.result c.in_err-make_tests.field-0.0 (damage c.args.pool) c.from_residual.ensures.1
    (subst (λ (r : Rules). c.in_err-make_tests.field-0.0 ≢ Memory → damage_by r c.args.pool ≡ Some c.in_err-make_tests.field-0.0) c.present.ensures c.in_err-make_tests.ensures.damage)

pub invariant_of-result : goal.invariant_of-result
invariant_of-result g c = record {
  rules = c.requires.rules;
  history = c.requires.history;
  bits = c.requires.bits;
  roots = c.requires.roots;
  valid = undamaged-valid c.args.pool (subst (λ (r : Rules). damage_by r c.args.pool ≡ None) c.present.ensures c.in_ok-make_tests.ensures.passed);
}

pub returns-clause-valid : goal.returns-clause-valid
returns-clause-valid g c = undamaged-valid c.args.pool (subst (λ (r : Rules). damage_by r c.args.pool ≡ None) c.present.ensures c.in_ok-make_tests.ensures.passed)

pub returns-clause-undamaged : goal.returns-clause-undamaged
returns-clause-undamaged g c = subst (λ (r : Rules). damage_by r c.args.pool ≡ None) c.present.ensures c.in_ok-make_tests.ensures.passed
