use Rattle.pool_text.proofs.Refusals.{handed-on}
use Rattle.pool_text.specs.Rules.{first_rules}
use Rattle.pool_check.specs.Damages.{damage_by}
use Rattle.pool_check.proofs.DamageLemmas.{undamaged-valid}
use Rattle.pool_check.proofs.checking.check_old.Goals as goal

pub returns-in_err-make_tests-clause-damage : goal.returns-in_err-make_tests-clause-damage
returns-in_err-make_tests-clause-damage g c =
    handed-on c.from_residual.result c.in_err-make_tests.field-0.0 (damage_by first_rules c.args.pool) c.from_residual.ensures.1 c.in_err-make_tests.ensures.damage

pub invariant_of-result : goal.invariant_of-result
invariant_of-result g c = record {
  version = c.requires.version;
  bits = c.requires.bits;
  roots = c.requires.roots;
  valid = undamaged-valid c.args.pool c.in_ok-make_tests.ensures.passed;
}

pub returns-clause-valid : goal.returns-clause-valid
returns-clause-valid g c = undamaged-valid c.args.pool c.in_ok-make_tests.ensures.passed
