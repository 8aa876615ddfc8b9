use Rattle.std.proofs.Common.{rules}
use Rattle.pool_text.specs.Rules.{rules_named}
use Rattle.pool_text.proofs.Refusals.{handed-on}
use Rattle.pool_check.specs.Damages.{damage_by}
use Rattle.pool_check.proofs.DamageLemmas.{open-fails, open-leads-back, order-fails, order-passes}
use Rattle.pool_check.proofs.checking.make_tests.Goals as goal

pub returns-in_err-make_open_tests-clause-damage : goal.returns-in_err-make_open_tests-clause-damage
returns-in_err-make_open_tests-clause-damage c =
    handed-on c.from_residual.result c.in_err-make_open_tests.field-0.0 (damage_by (rules_named c.args.rules) c.args.pool.now) c.from_residual.ensures.1
    (λ not_memory. open-fails (rules_named c.args.rules) c.args.pool.now c.requires.rows c.in_err-make_open_tests.field-0.0 (c.in_err-make_open_tests.ensures.damage not_memory))

pub rows_in_order-requires : goal.rows_in_order-requires
rows_in_order-requires c = open-leads-back (rules_named c.args.rules) c.args.pool.now c.requires.rows c.in_ok-make_open_tests.ensures.passed

pub returns-then-not-branch-clause-damage : goal.returns-then-not-branch-clause-damage
returns-then-not-branch-clause-damage c = λ _. order-fails (rules_named c.args.rules) c.args.pool.now c.requires.rows c.in_ok-make_open_tests.ensures.passed (search rules)

pub returns-clause-passed : goal.returns-clause-passed
returns-clause-passed c = order-passes (rules_named c.args.rules) c.args.pool.now c.requires.rows c.in_ok-make_open_tests.ensures.passed (search rules)
