use Rattle.std.proofs.Common.{◌≡◌, ℕ, suc, Some, true, List, [], ◌∷◌, length, refl, ap, sym, subst, rules}
use Rattle.node_heap.specs.Forms.{Forms}
use Rattle.pool_text.specs.Rows.{Bytes}
use Rattle.pool_text.specs.Pool.{forms_in, row_count}
use Rattle.pool_text.specs.declared.pool.Pool.{Pool}
use Rattle.pool_text.specs.Rules.{Rules, present_rules}
use Rattle.pool_text.proofs.Refusals.{handed-on}
use Rattle.pool_check.specs.Rows.{rows_in_range_by}
use Rattle.pool_check.specs.Roots.{is_of, are_of, roots_are_of}
use Rattle.pool_check.specs.declared.root.RootKind.{RootKind}
use Rattle.pool_check.specs.Damages.{RowsPass, row_damage, damage_with_roots}
use Rattle.pool_check.proofs.TestLemmas.{and-second, not-both}
use Rattle.pool_check.proofs.Refused.{in-range, row-fails-with, roots-fail, order-fails-with, none-fails-with}
use Rattle.pool_check.proofs.checking.check_roots.Goals as goal

-- there are as many roots as kinds
as-many : (n : ℕ) (F : Forms Bytes) (kinds : List RootKind) (roots : List ℕ) → are_of n F kinds roots ≡ true → length roots ≡ length kinds
as-many n F [] [] are = refl
as-many n F [] (root ∷ roots) are = absurd (not-both are)
as-many n F (kind ∷ kinds) [] are = absurd (not-both are)
as-many n F (kind ∷ kinds) (root ∷ roots) are = ap suc (as-many n F kinds roots (and-second (is_of n F kind root) (are_of n F kinds roots) are))

roots-many : (kinds : List RootKind) (P : Pool) → roots_are_of kinds P ≡ true → length P.roots ≡ length kinds
unfolding roots_are_of
roots-many kinds P are = as-many (row_count P) (forms_in P) kinds P.roots are

pub make_row_tests-requires-clause-rows : goal.make_row_tests-requires-clause-rows
make_row_tests-requires-clause-rows g c = subst (λ (r : Rules). rows_in_range_by r c.args.pool ≡ true) (sym c.present.ensures) (in-range present_rules c.args.pool c.requires.rows)

pub returns-in_err-make_row_tests-clause-damage : goal.returns-in_err-make_row_tests-clause-damage
returns-in_err-make_row_tests-clause-damage g c =
    handed-on c.from_residual.result c.in_err-make_row_tests.field-0.0 (damage_with_roots present_rules c.args.kinds.now c.args.pool) c.from_residual.ensures.1
    (λ not_memory. row-fails-with present_rules c.args.pool c.args.kinds.now c.in_err-make_row_tests.field-0.0
    (subst (λ (r : Rules). row_damage r c.args.pool ≡ Some c.in_err-make_row_tests.field-0.0) c.present.ensures (c.in_err-make_row_tests.ensures.damage not_memory)))

pub roots_are_of-requires : goal.roots_are_of-requires
roots_are_of-requires g c =
    let rows : RowsPass present_rules c.args.pool = subst (λ (r : Rules). RowsPass r c.args.pool) c.present.ensures c.in_ok-make_row_tests.ensures.passed in
    record { stand = record { rules = present_rules; in_range = in-range present_rules c.args.pool c.requires.rows; lead_back = rows.lead_back; vectors = rows.vectors; tries = rows.tries } }

pub returns-then-not-branch-clause-damage : goal.returns-then-not-branch-clause-damage
returns-then-not-branch-clause-damage g c =
    let rows : RowsPass present_rules c.args.pool = subst (λ (r : Rules). RowsPass r c.args.pool) c.present.ensures c.in_ok-make_row_tests.ensures.passed in
    λ _. roots-fail present_rules c.args.pool rows c.args.kinds.now (search rules)

pub rows_in_order-requires : goal.rows_in_order-requires
rows_in_order-requires g c = c.in_ok-make_row_tests.ensures.passed.lead_back

pub returns-then-not-branch-2-clause-damage : goal.returns-then-not-branch-2-clause-damage
returns-then-not-branch-2-clause-damage g c =
    let rows : RowsPass present_rules c.args.pool = subst (λ (r : Rules). RowsPass r c.args.pool) c.present.ensures c.in_ok-make_row_tests.ensures.passed in
    λ _. order-fails-with present_rules c.args.pool rows c.args.kinds.now (search rules) (search rules)

pub returns-clause-undamaged : goal.returns-clause-undamaged
returns-clause-undamaged g c =
    let rows : RowsPass present_rules c.args.pool = subst (λ (r : Rules). RowsPass r c.args.pool) c.present.ensures c.in_ok-make_row_tests.ensures.passed in
    none-fails-with present_rules c.args.pool rows c.args.kinds.now (search rules) (search rules)

pub new-requires : goal.new-requires
new-requires g c = record {
  rules = c.requires.rules;
  bits = c.requires.bits;
  rows = record {
    in_range = in-range present_rules c.args.pool c.requires.rows;
    passed = subst (λ (r : Rules). RowsPass r c.args.pool) c.present.ensures c.in_ok-make_row_tests.ensures.passed;
    in_order = search rules;
  };
}

pub returns-clause-kinds : goal.returns-clause-kinds
returns-clause-kinds g c =
    let are : roots_are_of c.args.kinds.now c.args.pool ≡ true = search rules in
    subst (λ (P : Pool). roots_are_of c.args.kinds.now P ≡ true) (sym c.new.ensures) are

pub returns-clause-many : goal.returns-clause-many
returns-clause-many g c =
    let are : roots_are_of c.args.kinds.now c.args.pool ≡ true = search rules in
    subst (λ (P : Pool). length P.roots ≡ length c.args.kinds.now) (sym c.new.ensures) (roots-many c.args.kinds.now c.args.pool are)
