use Rattle.std.proofs.Common.{◌≡◌, true, Option, List, length, ap, sym, subst, ◌∙◌, rules}
use Rattle.pool_text.specs.Rules.{rules_named}
use Rattle.pool_text.specs.Pool.{forms_in, row_count}
use Rattle.pool_text.proofs.Refusals.{handed-on}
use Rattle.pool_check.specs.Shapes.{AreShapes}
use Rattle.pool_check.specs.declared.vectors.Shape.{Shape}
use Rattle.pool_check.specs.Kinds.{roots_are_of_kind}
use Rattle.pool_check.specs.Damages.{open_damage}
use Rattle.pool_check.proofs.FactRows.{roots-low}
use Rattle.pool_check.proofs.Refused.{row-fails, fails-kind, fails-fits, fails-none}
use Rattle.pool_check.proofs.UndoLength.{not-fits, fits}
use Rattle.pool_check.proofs.checking.make_open_tests.Goals as goal

pub returns-in_err-shapes-clause-damage : goal.returns-in_err-shapes-clause-damage
returns-in_err-shapes-clause-damage c =
    handed-on c.from_residual.result c.in_err-shapes.field-0.0 (open_damage (rules_named c.args.rules) c.args.pool.now) c.from_residual.ensures.1
    (λ not_memory. row-fails (rules_named c.args.rules) c.args.pool.now c.in_err-shapes.field-0.0 (c.in_err-shapes.ensures.damage not_memory))

pub undo_length-undo-requires : goal.undo_length-undo-requires
undo_length-undo-requires c =
    let P = c.args.pool.now in
    let count : length c.as_slice.result.now ≡ row_count P = ap (λ (xs : List (Option Shape)). length xs) c.as_slice.ensures.value ∙ c.in_ok-shapes.ensures.count in
    roots-low P c.in_ok-shapes.ensures.passed.lead_back (length c.as_slice.result.now) count c.as_slice-2.result.now c.as_slice-2.ensures

pub roots_are_of_kind-requires : goal.roots_are_of_kind-requires
roots_are_of_kind-requires c =
    let rows = c.in_ok-shapes.ensures.passed in
    record { stand = record { rules = rules_named c.args.rules; in_range = c.requires.rows; lead_back = rows.lead_back; vectors = rows.vectors; tries = rows.tries } }

pub returns-then-not-branch-clause-damage : goal.returns-then-not-branch-clause-damage
returns-then-not-branch-clause-damage c = λ _. fails-kind (rules_named c.args.rules) c.args.pool.now c.in_ok-shapes.ensures.passed (search rules)

pub returns-then-undo-pool-clause-damage : goal.returns-then-undo-pool-clause-damage
returns-then-undo-pool-clause-damage c =
    let P = c.args.pool.now in
    let kinds : roots_are_of_kind P ≡ true = search rules in
    let are : AreShapes (forms_in P) c.as_slice.result.now = subst (λ xs. AreShapes (forms_in P) xs) (sym c.as_slice.ensures.value) c.in_ok-shapes.ensures.shapes in
    λ _. fails-fits (rules_named c.args.rules) P c.in_ok-shapes.ensures.passed kinds (not-fits P c.as_slice.result.now are c.as_slice-2.result.now c.as_slice-2.ensures c.undo_length-undo.result c.undo_length-undo.ensures kinds c.if-undo-pool.true)

pub returns-clause-passed : goal.returns-clause-passed
returns-clause-passed c =
    let P = c.args.pool.now in
    let kinds : roots_are_of_kind P ≡ true = search rules in
    let are : AreShapes (forms_in P) c.as_slice.result.now = subst (λ xs. AreShapes (forms_in P) xs) (sym c.as_slice.ensures.value) c.in_ok-shapes.ensures.shapes in
    fails-none (rules_named c.args.rules) P c.in_ok-shapes.ensures.passed kinds (fits P c.as_slice.result.now are c.as_slice-2.result.now c.as_slice-2.ensures c.undo_length-undo.result c.undo_length-undo.ensures kinds c.if-undo-pool.false)
