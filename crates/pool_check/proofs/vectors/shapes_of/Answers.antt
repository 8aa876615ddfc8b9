use Rattle.std.proofs.Common.{◌≡◌, ◌<◌, rules, Bool, List, ◌∷◌, [], length, take, get_or, ap, sym, subst, ◌∙◌, arith, length-append}
use Rattle.std.specs.Prelude.{Option}
use Rattle.std.specs.List.{list_all}
use Rattle.std.proofs.lemmas.Bool.{and_from}
use Rattle.std.proofs.lemmas.List.{take_all}
use Rattle.std.proofs.lemmas.List.Folds.{list_all_more}
use Rattle.pool_text.specs.Rows.{row_form}
use Rattle.pool_text.specs.Pool.{forms_in}
use Rattle.pool_text.specs.declared.row.Row.{Row}
use Rattle.pool_check.specs.Vectors.{keeps_fill_rule}
use Rattle.pool_check.specs.Shapes.{AreShapes}
use Rattle.pool_check.specs.declared.vectors.Shape.{Shape}
use Rattle.pool_check.proofs.KeptRows.{form-at, range-at, links-at, rows-many}
use Rattle.pool_check.proofs.ShapeLemmas.{more-shapes, breaks-rule, first-keep, one-breaks, all-keep}
use Rattle.pool_check.proofs.vectors.shapes_of.Goals as goal

pub loop-place-init : goal.loop-place-init
loop-place-init c =
    let P = c.args.pool.now in
    let rows = c.as_slice-rows.result.now in
    let start : c.len-place.result ≡ length c.args.shapes.items = search rules in
    record {
      shapes = c.requires.first.are;
      count = sym start;
      few = omega (arith, c.requires.first.few, start, rows-many P rows c.as_slice-rows.ensures);
      stand = first-keep P rows c.as_slice-rows.ensures c.len-place.result (ap (λ i. list_all (keeps_fill_rule (forms_in P)) (take i P.rows)) start ∙ c.requires.first.stand);
    }

pub row_shape-requires : goal.row_shape-requires
row_shape-requires c =
    let P = c.args.pool.now in
    let rows = c.as_slice-rows.result.now in
    let i = c.loop-place.place in
    let low : i < length rows = omega arith in
    let count : length c.as_slice.result.now ≡ i = ap (λ (xs : List (Option Shape)). length xs) c.as_slice.ensures.value ∙ c.loop-place.invariant.count in
    record {
      range = (c.requires.rows.0.deepest, range-at P rows c.as_slice-rows.ensures i c.index-rows-place.result low c.index-rows-place.is c.requires.rows.0 c.requires.rows.1);
      below = links-at P rows c.as_slice-rows.ensures i c.index-rows-place.result low c.index-rows-place.is c.requires.links (length c.as_slice.result.now) count;
    }

pub returns-in-None-clause-stand : goal.returns-in-None-clause-stand
returns-in-None-clause-stand c =
    let P = c.args.pool.now in
    let rows = c.as_slice-rows.result.now in
    let i = c.loop-place.place in
    let low : i < length rows = omega arith in
    let are : AreShapes (forms_in P) c.as_slice.result.now = subst (λ xs. AreShapes (forms_in P) xs) (sym c.as_slice.ensures.value) c.loop-place.invariant.shapes in
    let shape = c.row_shape.ensures (forms_in P) i are (form-at P rows c.as_slice-rows.ensures i c.index-rows-place.result low c.index-rows-place.is) in
    one-breaks P rows c.as_slice-rows.ensures i c.index-rows-place.result low c.index-rows-place.is (breaks-rule (forms_in P) i (row_form c.index-rows-place.result) (sym c.in-None.is ∙ shape))

pub loop-place-preserved : goal.loop-place-preserved
loop-place-preserved c =
    let P = c.args.pool.now in
    let rows = c.as_slice-rows.result.now in
    let i = c.loop-place.place in
    let low : i < length rows = omega arith in
    let now = c.loop-place.invariant in
    let pushed = c.in_ok-push-in-Some.ensures.items in
    let are : AreShapes (forms_in P) c.as_slice.result.now = subst (λ xs. AreShapes (forms_in P) xs) (sym c.as_slice.ensures.value) now.shapes in
    let form = ap (forms_in P) now.count ∙ form-at P rows c.as_slice-rows.ensures i c.index-rows-place.result low c.index-rows-place.is in
    let shape = c.row_shape.ensures (forms_in P) (length c.loop-place.shapes.items) are form in
    let more = more-shapes (forms_in P) c.loop-place.shapes.items (row_form c.index-rows-place.result) c.in-Some.shape now.shapes form (sym c.in-Some.is ∙ shape) in
    let keeps : Row → Bool = λ row. keeps_fill_rule (forms_in P) (row_form row) in
    record {
      shapes = subst (λ xs. AreShapes (forms_in P) xs) (sym pushed) more.1;
      count = ap (λ (xs : List (Option Shape)). length xs) pushed ∙ length-append c.loop-place.shapes.items (c.in-Some.shape ∷ []) ∙ omega (arith, now.count);
      few = omega arith;
      stand = list_all_more keeps rows i c.index-rows-place.result low ∙ and_from (list_all keeps (take i rows)) (keeps (get_or rows i c.index-rows-place.result)) now.stand (ap keeps (sym c.index-rows-place.is) ∙ more.0);
    }

pub returns-clause-stand : goal.returns-clause-stand
returns-clause-stand c =
    let P = c.args.pool.now in
    let rows = c.as_slice-rows.result.now in
    let keeps : Row → Bool = λ row. keeps_fill_rule (forms_in P) (row_form row) in
    all-keep P rows c.as_slice-rows.ensures (ap (λ (rs : List Row). list_all keeps rs) (sym (take_all c.loop-place.place rows (omega arith))) ∙ c.loop-place.invariant.stand)

pub returns-clause-count : goal.returns-clause-count
returns-clause-count c = omega (arith, c.loop-place.invariant.count, c.loop-place.invariant.few, c.loop-place-test.false, rows-many c.args.pool.now c.as_slice-rows.result.now c.as_slice-rows.ensures)
