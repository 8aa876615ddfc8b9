use Rattle.std.proofs.Common.{◌≡◌, [], ◌∷◌, ◌++◌, Some, List, map, length, take, get_or, true, ap, sym, subst, ◌∙◌, arith}
use Rattle.std.specs.Prelude.{false, slice_get}
use Rattle.std.proofs.lemmas.List.{take_all, length-map}
use Rattle.node_heap.specs.Forms.{Form}
use Rattle.pool_text.specs.Rows.{Bytes, row_form}
use Rattle.pool_load.proofs.Steps.{get-map}
use Rattle.versions_pool.specs.Apart.{value_link, is_value_in}
use Rattle.versions_pool.proofs.ApartLemmas.{AreMarkedOf, none-marked, other-marked, pair-marked, value-inside, forms-more}
use Rattle.versions_pool.proofs.apart.value_marks.Goals as goal
use Rattle.versions_pool.proofs.apart.value_marks.Goals.{in-Some, in_default}

pub loop-row-init : goal.loop-row-init
loop-row-init c = none-marked (length c.args.rows.now) c.in_ok-marks.marks.items (c.in_ok-marks.ensures.items_if_clones_equal (λ y same. same))

pub index_mut-requires : goal.index_mut-requires
index_mut-requires c =
    let rows = c.args.rows.now in
    let p = c.loop-row.row-index in
    let at : slice_get (map row_form rows) p ≡ Some (row_form c.row-item.result) = get-map row_form rows p c.row-item.result c.loop-row-test.true c.row-item.is in
    omega (arith, value-inside (map row_form rows) c.requires p c.in-Some.value (row_form c.row-item.result) at (sym c.value_place.ensures ∙ c.in-Some.is), length-map rows row_form, c.loop-row.invariant.many)

pub loop-row-preserved : goal.loop-row-preserved
loop-row-preserved c =
    let rows = c.args.rows.now in
    let p = c.loop-row.row-index in
    let form = row_form c.row-item.result in
    let at : slice_get (map row_form rows) p ≡ Some form = get-map row_form rows p c.row-item.result c.loop-row-test.true c.row-item.is in
    subst (λ (fs : List (Form Bytes)). AreMarkedOf fs (length rows) c.match-value_place.marks.items) (sym (forms-more rows p c.row-item.result c.loop-row-test.true c.row-item.is))
    (elim c.match-value_place.branch [
      | in-Some w ↦
          let link : value_link form ≡ Some w.in-Some.value = sym c.value_place.ensures ∙ w.in-Some.is in
          subst (λ ms. AreMarkedOf (map row_form (take p rows) ++ form ∷ []) (length rows) ms) (sym (ap (λ m. m.items) w.marks-is))
          (pair-marked (map row_form (take p rows)) form (length rows) w.in-Some.value c.loop-row.marks.items c.loop-row.invariant link
          (omega (arith, value-inside (map row_form rows) c.requires p w.in-Some.value form at link, length-map rows row_form)))
      | in_default w ↦
          subst (λ ms. AreMarkedOf (map row_form (take p rows) ++ form ∷ []) (length rows) ms) (sym (ap (λ m. m.items) w.marks-is))
          (other-marked (map row_form (take p rows)) form (length rows) c.loop-row.marks.items c.loop-row.invariant (sym c.value_place.ensures ∙ w.in_default.is))
    ])

pub returns : goal.returns
returns c =
    let rows = c.args.rows.now in
    let all : take c.loop-row.row-index rows ≡ rows = take_all c.loop-row.row-index rows (omega arith) in
    record {
      many = c.loop-row.invariant.many ∙ sym (length-map rows row_form);
      each = λ p low. subst (λ rs. get_or c.loop-row.marks.items p false ≡ is_value_in (map row_form rs) p) all (c.loop-row.invariant.each p (omega (arith, low, length-map rows row_form)));
    }
