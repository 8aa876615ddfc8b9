use Rattle.std.proofs.Common.{◌≡◌, ℕ, List, [], ◌∷◌, ◌++◌, Some, map, length, slice_get, ap, sym, subst, ◌∙◌, arith, length-append}
use Rattle.pool_text.specs.Rows.{row_form}
use Rattle.pool_load.specs.Rows.{HaveLengths, length_over}
use Rattle.pool_load.proofs.Steps.{get-map, short-row, below-row, lengths-more}
use Rattle.pool_load.proofs.lengths.lengths_of.Goals as goal

pub length_of-length-requires : goal.length_of-length-requires
length_of-length-requires c =
    let rows = map row_form c.args.rows.now in
    let form = row_form c.row-item.result in
    let lengths = c.as_slice.result.now in
    let p = c.loop-row.row-index in
    let at : slice_get rows p ≡ Some form = get-map row_form c.args.rows.now p c.row-item.result c.loop-row-test.true c.row-item.is in
    let many : length lengths ≡ p = ap length c.as_slice.ensures.value ∙ c.loop-row.invariant.many in
    let have : HaveLengths rows lengths = subst (HaveLengths rows) (sym c.as_slice.ensures.value) c.loop-row.invariant.lengths in
    record {
      places = below-row rows c.requires.sound p lengths form at (omega (arith, many)) have;
      short = short-row rows c.requires.sound p lengths form at (omega (arith, many)) have;
    }

pub loop-row-preserved : goal.loop-row-preserved
loop-row-preserved c =
    let rows = map row_form c.args.rows.now in
    let form = row_form c.row-item.result in
    let lengths = c.loop-row.lengths.items in
    let p = c.loop-row.row-index in
    let at : slice_get rows p ≡ Some form = get-map row_form c.args.rows.now p c.row-item.result c.loop-row-test.true c.row-item.is in
    let length_is : c.length_of-length.result ≡ length_over lengths form = c.length_of-length.ensures ∙ ap (λ (ls : List ℕ). length_over ls form) c.as_slice.ensures.value in
    let items : c.push.new.self.items ≡ lengths ++ length_over lengths form ∷ [] = c.in_ok-push.ensures.items ∙ ap (λ (n : ℕ). lengths ++ n ∷ []) length_is in
    record {
      many = omega (arith, ap length items, length-append lengths (length_over lengths form ∷ []), c.loop-row.invariant.many);
      lengths = subst (HaveLengths rows) (sym items) (lengths-more rows c.requires.sound p lengths form at (omega (arith, c.loop-row.invariant.many)) c.loop-row.invariant.lengths c.loop-row.invariant.many);
    }
