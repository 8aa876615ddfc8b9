use Rattle.std.proofs.Common.{◌≡◌, true, List, map, length, ap, sym, ◌∙◌, arith}
use Rattle.std.proofs.lemmas.List.{length-map}
use Rattle.node_heap.specs.Forms.{Form}
use Rattle.pool_text.specs.Rows.{Bytes, row_form}
use Rattle.pool_text.specs.declared.row.Row.{Row}
use Rattle.pool_text.proofs.Gathered.{take_all}
use Rattle.pool_check.specs.Rows.{rows_lead_back}
use Rattle.pool_check.proofs.RowTests.{lead_back-fails, lead_back-more, first-lead_back, no-lead_back, all-lead_back}
use Rattle.pool_check.proofs.rows.links_lead_back.Goals as goal

pub loop-place-init : goal.loop-place-init
loop-place-init c = first-lead_back c.args.pool.now c.as_slice-rows.result.now c.as_slice-rows.ensures c.args.from c.requires

pub returns-then-not-leads_below : goal.returns-then-not-leads_below
returns-then-not-leads_below c =
    let rows = c.as_slice-rows.result.now in
    no-lead_back c.args.pool.now rows c.as_slice-rows.ensures
    (lead_back-fails rows 0 c.loop-place.place c.loop-place.place c.index-rows-place.result (omega arith) c.index-rows-place.is (omega arith) c.if-not-leads_below.ensures)

pub loop-place-preserved : goal.loop-place-preserved
loop-place-preserved c =
    let rows = c.as_slice-rows.result.now in
    lead_back-more rows 0 c.loop-place.place c.loop-place.place c.index-rows-place.result (omega arith) c.index-rows-place.is (omega arith) c.if-not-leads_below.ensures c.loop-place.invariant

pub returns : goal.returns
returns c =
    let rows = c.as_slice-rows.result.now in
    let passes : rows_lead_back 0 (map row_form rows) ≡ true = ap (λ (rs : List Row). rows_lead_back 0 (map row_form rs)) (sym (take_all rows c.loop-place.place (omega arith))) ∙ c.loop-place.invariant in
    all-lead_back c.args.pool.now rows c.as_slice-rows.ensures c.as_slice.result.now (length rows) c.are_below.result passes c.as_slice.ensures
    (sym (length-map rows row_form) ∙ ap (λ (fs : List (Form Bytes)). length fs) c.as_slice-rows.ensures) c.are_below.ensures
