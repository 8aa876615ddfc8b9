use Rattle.std.proofs.Common.{◌<◌, ℕ, List, length, ap, sym, subst, ◌∙◌, arith}
use Rattle.std.specs.Prelude.{slice_get}
use Rattle.std.specs.List.{flat_map}
use Rattle.pool_text.proofs.Gathered.{take_all}
use Rattle.std.proofs.lemmas.Option.{get_or_from_slice_get}
use Rattle.node_heap.specs.Links.{count}
use Rattle.node_heap.specs.Forms.{Form, links_of}
use Rattle.pool_order.specs.Order.{with_all_new, firsts}
use Rattle.pool_text.specs.Rows.{Bytes, row_form}
use Rattle.pool_text.specs.Pool.{forms_in}
use Rattle.pool_text.specs.declared.row.Row.{Row}
use Rattle.pool_text.proofs.FormRows.{count-same, form-read}
use Rattle.pool_map.specs.Lines.{leaf_links, cells_in, line_cells}
use Rattle.pool_map.proofs.CodeLists.{leaf-linked, firsts-row}
use Rattle.pool_map.proofs.mapping.line_cells.Goals as goal

pub add_cells-requires : goal.add_cells-requires
add_cells-requires c =
    let P = c.args.pool.now in
    let rows : List Row = c.as_slice-rows.result.now in
    let i : ℕ = c.loop-row.row-index in
    let row : Row = c.row-item.result in
    let low : i < length rows = omega arith in
    let is = form-read P.rows rows c.as_slice-rows.ensures i row (omega (arith, low, count-same P.rows rows c.as_slice-rows.ensures)) c.row-item.is in
    record {
      low = λ k some.
          let has : 0 < count k (leaf_links (row_form row)) = subst (λ (ks : List ℕ). 0 < count k ks) c.elements_of.ensures some in
          omega (arith, c.requires.low i k (subst (λ r. 0 < count k (links_of r)) (sym is) (leaf-linked (row_form row) k has)), count-same P.rows rows c.as_slice-rows.ensures);
    }

pub loop-row-preserved : goal.loop-row-preserved
loop-row-preserved c =
    let P = c.args.pool.now in
    let rows : List Row = c.as_slice-rows.result.now in
    let i : ℕ = c.loop-row.row-index in
    let row : Row = c.row-item.result in
    let low : i < length rows = omega arith in
    let is = form-read P.rows rows c.as_slice-rows.ensures i row (omega (arith, low, count-same P.rows rows c.as_slice-rows.ensures)) c.row-item.is in
    let cells : Form Bytes → List ℕ = λ r. cells_in (forms_in P) (leaf_links r) in
    firsts-row cells P.rows i (row_form row) (omega (arith, low, count-same P.rows rows c.as_slice-rows.ensures)) c.loop-row.places.keys _ c.loop-row.invariant
    (c.in_ok-add_cells.ensures ∙ ap (λ (fs : List (Form Bytes)). with_all_new c.loop-row.places.keys (cells_in (slice_get fs) c.elements_of.result.now)) c.as_slice-rows.ensures
    ∙ ap (λ (ks : List ℕ). with_all_new c.loop-row.places.keys (cells_in (forms_in P) ks)) c.elements_of.ensures
    ∙ ap (λ (r : Form Bytes). with_all_new c.loop-row.places.keys (cells r)) (sym (get_or_from_slice_get P.rows i (row_form row) (row_form row) is)))

pub returns : goal.returns
unfolding line_cells
returns c =
    let P = c.args.pool.now in
    let cells : Form Bytes → List ℕ = λ r. cells_in (forms_in P) (leaf_links r) in
    c.loop-row.invariant ∙ ap (λ (fs : List (Form Bytes)). firsts (flat_map cells fs)) (take_all P.rows c.loop-row.row-index (omega (arith, c.loop-row-test.false, count-same P.rows c.as_slice-rows.result.now c.as_slice-rows.ensures)))
