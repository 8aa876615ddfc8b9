use Rattle.std.proofs.Common.{◌≡◌, ◌<◌, ℕ, Bool, Some, List, map, length, get_or, rules, refl, ap, ◌∙◌, arith}
use Rattle.std.specs.Prelude.{slice_get}
use Rattle.pool_order.proofs.Walked.{count-get_or}
use Rattle.pool_text.specs.Rows.{row_form}
use Rattle.pool_text.specs.declared.row.Row.{Row}
use Rattle.pool_map.specs.Lines.{is_cell}
use Rattle.pool_text.proofs.FormRows.{count-same, form-read}
use Rattle.pool_map.proofs.CodeLists.{new-kept, none-kept, no-cell}
use Rattle.pool_map.proofs.mapping.add_cells.Goals.{in-Cell+in_ok-insert, in_default}
use Rattle.pool_map.proofs.mapping.add_cells.Goals as goal

pub bounds-rows-link : goal.bounds-rows-link
bounds-rows-link c =
    let low : c.loop-link.link-index < length c.args.links.now = omega arith in
    omega (arith, c.requires.low (get_or c.args.links.now c.loop-link.link-index 0) (count-get_or c.args.links.now c.loop-link.link-index low))

pub offset_bounds-rows-link : goal.offset_bounds-rows-link
offset_bounds-rows-link c =
    let low : c.loop-link.link-index < length c.args.links.now = omega arith in
    let inside : get_or c.args.links.now c.loop-link.link-index 0 < length c.args.rows.now = c.requires.low (get_or c.args.links.now c.loop-link.link-index 0) (count-get_or c.args.links.now c.loop-link.link-index low) in
    search rules

pub loop-link-preserved : goal.loop-link-preserved
loop-link-preserved c =
    let links : List ℕ = c.args.links.now in
    let rows : List Row = c.args.rows.now in
    let i : ℕ = c.loop-link.link-index in
    let low : i < length links = omega arith in
    let place : ℕ = get_or links i 0 in
    let row : Row = c.index-rows-link.result in
    let inside : place < length rows = c.requires.low place (count-get_or links i low) in
    let at : slice_get (map row_form rows) place ≡ Some (row_form row) = form-read (map row_form rows) rows refl place row (omega (arith, inside, count-same (map row_form rows) rows refl)) c.index-rows-link.is in
    let kept : ℕ → Bool = λ l. is_cell (slice_get (map row_form rows) l) in
    elim c.match-rows-link.branch [
      | in-Cell+in_ok-insert w ↦
          ap (λ s. s.keys) w.places-is
          ∙ new-kept kept c.args.places.now.keys links i 0 low c.loop-link.places.keys _ c.loop-link.invariant (ap is_cell at ∙ ap (λ (r : Row). is_cell (Some (row_form r))) w.in-Cell.is) w.in_ok-insert.ensures.keys
      | in_default w ↦
          ap (λ s. s.keys) w.places-is
          ∙ none-kept kept c.args.places.now.keys links i 0 low c.loop-link.places.keys c.loop-link.invariant (ap is_cell at ∙ no-cell row w.in_default.not-Cell)
    ]
