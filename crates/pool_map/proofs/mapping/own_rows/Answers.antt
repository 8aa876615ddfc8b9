use Rattle.std.proofs.Common.{◌<◌, ℕ, List, [], ◌∷◌, map, length, ap, ◌∙◌, arith}
use Rattle.std.proofs.lemmas.List.{map-append}
use Rattle.pool_text.proofs.Gathered.{take_all}
use Rattle.node_heap.specs.Forms.{Form}
use Rattle.pool_text.specs.Rows.{Bytes, row_form}
use Rattle.pool_text.specs.declared.row.Row.{Row}
use Rattle.pool_map.specs.Mapped.{image_among, with_images}
use Rattle.pool_map.proofs.CodeLists.{map-more, map-both}
use Rattle.pool_map.proofs.mapping.own_rows.Goals as goal

pub loop-row-preserved : goal.loop-row-preserved
loop-row-preserved c =
    let rows : List Row = c.args.rows.now in
    let i : ℕ = c.loop-row.row-index in
    let low : i < length rows = omega arith in
    let image = image_among (length rows) c.args.lines.now in
    let new : Row → Form Bytes = λ row. with_images image (row_form row) in
    map-more new rows i c.row-item.result (map row_form c.loop-row.made.items) _ (row_form c.in_ok-with_images.field-0) low c.loop-row.invariant
    (c.in_ok-with_images.ensures ∙ ap new c.row-item.is)
    (ap (map row_form) c.in_ok-push.ensures.items ∙ map-append row_form c.loop-row.made.items (c.in_ok-with_images.field-0 ∷ []))

pub returns : goal.returns
returns c =
    let rows : List Row = c.args.rows.now in
    let image = image_among (length rows) c.args.lines.now in
    c.loop-row.invariant ∙ ap (λ (xs : List Row). map (λ row. with_images image (row_form row)) xs) (take_all rows c.loop-row.row-index (omega arith)) ∙ map-both row_form (with_images image) rows
