use Rattle.std.proofs.Common.{◌∙◌, ◌-◌, ◌<◌, ℕ, length, sym, ap, Some, map, arith}
use Rattle.pool_text.specs.Rows.{row_form}
use Rattle.pool_text.specs.declared.row.Row.{Row}
use Rattle.pool_delta.proofs.FreeTable.{map-at, put-next}
use Rattle.pool_delta.proofs.free.FreePlaces.of.Goals as goal

pub loop-place-preserved : goal.loop-place-preserved
loop-place-preserved c =
    let n : ℕ = c.loop-place.place in
    let row : Row = c.index-rows-place.result in
    let low : n - 1 < length c.args.rows.now = omega arith in
    put-next (map row_form c.args.rows.now) n c.in_ok-key_of.field-0 c.loop-place.free c.put.new.self c.loop-place-test.true
    (map-at row_form c.args.rows.now (n - 1) row low ∙ ap (λ (r : Row). Some (row_form r)) (sym c.index-rows-place.is) ∙ ap Some (sym c.in_ok-key_of.ensures))
    c.loop-place.invariant c.in_ok-put.ensures
