use Rattle.std.proofs.Common.{◌∙◌, ap, arith, ◌<◌, ℕ, List, length}
use Rattle.std.specs.Prelude.{slice_index}
use Rattle.pool_text.specs.Rows.{row_form}
use Rattle.pool_text.specs.Pool.{relink}
use Rattle.pool_delta.proofs.PlacedCode.{so_far, links-low, row-placed}
use Rattle.pool_delta.proofs.delta.placed.Goals as goal

pub relinked-requires : goal.relinked-requires
relinked-requires c =
    let low : c.loop-row.row-index < length c.args.rows.now = omega (arith, c.loop-row-test.true) in
    record { low = λ k some. omega (arith, ap length c.as_slice.ensures.value, links-low c.args.chain.now c.args.rows.now c.loop-row.row-index c.row-item.result low c.requires.back c.loop-row.places.items c.loop-row.own.items c.loop-row.free c.loop-row.invariant c.row-item.result c.row-item.is k some) }

pub loop-row-preserved : goal.loop-row-preserved
loop-row-preserved c =
    let low : c.loop-row.row-index < length c.args.rows.now = omega (arith, c.loop-row-test.true) in
    row-placed c.args.chain.now c.args.rows.now c.loop-row.row-index c.row-item.result low c.loop-row.places.items c.loop-row.own.items c.loop-row.free c.loop-row.invariant c.row-item.result c.in_ok-row.row c.row-item.is
    (c.in_ok-row.ensures ∙ ap (λ (ps : List ℕ). relink (slice_index ps) (row_form c.row-item.result)) c.as_slice.ensures.value)
    c.place_row.new.places.items c.place_row.new.own.items c.place_row.new.free
    (c.in_ok-place_row.ensures (so_far c.args.chain.now c.args.rows.now c.loop-row.row-index) c.loop-row.invariant)
