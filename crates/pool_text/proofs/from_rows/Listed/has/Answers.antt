use Rattle.std.proofs.Common.{◌≡◌, ◌<◌, ◌≤◌, length, ap, ◌∙◌, arith}
use Rattle.std.specs.Prelude.{slice_index}
use Rattle.std.proofs.lemmas.Bool.{le-ltb}
use Rattle.std.proofs.lemmas.List.{get_or_read}
use Rattle.pool_text.proofs.ListPlaces.{past-end, at-place}
use Rattle.pool_text.proofs.from_rows.Listed.has.Goals as goal

pub returns-then-place-len : goal.returns-then-place-len
returns-then-place-len c =
    let listed = c.args.self.now in
    let place : c.index.result.now ≡ slice_index listed.places.items c.args.row = get_or_read listed.places.items _ _ c.requires.low c.index.ensures 0 in
    let low : c.index.result.now < length listed.rows.items = omega (arith, c.if-place-len.true, c.len.ensures) in
    at-place (length listed.places.items) listed c.requires.places c.args.row c.index-then-place-len.result.now (omega (arith, low, place))
    (get_or_read listed.rows.items _ _ low c.index-then-place-len.ensures 0 ∙ ap (slice_index listed.rows.items) place)

pub returns-else-place-len : goal.returns-else-place-len
returns-else-place-len c =
    let listed = c.args.self.now in
    let place : c.index.result.now ≡ slice_index listed.places.items c.args.row = get_or_read listed.places.items _ _ c.requires.low c.index.ensures 0 in
    let past : length listed.rows.items ≤ c.index.result.now = omega (arith, c.if-place-len.false, c.len.ensures) in
    le-ltb c.index.result.now c.len.result (omega (arith, past, c.len.ensures)) ∙ past-end (length listed.places.items) listed c.requires.places c.args.row (omega (arith, past, place))
