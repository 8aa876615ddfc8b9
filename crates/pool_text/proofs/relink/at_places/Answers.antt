use Rattle.std.proofs.Common.{◌≡◌, ◌<◌, ◌+◌, ℕ, List, [], ◌∷◌, ◌++◌, map, take, length, get_or, rules, ap, sym, ◌∙◌, arith}
use Rattle.std.specs.Prelude.{slice_index}
use Rattle.std.proofs.lemmas.List.{map-append, take_more}
use Rattle.pool_order.proofs.Walked.{count-get_or}
use Rattle.pool_text.proofs.relink.at_places.Goals as goal

pub bounds-places-link : goal.bounds-places-link
bounds-places-link c =
    let low : c.loop-link.link-index < length c.args.links.now = omega arith in
    omega (arith, c.requires.low (get_or c.args.links.now c.loop-link.link-index 0) (count-get_or c.args.links.now c.loop-link.link-index low))

pub offset_bounds-places-link : goal.offset_bounds-places-link
offset_bounds-places-link c =
    let low : c.loop-link.link-index < length c.args.links.now = omega arith in
    let inside : get_or c.args.links.now c.loop-link.link-index 0 < length c.args.places.now = c.requires.low (get_or c.args.links.now c.loop-link.link-index 0) (count-get_or c.args.links.now c.loop-link.link-index low) in
    search rules

pub loop-link-preserved : goal.loop-link-preserved
loop-link-preserved c =
    let links : List ℕ = c.args.links.now in
    let place : ℕ → ℕ = slice_index c.args.places.now in
    let low : c.loop-link.link-index < length links = omega arith in
    let link : ℕ = get_or links c.loop-link.link-index 0 in
    let more : map place (take (c.loop-link.link-index + 1) links) ≡ map place (take c.loop-link.link-index links) ++ place link ∷ [] =
    ap (map place) (take_more links c.loop-link.link-index 0 low) ∙ map-append place (take c.loop-link.link-index links) (link ∷ []) in
    c.in_ok-push.ensures.items ∙ ap (λ (found : List ℕ). found ++ place link ∷ []) c.loop-link.invariant ∙ sym more
