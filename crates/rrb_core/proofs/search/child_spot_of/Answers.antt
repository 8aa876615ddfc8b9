use Rattle.std.proofs.Common.{rules, arith, ◌≡◌, ◌+◌, ◌*◌, ◌/◌, ◌^◌, ◌<◌, ◌≤◌, [], ℕ, suc, length, get_or, ap, sym, ◌∙◌}
use Rattle.std.proofs.lemmas.Bool.Decides.{nat_tests}
use Rattle.node_heap.specs.Heap.{links_at}
use Rattle.rrb_core.specs.Vector.{sums_at}
use Rattle.rrb_core.proofs.Lists.{empty-list}
use Rattle.rrb_core.proofs.Stays.{well-live}
use Rattle.rrb_core.proofs.RowLists.{over, at-place, child-at}
use Rattle.rrb_core.proofs.GetLemmas.{place-is, before-is, before-low, straight-past, straight-get}
use Rattle.rrb_core.proofs.search.child_spot_of.Goals as goal

pub sums_of-sums-requires : goal.sums_of-sums-requires
sums_of-sums-requires g c = well-live c.args.heap.now (suc c.args.below) c.args.link c.requires.well

pub links-links-requires : goal.links-links-requires
links-links-requires g c = well-live c.args.heap.now (suc c.args.below) c.args.link c.requires.well

pub returns-then-place-links-clause-past : goal.returns-then-place-links-clause-past
returns-then-place-links-clause-past g c =
    let empty : length c.sums_of-sums.result.now ≡ 0 = grind (arith, nat_tests, c.if-not-is_empty.ensures) in
    let none : sums_at c.args.heap.now c.args.link ≡ [] = sym c.sums_of-sums.ensures ∙ empty-list c.sums_of-sums.result.now empty in
    let place = place-is c.from.result c.args.index c.args.below c.from-2.result c.from.ensures c.from-2.ensures in
    let past : length (links_at c.args.heap.now c.args.link) ≤ c.args.index / 32 ^ suc c.args.below = omega (arith, place, ap length c.links-links.ensures.links, c.if-place-links.true) in
    straight-past (over c.args.heap.now c.args.below c.args.link c.requires.well c.requires.sums) none c.args.index past

pub overflow_cast-within : goal.overflow_cast-within
overflow_cast-within g c =
    let wide : c.args.index < 2 ^ 32 = c.ranges.index.fits in
    let before = before-is c.from.result c.args.index c.args.below c.from-2.result c.full_size.result c.from.ensures c.from-2.ensures c.full_size.ensures in
    let fits : c.full_size.result < 2 ^ 32 = omega (arith, before, before-low c.args.below c.args.index, wide) in
    search rules

pub overflow_sub-within : goal.overflow_sub-within
overflow_sub-within g c =
    let before = before-is c.from.result c.args.index c.args.below c.from-2.result c.full_size.result c.from.ensures c.from-2.ensures c.full_size.ensures in
    omega (arith, before, before-low c.args.below c.args.index)

pub returns-clause-well : goal.returns-clause-well
returns-clause-well g c =
    let i : ℕ = c.from.result / 2 ^ (5 * (c.from-2.result + 1)) in
    let lt : i < length (links_at c.args.heap.now c.args.link) = omega (arith, ap length c.links-links.ensures.links, c.if-place-links.false) in
    let at = at-place c.links-links.result.now (links_at c.args.heap.now c.args.link) i c.index-links-place.result c.index-links-place.is c.links-links.ensures.links lt in
    (child-at c.args.heap.now c.args.below c.args.link i c.index-links-place.result (over c.args.heap.now c.args.below c.args.link c.requires.well c.requires.sums) lt at).well

pub returns-clause-sums : goal.returns-clause-sums
returns-clause-sums g c =
    let i : ℕ = c.from.result / 2 ^ (5 * (c.from-2.result + 1)) in
    let lt : i < length (links_at c.args.heap.now c.args.link) = omega (arith, ap length c.links-links.ensures.links, c.if-place-links.false) in
    let at = at-place c.links-links.result.now (links_at c.args.heap.now c.args.link) i c.index-links-place.result c.index-links-place.is c.links-links.ensures.links lt in
    (child-at c.args.heap.now c.args.below c.args.link i c.index-links-place.result (over c.args.heap.now c.args.below c.args.link c.requires.well c.requires.sums) lt at).sums

pub returns-clause-same : goal.returns-clause-same
returns-clause-same g c =
    let empty : length c.sums_of-sums.result.now ≡ 0 = grind (arith, nat_tests, c.if-not-is_empty.ensures) in
    let none : sums_at c.args.heap.now c.args.link ≡ [] = sym c.sums_of-sums.ensures ∙ empty-list c.sums_of-sums.result.now empty in
    let i : ℕ = c.from.result / 2 ^ (5 * (c.from-2.result + 1)) in
    let lt : i < length (links_at c.args.heap.now c.args.link) = omega (arith, ap length c.links-links.ensures.links, c.if-place-links.false) in
    let at = at-place c.links-links.result.now (links_at c.args.heap.now c.args.link) i c.index-links-place.result c.index-links-place.is c.links-links.ensures.links lt in
    let place : i ≡ c.args.index / 32 ^ suc c.args.below = place-is c.from.result c.args.index c.args.below c.from-2.result c.from.ensures c.from-2.ensures in
    let before = before-is c.from.result c.args.index c.args.below c.from-2.result c.full_size.result c.from.ensures c.from-2.ensures c.full_size.ensures in
    let child : c.index-links-place.result ≡ get_or (links_at c.args.heap.now c.args.link) (c.args.index / 32 ^ suc c.args.below) 0 = at ∙ ap (λ (k : ℕ). get_or (links_at c.args.heap.now c.args.link) k 0) place in
    let lt' : c.args.index / 32 ^ suc c.args.below < length (links_at c.args.heap.now c.args.link) = rw place at lt in
    rw (child, before) (straight-get (over c.args.heap.now c.args.below c.args.link c.requires.well c.requires.sums) none c.args.index lt')
