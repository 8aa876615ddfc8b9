use Rattle.std.proofs.Common.{rules, arith, ◌≡◌, ◌-◌, ◌<◌, suc, length}
use Rattle.node_heap.specs.Heap.{form_at, links_at}
use Rattle.node_heap.proofs.BuildLemmas.{Builds-hold}
use Rattle.rrb_core.specs.Seq.{seq_at}
use Rattle.rrb_core.proofs.Stays.{well-live}
use Rattle.rrb_core.proofs.RowLists.{at-place}
use Rattle.rrb_core.proofs.EditLemmas.{edit-at, place-take, takes-inner, takes-itself}
use Rattle.rrb_core.proofs.cut.+take.Goals as goal

pub take_below-take_leaf-requires-clause-row : goal.take_below-take_leaf-requires-clause-row
take_below-take_leaf-requires-clause-row g t c = rw c.if-height-eq0.true at c.requires.row

pub take_below-take_leaf-requires-clause-inside : goal.take_below-take_leaf-requires-clause-inside
take_below-take_leaf-requires-clause-inside g t c = rw c.if-height-eq0.true at c.requires.inside

pub take_below-take_inner-requires : goal.take_below-take_inner-requires
take_below-take_inner-requires g t c = λ κs sub.
    let down : suc (c.args.height - 1) ≡ c.args.height = omega arith in
    (search rules, (search rules, (rw down c.requires.row, (c.requires.some, rw down c.requires.inside))))

pub take_below-hold-requires-clause-live : goal.take_below-hold-requires-clause-live
take_below-hold-requires-clause-live g t c = well-live c.args.heap.now c.args.height c.args.link c.requires.row.well

pub take_below-hold-requires-clause-few : goal.take_below-hold-requires-clause-few
take_below-hold-requires-clause-few g t c = omega (arith, c.requires.row.holds)

pub take_below-returns-then-count-size-clause-cut : goal.take_below-returns-then-count-size-clause-cut
take_below-returns-then-count-size-clause-cut g t c =
    takes-itself c.requires.row (Builds-hold c.hold.ensures.holds c.hold.ensures.makes c.hold.ensures.count c.hold.ensures.graph c.hold.ensures.extends) (omega (arith, c.size.ensures.value, c.if-count-size.true))

pub take_below-returns-then-height-eq0-clause-cut : goal.take_below-returns-then-height-eq0-clause-cut
take_below-returns-then-height-eq0-clause-cut g t c = rw c.if-height-eq0.true c.take_leaf.ensures

pub take_below-returns-clause-cut : goal.take_below-returns-clause-cut
take_below-returns-clause-cut g t c =
    let down : suc (c.args.height - 1) ≡ c.args.height = omega arith in
    rw down at c.take_inner.ensures

pub take_inner-links-end-requires : goal.take_inner-links-end-requires
take_inner-links-end-requires g t c = well-live c.args.heap.now (suc c.args.below) c.args.link c.requires.row.well

pub take_inner-links-requires : goal.take_inner-links-requires
take_inner-links-requires g t c = well-live c.args.heap.now (suc c.args.below) c.args.link c.requires.row.well

pub take_inner-bounds-links-found : goal.take_inner-bounds-links-found
take_inner-bounds-links-found g t c = rw c.links.ensures.links c.spot_of-found.ensures.place

pub take_inner-take_below-child-requires : goal.take_inner-take_below-child-requires
take_inner-take_below-child-requires g t c = λ κs sub.
    let at = at-place c.links.result.now (links_at c.args.heap.now c.args.link) c.spot_of-found.result.place c.index-links-found.result c.index-links-found.is c.links.ensures.links c.spot_of-found.ensures.place in
    let child = edit-at c.spot_of-found.result.place c.index-links-found.result c.requires.row c.spot_of-found.ensures.place at in
    let inside : c.spot_of-found.result.within < length (seq_at (form_at c.args.heap.now) c.args.below c.index-links-found.result) = rw at c.spot_of-found.ensures.inside in
    (search rules, (search rules, (child.0, (omega arith, omega (arith, inside)))))

pub take_inner-inner_with-requires : goal.take_inner-inner_with-requires
take_inner-inner_with-requires g t c =
    let at = at-place c.links.result.now (links_at c.args.heap.now c.args.link) c.spot_of-found.result.place c.index-links-found.result c.index-links-found.is c.links.ensures.links c.spot_of-found.ensures.place in
    rw c.links-end.ensures.links (place-take c.requires.row c.requires.some c.requires.inside (record { place = c.spot_of-found.ensures.place; inside = c.spot_of-found.ensures.inside; before = c.spot_of-found.ensures.before }) (rw at at c.take_below-child.ensures.cut)).can

pub take_inner-returns : goal.take_inner-returns
take_inner-returns g t c =
    let at = at-place c.links.result.now (links_at c.args.heap.now c.args.link) c.spot_of-found.result.place c.index-links-found.result c.index-links-found.is c.links.ensures.links c.spot_of-found.ensures.place in
    let e = c.links-end.ensures.links in
    takes-inner c.requires.row c.requires.some c.requires.inside (record { place = c.spot_of-found.ensures.place; inside = c.spot_of-found.ensures.inside; before = c.spot_of-found.ensures.before }) (rw at at c.take_below-child.ensures.cut) (rw at at c.take_below-child.ensures.all) (rw e at c.inner_with.ensures.row) c.inner_with.ensures.builds (rw e at c.inner_with.ensures.links)
