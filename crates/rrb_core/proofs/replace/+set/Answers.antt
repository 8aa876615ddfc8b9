use Rattle.std.proofs.Common.{rules, arith, ◌≡◌, ◌-◌, suc}
use Rattle.node_heap.specs.Heap.{links_at}
use Rattle.rrb_core.proofs.Stays.{well-live}
use Rattle.rrb_core.proofs.RowLists.{at-place}
use Rattle.rrb_core.proofs.EditLemmas.{edit-at, place-set, sets-inner}
use Rattle.rrb_core.proofs.replace.+set.Goals as goal

pub set_below-set_leaf-requires-clause-row : goal.set_below-set_leaf-requires-clause-row
set_below-set_leaf-requires-clause-row g t c = rw c.if-height-eq0.true at c.requires.row

pub set_below-set_leaf-requires-clause-inside : goal.set_below-set_leaf-requires-clause-inside
set_below-set_leaf-requires-clause-inside g t c = rw c.if-height-eq0.true at c.requires.inside

pub set_below-set_inner-requires : goal.set_below-set_inner-requires
set_below-set_inner-requires g t c = λ κs sub.
    let down : suc (c.args.height - 1) ≡ c.args.height = omega arith in
    (search rules, (search rules, (rw down c.requires.row, (rw down c.requires.inside, c.requires.held))))

pub set_below-returns-then-height-eq0 : goal.set_below-returns-then-height-eq0
set_below-returns-then-height-eq0 g t c = rw c.if-height-eq0.true c.set_leaf.ensures

pub set_below-returns : goal.set_below-returns
set_below-returns g t c =
    let down : suc (c.args.height - 1) ≡ c.args.height = omega arith in
    rw down at c.set_inner.ensures

pub set_inner-links-requires : goal.set_inner-links-requires
set_inner-links-requires g t c = well-live c.args.heap.now (suc c.args.below) c.args.link c.requires.row.well

pub set_inner-bounds-links-found : goal.set_inner-bounds-links-found
set_inner-bounds-links-found g t c = rw c.links.ensures.links c.spot_of-found.ensures.place

pub set_inner-set_below-child-requires : goal.set_inner-set_below-child-requires
set_inner-set_below-child-requires g t c = λ κs sub.
    let at = at-place c.links.result.now (links_at c.args.heap.now c.args.link) c.spot_of-found.result.place c.index-links-found.result c.index-links-found.is c.links.ensures.links c.spot_of-found.ensures.place in
    let child = edit-at c.spot_of-found.result.place c.index-links-found.result c.requires.row c.spot_of-found.ensures.place at in
    (search rules, (search rules, (child.0, (rw at c.spot_of-found.ensures.inside, c.requires.held))))

pub set_inner-inner_with-requires : goal.set_inner-inner_with-requires
set_inner-inner_with-requires g t c =
    let at = at-place c.links.result.now (links_at c.args.heap.now c.args.link) c.spot_of-found.result.place c.index-links-found.result c.index-links-found.is c.links.ensures.links c.spot_of-found.ensures.place in
    (place-set c.requires.row c.requires.held (record { place = c.spot_of-found.ensures.place; inside = c.spot_of-found.ensures.inside; before = c.spot_of-found.ensures.before }) (rw at at c.set_below-child.ensures)).can

pub set_inner-returns : goal.set_inner-returns
set_inner-returns g t c =
    let at = at-place c.links.result.now (links_at c.args.heap.now c.args.link) c.spot_of-found.result.place c.index-links-found.result c.index-links-found.is c.links.ensures.links c.spot_of-found.ensures.place in
    sets-inner c.requires.row c.requires.held (record { place = c.spot_of-found.ensures.place; inside = c.spot_of-found.ensures.inside; before = c.spot_of-found.ensures.before }) (rw at at c.set_below-child.ensures) c.inner_with.ensures.row c.inner_with.ensures.builds c.inner_with.ensures.links
