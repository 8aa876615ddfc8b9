use Rattle.std.proofs.Common.{rules, arith, ◌≡◌, ◌-◌, suc, length, ap}
use Rattle.rrb_core.proofs.Stays.{well-live}
use Rattle.rrb_core.proofs.RowLists.{over}
use Rattle.rrb_core.proofs.EditLemmas.{edit-last, place-last, pushes-last}
use Rattle.rrb_core.proofs.grow.+push.Goals as goal

pub push_below-push_leaf-requires-clause-row : goal.push_below-push_leaf-requires-clause-row
push_below-push_leaf-requires-clause-row g t c = rw c.if-height-eq0.true at c.requires.row

pub push_below-push_inner-requires : goal.push_below-push_inner-requires
push_below-push_inner-requires g t c = λ κs sub.
    let down : suc (c.args.height - 1) ≡ c.args.height = omega arith in
    (search rules, (search rules, (rw down c.requires.row, (rw down c.requires.short, c.requires.held))))

pub push_below-returns-then-height-eq0-clause-packed : goal.push_below-returns-then-height-eq0-clause-packed
push_below-returns-then-height-eq0-clause-packed g t c = rw c.if-height-eq0.true c.push_leaf.ensures.packed

pub push_below-returns-then-height-eq0-clause-pushes : goal.push_below-returns-then-height-eq0-clause-pushes
push_below-returns-then-height-eq0-clause-pushes g t c = rw c.if-height-eq0.true c.push_leaf.ensures.pushes

pub push_below-returns-clause-packed : goal.push_below-returns-clause-packed
push_below-returns-clause-packed g t c =
    let down : suc (c.args.height - 1) ≡ c.args.height = omega arith in
    rw down at c.push_inner.ensures.packed

pub push_below-returns-clause-pushes : goal.push_below-returns-clause-pushes
push_below-returns-clause-pushes g t c =
    let down : suc (c.args.height - 1) ≡ c.args.height = omega arith in
    rw down at c.push_inner.ensures.pushes

pub push_inner-links-count-requires : goal.push_inner-links-count-requires
push_inner-links-count-requires g t c = well-live c.args.heap.now (suc c.args.below) c.args.link c.requires.row.well

pub push_inner-push_below-requires : goal.push_inner-push_below-requires
push_inner-push_below-requires g t c = λ κs sub.
    let last = edit-last c.last_child-last.result c.requires.row c.last_child-last.ensures in
    (search rules, (search rules, (last.0, (omega (arith, last.1, c.requires.short), c.requires.held))))

pub push_inner-overflow_sub-count : goal.push_inner-overflow_sub-count
push_inner-overflow_sub-count g t c = omega (arith, ap length c.links-count.ensures.links, (over c.args.heap.now c.args.below c.args.link c.requires.row.well c.requires.row.sums).some)

pub push_inner-inner_with-requires : goal.push_inner-inner_with-requires
push_inner-inner_with-requires g t c =
    rw c.links-count.ensures.links (place-last c.requires.row c.requires.short c.requires.held (rw c.last_child-last.ensures at c.in-Some.ensures.pushes)).can

pub push_inner-returns-in-Some-clause-pushes : goal.push_inner-returns-in-Some-clause-pushes
push_inner-returns-in-Some-clause-pushes g t c =
    let e = c.links-count.ensures.links in
    pushes-last c.requires.row c.requires.short c.requires.held (rw c.last_child-last.ensures at c.in-Some.ensures.pushes) (rw e at c.inner_with.ensures.row) c.inner_with.ensures.builds (rw e at c.inner_with.ensures.links)

pub push_inner-push_beside-requires-clause-row : goal.push_inner-push_beside-requires-clause-row
push_inner-push_beside-requires-clause-row g t c = rw c.in-None.ensures.packed.1 c.requires.row

pub push_inner-push_beside-requires-clause-packed : goal.push_inner-push_beside-requires-clause-packed
push_inner-push_beside-requires-clause-packed g t c = rw c.in-None.ensures.packed.1 (rw c.last_child-last.ensures at c.in-None.ensures.packed.0)

pub push_inner-push_beside-requires-clause-short : goal.push_inner-push_beside-requires-clause-short
push_inner-push_beside-requires-clause-short g t c = rw c.in-None.ensures.packed.1 c.requires.short

pub push_inner-push_beside-requires-clause-held : goal.push_inner-push_beside-requires-clause-held
push_inner-push_beside-requires-clause-held g t c = rw c.in-None.ensures.packed.1 c.requires.held

pub push_inner-returns-in-None-clause-packed : goal.push_inner-returns-in-None-clause-packed
push_inner-returns-in-None-clause-packed g t c = rw c.in-None.ensures.packed.1 at c.push_beside.ensures.packed

pub push_inner-returns-in-None-clause-pushes : goal.push_inner-returns-in-None-clause-pushes
push_inner-returns-in-None-clause-pushes g t c = rw c.in-None.ensures.packed.1 at c.push_beside.ensures.pushes
