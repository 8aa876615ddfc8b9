use Rattle.std.proofs.Common.{rules, arith, ◌≡◌, ◌-◌, suc, refl}
use Rattle.node_heap.specs.InPlace.{child_at}
use Rattle.rrb_core.proofs.RowLists.{over, child-at}
use Rattle.edit_vec.proofs.OwnLemmas.{owns-child}
use Rattle.edit_vec.proofs.StepLemmas.{well-node, row-moved, can-child, sets-step}
use Rattle.edit_vec.proofs.set.+set.Goals as goal

pub set_in-set_leaf-requires-clause-row : goal.set_in-set_leaf-requires-clause-row
set_in-set_leaf-requires-clause-row g t c = rw c.if-height-eq0.true at c.requires.row

pub set_in-set_leaf-requires-clause-inside : goal.set_in-set_leaf-requires-clause-inside
set_in-set_leaf-requires-clause-inside g t c = rw c.if-height-eq0.true at c.requires.inside

pub set_in-set_inner-requires : goal.set_in-set_inner-requires
set_in-set_inner-requires g t c = λ κs sub.
    let down : suc (c.args.height - 1) ≡ c.args.height = omega arith in
    (search rules, (search rules, (rw down c.requires.row, rw down c.requires.inside)))

pub set_in-returns-then-height-eq0 : goal.set_in-returns-then-height-eq0
set_in-returns-then-height-eq0 g t c = rw c.if-height-eq0.true c.set_leaf.ensures

pub set_in-returns : goal.set_in-returns
set_in-returns g t c =
    let down : suc (c.args.height - 1) ≡ c.args.height = omega arith in
    rw down at c.set_inner.ensures

pub set_inner-own_child-child-requires-clause-node : goal.set_inner-own_child-child-requires-clause-node
set_inner-own_child-child-requires-clause-node g t c =
    let h = c.args.heap.now in
    let at = child_at h c.args.row c.spot_of-found.result.place in
    well-node h c.args.below at (child-at h c.args.below c.args.row c.spot_of-found.result.place at (over h c.args.below c.args.row c.requires.row.well c.requires.row.sums) c.spot_of-found.ensures.place refl).well

pub set_inner-set_in-requires : goal.set_inner-set_in-requires
set_inner-set_in-requires g t c = λ κs sub.
    let did = c.own_child-child.ensures in
    let owns = owns-child c.requires.row.graph c.spot_of-found.ensures.place did.same did.row did.sole did.fresh did.parent_head did.parent_links did.stays did.others did.owners did.changes did.makes in
    let moved = row-moved c.args.below owns c.requires.row.well c.requires.row.sums in
    (search rules, (search rules, (can-child owns c.requires.row, rw moved.items c.spot_of-found.ensures.inside)))

pub set_inner-returns : goal.set_inner-returns
set_inner-returns g t c =
    let did = c.own_child-child.ensures in
    let spot = c.spot_of-found.ensures in
    let owns = owns-child c.requires.row.graph spot.place did.same did.row did.sole did.fresh did.parent_head did.parent_links did.stays did.others did.owners did.changes did.makes in
    sets-step owns c.requires.row (record { place = spot.place; inside = spot.inside; before = spot.before }) c.set_in.ensures
