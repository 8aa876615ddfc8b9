use Rattle.std.proofs.Common.{rules, arith, ◌≡◌, ◌≢◌, ℕ, ◌-◌, ◌+◌, ◌<◌, ◌≤◌, suc, refl, ap, length}
use Rattle.node_heap.specs.Heap.{form_at, links_at}
use Rattle.node_heap.specs.InPlace.{child_at}
use Rattle.rrb_core.specs.Seq.{seq_at}
use Rattle.rrb_core.specs.Push.{last_in}
use Rattle.rrb_core.proofs.Stays.{well-live}
use Rattle.rrb_core.proofs.RowLists.{over, child-at, at-place}
use Rattle.edit_vec.proofs.OwnLemmas.{OwnsChild, owns-child}
use Rattle.edit_vec.proofs.StepLemmas.{well-node, row-moved}
use Rattle.edit_vec.proofs.PopSteps.{pops-step, two-links, child-more, last-is, can-pop-child, not-both, sole-step, form-step, sums-few, sums-some}
use Rattle.edit_vec.proofs.pop.+pop.Given.{Over}
use Rattle.edit_vec.proofs.pop.+pop.Goals as goal
use Rattle.edit_vec.proofs.pop.+pop.Goals.{pop_inner-After-own_child-child}

pub pop_in-pop_leaf-requires-clause-row : goal.pop_in-pop_leaf-requires-clause-row
pop_in-pop_leaf-requires-clause-row g t c = rw c.if-height-eq0.true at c.requires.row

pub pop_in-pop_leaf-requires-clause-some : goal.pop_in-pop_leaf-requires-clause-some
pop_in-pop_leaf-requires-clause-some g t c = rw c.if-height-eq0.true at c.requires.some

pub pop_in-pop_inner-requires : goal.pop_in-pop_inner-requires
pop_in-pop_inner-requires g t c = λ κs sub.
    let down : suc (c.args.height - 1) ≡ c.args.height = omega arith in
    (search rules, (search rules, (rw down c.requires.row, (rw down (c.requires.more (omega arith)), rw down c.requires.spare))))

pub pop_in-returns-then-height-eq0 : goal.pop_in-returns-then-height-eq0
pop_in-returns-then-height-eq0 g t c = rw c.if-height-eq0.true c.pop_leaf.ensures

pub pop_in-returns : goal.pop_in-returns
pop_in-returns g t c =
    let down : suc (c.args.height - 1) ≡ c.args.height = omega arith in
    rw down at c.pop_inner.ensures

pub pop_inner-links-requires : goal.pop_inner-links-requires
pop_inner-links-requires g t c = well-live c.args.heap.now (suc c.args.below) c.args.row c.requires.row.well

pub pop_inner-links-requires-2 : goal.pop_inner-links-requires-2
pop_inner-links-requires-2 g t c = well-live c.args.heap.now (suc c.args.below) c.args.row c.requires.row.well

pub pop_inner-overflow_sub-last : goal.pop_inner-overflow_sub-last
pop_inner-overflow_sub-last g t c = omega (arith, (over c.args.heap.now c.args.below c.args.row c.requires.row.well c.requires.row.sums).some, ap length c.links.ensures.links)

pub pop_inner-bounds-links-last : goal.pop_inner-bounds-links-last
pop_inner-bounds-links-last g t c = omega (arith, (over c.args.heap.now c.args.below c.args.row c.requires.row.well c.requires.row.sums).some, ap length c.links.ensures.links, ap length c.links-2.ensures.links)

pub pop_inner-is_single-requires-clause-well : goal.pop_inner-is_single-requires-clause-well
pop_inner-is_single-requires-clause-well g t c =
    let h = c.args.heap.now in
    let under = over h c.args.below c.args.row c.requires.row.well c.requires.row.sums in
    let place = length c.links.result.now - 1 in
    let inside : place < length (links_at h c.args.row) = omega (arith, under.some, ap length c.links.ensures.links) in
    (child-at h c.args.below c.args.row place c.index-links-last.result under inside (at-place c.links-2.result.now (links_at h c.args.row) place c.index-links-last.result c.index-links-last.is c.links-2.ensures.links inside)).well

pub pop_inner-is_single-requires-clause-sums : goal.pop_inner-is_single-requires-clause-sums
pop_inner-is_single-requires-clause-sums g t c =
    let h = c.args.heap.now in
    let under = over h c.args.below c.args.row c.requires.row.well c.requires.row.sums in
    let place = length c.links.result.now - 1 in
    let inside : place < length (links_at h c.args.row) = omega (arith, under.some, ap length c.links.ensures.links) in
    (child-at h c.args.below c.args.row place c.index-links-last.result under inside (at-place c.links-2.result.now (links_at h c.args.row) place c.index-links-last.result c.index-links-last.is c.links-2.ensures.links inside)).sums

pub pop_inner-is_single-requires-clause-short : goal.pop_inner-is_single-requires-clause-short
pop_inner-is_single-requires-clause-short g t c =
    let h = c.args.heap.now in
    let under = over h c.args.below c.args.row c.requires.row.well c.requires.row.sums in
    let place = length c.links.result.now - 1 in
    let inside : place < length (links_at h c.args.row) = omega (arith, under.some, ap length c.links.ensures.links) in
    let at = child-at h c.args.below c.args.row place c.index-links-last.result under inside (at-place c.links-2.result.now (links_at h c.args.row) place c.index-links-last.result c.index-links-last.is c.links-2.ensures.links inside) in
    omega (arith, at.short, c.requires.row.short)

pub pop_inner-drop_last-requires-clause-two : goal.pop_inner-drop_last-requires-clause-two
pop_inner-drop_last-requires-clause-two g t c =
    let h = c.args.heap.now in
    let under = over h c.args.below c.args.row c.requires.row.well c.requires.row.sums in
    let is = last-is h c.args.row c.index-links-last.result c.links.result.now c.links-2.result.now c.index-links-last.is c.links.ensures.links c.links-2.ensures.links under.some in
    two-links c.requires.row c.requires.more (rw is at (c.is_single.ensures.0 c.if-is_single.true))

pub pop_inner-drop_last-requires-clause-one : goal.pop_inner-drop_last-requires-clause-one
pop_inner-drop_last-requires-clause-one g t c =
    let h = c.args.heap.now in
    let under = over h c.args.below c.args.row c.requires.row.well c.requires.row.sums in
    let is = last-is h c.args.row c.index-links-last.result c.links.result.now c.links-2.result.now c.index-links-last.is c.links.ensures.links c.links-2.ensures.links under.some in
    rw is at (c.is_single.ensures.0 c.if-is_single.true)

pub pop_inner-own_child-child-requires-clause-index : goal.pop_inner-own_child-child-requires-clause-index
pop_inner-own_child-child-requires-clause-index g t c = omega (arith, (over c.args.heap.now c.args.below c.args.row c.requires.row.well c.requires.row.sums).some, ap length c.links.ensures.links)

pub pop_inner-own_child-child-requires-clause-node : goal.pop_inner-own_child-child-requires-clause-node
pop_inner-own_child-child-requires-clause-node g t c =
    let h = c.args.heap.now in
    let under = over h c.args.below c.args.row c.requires.row.well c.requires.row.sums in
    let at = child_at h c.args.row (length c.links.result.now - 1) in
    well-node h c.args.below at (child-at h c.args.below c.args.row (length c.links.result.now - 1) at under (omega (arith, under.some, ap length c.links.ensures.links)) refl).well

-- the last child, of more than one element, was made the row's own
module _ (g : Over) (t : ℕ) (c : pop_inner-After-own_child-child g t) where
  wide : length c.links.result.now ≡ length (links_at c.args.heap.now c.args.row)
  wide = ap length c.links.ensures.links

  last : length c.links.result.now - 1 ≡ length (links_at c.args.heap.now c.args.row) - 1
  last = omega (arith, wide)

  some : 0 < length (links_at c.args.heap.now c.args.row)
  some = (over c.args.heap.now c.args.below c.args.row c.requires.row.well c.requires.row.sums).some

  more : length (seq_at (form_at c.args.heap.now) c.args.below (last_in (form_at c.args.heap.now) c.args.row)) ≢ 1
  more = λ one.
      let is = last-is c.args.heap.now c.args.row c.index-links-last.result c.links.result.now c.links-2.result.now c.index-links-last.is c.links.ensures.links c.links-2.ensures.links some in
      not-both (c.is_single.ensures.1 (rw is one)) c.if-is_single.false

  owns : OwnsChild c.args.heap.now c.own_child-child.new.self c.args.row (length c.links.result.now - 1) c.own_child-child.result
  owns =
      let did = c.own_child-child.ensures in
      owns-child c.requires.row.graph (omega (arith, some, wide)) did.same did.row did.sole did.fresh did.parent_head did.parent_links did.stays did.others did.owners did.changes did.makes

pub pop_inner-pop_in-given-requires : goal.pop_inner-pop_in-given-requires
pop_inner-pop_in-given-requires g t c κs within =
    let own = (goal.at.pop_inner-pop_in-given-requires g t c).After-own_child-child in
    let did = c.own_child-child.ensures in
    let moved = row-moved c.args.below (owns g t own) c.requires.row.well c.requires.row.sums in
    let enough : 2 ≤ length (seq_at (form_at c.own_child-child.new.self) c.args.below c.own_child-child.result) = rw moved.items (child-more c.requires.row (last g t own) (more g t own)) in
    (search rules, (search rules, (can-pop-child (owns g t own) c.requires.row, (omega (arith, enough), ((λ _. enough), omega (arith, c.requires.spare, did.changes.trades.balance.spare_nodes, did.changes.trades.nodes))))))

pub pop_inner-shrink_sums-requires-clause-sole : goal.pop_inner-shrink_sums-requires-clause-sole
pop_inner-shrink_sums-requires-clause-sole g t c =
    let own = (goal.at.pop_inner-shrink_sums-requires-clause-sole g t c).After-own_child-child in
    sole-step (owns g t own) c.requires.row (last g t own) (more g t own) c.pop_in-given.ensures

pub pop_inner-shrink_sums-requires-clause-inner : goal.pop_inner-shrink_sums-requires-clause-inner
pop_inner-shrink_sums-requires-clause-inner g t c =
    let own = (goal.at.pop_inner-shrink_sums-requires-clause-inner g t c).After-own_child-child in
    let up : c.args.below + 1 ≡ suc c.args.below = omega arith in
    rw up (form-step (owns g t own) c.requires.row (last g t own) (more g t own) c.pop_in-given.ensures)

pub pop_inner-shrink_sums-requires-clause-few : goal.pop_inner-shrink_sums-requires-clause-few
pop_inner-shrink_sums-requires-clause-few g t c =
    let own = (goal.at.pop_inner-shrink_sums-requires-clause-few g t c).After-own_child-child in
    sums-few (owns g t own) c.requires.row (last g t own) (more g t own) c.pop_in-given.ensures

pub pop_inner-shrink_sums-requires-clause-some : goal.pop_inner-shrink_sums-requires-clause-some
pop_inner-shrink_sums-requires-clause-some g t c =
    let own = (goal.at.pop_inner-shrink_sums-requires-clause-some g t c).After-own_child-child in
    sums-some (owns g t own) c.requires.row (last g t own) (more g t own) c.pop_in-given.ensures

pub pop_inner-returns : goal.pop_inner-returns
pop_inner-returns g t c =
    let own = (goal.at.pop_inner-returns g t c).After-own_child-child in
    pops-step (owns g t own) c.requires.row (last g t own) (more g t own) c.pop_in-given.ensures (omega arith) c.shrink_sums.ensures.writes c.shrink_sums.ensures.changes c.shrink_sums.ensures.makes
