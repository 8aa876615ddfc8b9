use Rattle.std.proofs.Common.{◌≡◌, ◌+◌, ◌<◌, ◌≤◌, length, ap, sym, arith, suc, ◌-◌, ◌^◌}
use Rattle.node_heap.specs.Heap.{form_at, links_at}
use Rattle.rrb_core.proofs.Stays.{well-live}
use Rattle.rrb_core.specs.Seq.{seq_at}
use Rattle.edit_vec.proofs.OwnLemmas.{OwnsChild, owns-child, owns-headed}
use Rattle.edit_vec.proofs.PushLemmas.{can-down, last-inside, last-node, grown-mid, inner-mid, sole-mid, few-mid, short-mid, push-step, room-child, short-child}
use Rattle.edit_vec.proofs.PushTop.{room-low}
use Rattle.edit_vec.proofs.StepLemmas.{can-child}
use Rattle.edit_vec.specs.Steps.{CanWrite}
use Rattle.edit_vec.proofs.push.push_in.Given.{Over}
use Rattle.edit_vec.proofs.push.push_in.Goals.{After-own_child-child}
use Rattle.edit_vec.proofs.push.push_in.Goals as goal

-- the last child of a row above the height where the element goes is the row's own
module _ (g : Over) (c : After-own_child-child g) where
  can : CanWrite c.loop-level.heap (suc (c.loop-level.level - 1)) c.loop-level.link c.args.element
  can = can-down c.loop-level.invariant.row (omega (arith, c.loop-level-test.true))

  is : length c.links.result.now - 1 ≡ length (links_at c.loop-level.heap c.loop-level.link) - 1
  is = omega (arith, ap length c.links.ensures.links)

  own : OwnsChild c.loop-level.heap c.own_child-child.new.self c.loop-level.link (length c.links.result.now - 1) c.own_child-child.result
  own =
      let did = c.own_child-child.ensures in
      owns-child can.graph (last-inside can c.links.ensures.links) did.same did.row did.sole did.fresh did.parent_head did.parent_links did.stays did.others did.owners did.changes did.makes

  short : length (seq_at (form_at c.loop-level.heap) (suc (c.loop-level.level - 1)) c.loop-level.link) + 1 < 2 ^ 32
  short =
      let down : suc (c.loop-level.level - 1) ≡ c.loop-level.level = omega (arith, c.loop-level-test.true) in
      rw down c.loop-level.invariant.short

pub links-requires : goal.links-requires
links-requires g c = well-live c.loop-level.heap c.loop-level.level c.loop-level.link c.loop-level.invariant.row.well

pub overflow_sub-last : goal.overflow_sub-last
overflow_sub-last g c = omega (arith, last-inside (can-down c.loop-level.invariant.row (omega (arith, c.loop-level-test.true))) c.links.ensures.links, ap length c.links.ensures.links)

pub own_child-child-requires-clause-index : goal.own_child-child-requires-clause-index
own_child-child-requires-clause-index g c = last-inside (can-down c.loop-level.invariant.row (omega (arith, c.loop-level-test.true))) c.links.ensures.links

pub own_child-child-requires-clause-node : goal.own_child-child-requires-clause-node
own_child-child-requires-clause-node g c = last-node (can-down c.loop-level.invariant.row (omega (arith, c.loop-level-test.true))) c.links.ensures.links

pub grow_sums-requires-clause-sole : goal.grow_sums-requires-clause-sole
grow_sums-requires-clause-sole g c =
    let before = (goal.at.grow_sums-requires-clause-sole g c).After-own_child-child in
    sole-mid (own g before) (can g before)

pub grow_sums-requires-clause-graph : goal.grow_sums-requires-clause-graph
grow_sums-requires-clause-graph g c = c.own_child-child.ensures.changes.trades.graph

pub grow_sums-requires-clause-inner : goal.grow_sums-requires-clause-inner
grow_sums-requires-clause-inner g c =
    let before = (goal.at.grow_sums-requires-clause-inner g c).After-own_child-child in
    let down : suc (c.loop-level.level - 1) ≡ c.loop-level.level = omega (arith, c.loop-level-test.true) in
    rw down at (inner-mid (own g before) (can g before))

pub grow_sums-requires-clause-few : goal.grow_sums-requires-clause-few
grow_sums-requires-clause-few g c =
    let before = (goal.at.grow_sums-requires-clause-few g c).After-own_child-child in
    few-mid (own g before) (can g before)

pub grow_sums-requires-clause-short : goal.grow_sums-requires-clause-short
grow_sums-requires-clause-short g c =
    let before = (goal.at.grow_sums-requires-clause-short g c).After-own_child-child in
    short-mid (own g before) (can g before) (short g before)

pub loop-level-init : goal.loop-level-init
loop-level-init g c = record { row = c.requires.row; short = c.requires.short; few = c.requires.few; room = c.requires.room; above = λ new sub. sub }

pub loop-level-preserved : goal.loop-level-preserved
loop-level-preserved g c =
    let before = (goal.at.loop-level-preserved g c).After-own_child-child in
    let inv = c.loop-level.invariant in
    let down : suc (c.loop-level.level - 1) ≡ c.loop-level.level = omega (arith, c.loop-level-test.true) in
    let low : c.args.lowest ≤ c.loop-level.level - 1 = omega (arith, c.loop-level-test.true) in
    let grew = c.grow_sums.ensures in
    let own' = owns-headed (own g before) grew.writes grew.owners grew.changes grew.makes in
    record {
      row = can-child own' (can g before);
      short = short-child c.args.lowest own' (can g before) (is g before) (short g before);
      few = omega (arith, inv.few, c.own_child-child.ensures.changes.trades.total, grew.changes.trades.total);
      room = room-child c.args.lowest own' (can g before) (is g before) low (rw down inv.room);
      above = λ new sub. inv.above new (rw down at (push-step own' (sym down) (grown-mid (own g before) (can g before)) (can g before) (is g before) sub low));
    }

pub push_here-requires-clause-room : goal.push_here-requires-clause-room
push_here-requires-clause-room g c =
    let same : c.args.lowest ≡ c.loop-level.level = omega (arith, c.loop-level-test.false, room-low (form_at c.loop-level.heap) c.loop-level.level c.args.lowest c.loop-level.link c.loop-level.invariant.room) in
    rw same at c.loop-level.invariant.room

pub returns : goal.returns
returns g c =
    let same : c.args.lowest ≡ c.loop-level.level = omega (arith, c.loop-level-test.false, room-low (form_at c.loop-level.heap) c.loop-level.level c.args.lowest c.loop-level.link c.loop-level.invariant.room) in
    c.loop-level.invariant.above c.push_here.new.heap (rw same c.push_here.ensures)
