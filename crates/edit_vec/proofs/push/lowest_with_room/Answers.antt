use Rattle.std.proofs.Common.{arith, ◌≡◌, ◌-◌, length, ap, ◌≢◌}
use Rattle.node_heap.specs.Heap.{form_at}
use Rattle.rrb_core.proofs.FillRule.{well-most}
use Rattle.rrb_core.proofs.PushLemmas.{packed-leaf}
use Rattle.rrb_core.proofs.Stays.{links-form, well-live}
use Rattle.rrb_core.specs.Push.{IsPacked}
use Rattle.edit_vec.proofs.PushTop.{room-zero, room-up, room-at, packed-at, last-well, last-is}
use Rattle.edit_vec.proofs.push.lowest_with_room.Goals as goal
use Rattle.edit_vec.proofs.push.lowest_with_room.Goals.{then-count-lt-ROW_LINKS, else-count-lt-ROW_LINKS}

pub links-links-requires : goal.links-links-requires
links-links-requires g c = well-live c.args.heap.now c.loop-level.level c.loop-level.link c.loop-level.invariant.well

pub overflow_sub-link : goal.overflow_sub-link
overflow_sub-link g c =
    let h = c.args.heap.now in
    let some = (last-well (form_at h) c.loop-level.level c.loop-level.link (omega (arith, c.loop-level-test.true)) c.loop-level.invariant.well).0 in
    omega (arith, some, ap length c.links-links.ensures.links, ap length (links-form h c.loop-level.link))

pub bounds-links-count : goal.bounds-links-count
bounds-links-count g c =
    let h = c.args.heap.now in
    let some = (last-well (form_at h) c.loop-level.level c.loop-level.link (omega (arith, c.loop-level-test.true)) c.loop-level.invariant.well).0 in
    omega (arith, some, ap length c.links-links.ensures.links, ap length (links-form h c.loop-level.link))

pub loop-level-init : goal.loop-level-init
loop-level-init g c = record { well = c.requires.well; below = λ lowest room. room; found = λ packed. (tt, packed) }

pub loop-level-preserved : goal.loop-level-preserved
loop-level-preserved g c =
    let h = c.args.heap.now in
    let F = form_at h in
    let level = c.loop-level.level in
    let link = c.loop-level.link in
    let inv = c.loop-level.invariant in
    let tall : level ≢ 0 = omega (arith, c.loop-level-test.true) in
    let both = last-well F level link tall inv.well in
    let last = last-is h link c.index-links-count.result c.links-links.result.now c.links-links.result.now c.index-links-count.is c.links-links.ensures.links c.links-links.ensures.links both.0 in
    let wide = ap length c.links-links.ensures.links in
    let size = ap length (links-form h link) in
    elim c.if-count-lt-ROW_LINKS.branch [
      | then-count-lt-ROW_LINKS w ↦ rw w.lowest-is record {
        well = rw last both.1;
        below = λ lowest room. inv.below lowest (room-up F level lowest link tall (rw last at room));
        found = λ packed. (inv.below level (room-at F level link tall (omega (arith, w.if-count-lt-ROW_LINKS.true, wide, size)) (rw last at packed)), tt);
      }
      | else-count-lt-ROW_LINKS w ↦ rw w.lowest-is record {
        well = rw last both.1;
        below = λ lowest room. inv.below lowest (room-up F level lowest link tall (rw last at room));
        found = λ packed. inv.found (packed-at F level link tall (omega (arith, w.if-count-lt-ROW_LINKS.false, wide, size, well-most F level link inv.well)) (rw last at packed));
      }
    ]

pub links-requires : goal.links-requires
links-requires g c = well-live c.args.heap.now c.loop-level.level c.loop-level.link c.loop-level.invariant.well

pub returns-then-links-lt-ROW_LINKS-clause-room : goal.returns-then-links-lt-ROW_LINKS-clause-room
returns-then-links-lt-ROW_LINKS-clause-room g c =
    let h = c.args.heap.now in
    let bottom : c.loop-level.level ≡ 0 = omega (arith, c.loop-level-test.false) in
    c.loop-level.invariant.below 0 (room-zero (form_at h) c.loop-level.level c.loop-level.link bottom (omega (arith, c.if-links-lt-ROW_LINKS.true, ap length c.links.ensures.links, ap length (links-form h c.loop-level.link))))

pub returns-clause-room : goal.returns-clause-room
returns-clause-room g c =
    let h = c.args.heap.now in
    let F = form_at h in
    let link = c.loop-level.link in
    let bottom : c.loop-level.level ≡ 0 = omega (arith, c.loop-level-test.false) in
    let full : IsPacked F c.loop-level.level link = rw bottom (packed-leaf F link (omega (arith, c.if-links-lt-ROW_LINKS.false, ap length c.links.ensures.links, ap length (links-form h link), well-most F c.loop-level.level link c.loop-level.invariant.well))) in
    (c.loop-level.invariant.found full).0

pub returns-clause-packed : goal.returns-clause-packed
returns-clause-packed g c =
    let h = c.args.heap.now in
    let F = form_at h in
    let link = c.loop-level.link in
    let bottom : c.loop-level.level ≡ 0 = omega (arith, c.loop-level-test.false) in
    let full : IsPacked F c.loop-level.level link = rw bottom (packed-leaf F link (omega (arith, c.if-links-lt-ROW_LINKS.false, ap length c.links.ensures.links, ap length (links-form h link), well-most F c.loop-level.level link c.loop-level.invariant.well))) in
    (c.loop-level.invariant.found full).1
