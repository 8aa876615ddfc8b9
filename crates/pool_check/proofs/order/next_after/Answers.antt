use Rattle.std.proofs.Common.{◌<◌, length, rules, sym, ◌∙◌}
use Rattle.pool_check.proofs.OrderWalk.{listed-already, walk-from, walk-done, visit-low, turn-list, turn-stops, turn-skip, turn-enter}
use Rattle.pool_check.proofs.order.next_after.Goals as goal

pub returns-then-root-next : goal.returns-then-root-next
returns-then-root-next c = listed-already c.args.rows.now c.requires.links c.args.next c.args.root c.if-root-next.true

pub loop-visit-init : goal.loop-visit-init
loop-visit-init c = rw (c.in_ok-push.ensures.items, c.new-stack.ensures.items) (walk-from c.args.rows.now c.requires.links c.args.next c.args.root c.if-root-next.false c.requires.low)

pub offset_bounds-rows-visit : goal.offset_bounds-rows-visit
offset_bounds-rows-visit c = let low : c.in-Some.visit.link < length c.args.rows.now = visit-low c.args.rows.now c.loop-visit.next _ _ _ c.in-Some.visit c.in-Some.ensures.items c.loop-visit.invariant in search rules

pub bounds-rows-visit : goal.bounds-rows-visit
bounds-rows-visit c = visit-low c.args.rows.now c.loop-visit.next _ _ _ c.in-Some.visit c.in-Some.ensures.items c.loop-visit.invariant

pub loop-visit-smaller-in-Continue-branch-3 : goal.loop-visit-smaller-in-Continue-branch-3
loop-visit-smaller-in-Continue-branch-3 c =
    (turn-enter c.args.rows.now c.loop-visit.next _ _ _ c.in-Some.visit c.index-rows-visit.result c.loop-visit.invariant c.requires.links _ c.in-Some-link_at.child
    (record { popped = c.in-Some.ensures.items; at = c.index-rows-visit.is; read = c.in-Some-link_at.ensures.link }) c.in_ok-push-in-Some-link_at.ensures.items _ c.in_ok-push-in-Some-link_at-2.ensures.items c.if-next-child.true).1

pub loop-visit-preserved-in-Continue-branch-3 : goal.loop-visit-preserved-in-Continue-branch-3
loop-visit-preserved-in-Continue-branch-3 c =
    (turn-enter c.args.rows.now c.loop-visit.next _ _ _ c.in-Some.visit c.index-rows-visit.result c.loop-visit.invariant c.requires.links _ c.in-Some-link_at.child
    (record { popped = c.in-Some.ensures.items; at = c.index-rows-visit.is; read = c.in-Some-link_at.ensures.link }) c.in_ok-push-in-Some-link_at.ensures.items _ c.in_ok-push-in-Some-link_at-2.ensures.items c.if-next-child.true).0

pub loop-visit-smaller-else-next-child : goal.loop-visit-smaller-else-next-child
loop-visit-smaller-else-next-child c =
    (turn-skip c.args.rows.now c.loop-visit.next _ _ _ c.in-Some.visit c.index-rows-visit.result c.loop-visit.invariant c.requires.links _ c.in-Some-link_at.child
    (record { popped = c.in-Some.ensures.items; at = c.index-rows-visit.is; read = c.in-Some-link_at.ensures.link }) c.in_ok-push-in-Some-link_at.ensures.items c.if-next-child.false).1

pub loop-visit-preserved-else-next-child : goal.loop-visit-preserved-else-next-child
loop-visit-preserved-else-next-child c =
    (turn-skip c.args.rows.now c.loop-visit.next _ _ _ c.in-Some.visit c.index-rows-visit.result c.loop-visit.invariant c.requires.links _ c.in-Some-link_at.child
    (record { popped = c.in-Some.ensures.items; at = c.index-rows-visit.is; read = c.in-Some-link_at.ensures.link }) c.in_ok-push-in-Some-link_at.ensures.items c.if-next-child.false).0

pub returns-then-visit-next : goal.returns-then-visit-next
returns-then-visit-next c =
    turn-stops c.args.rows.now c.loop-visit.next _ _ _ c.in-Some.visit c.index-rows-visit.result c.loop-visit.invariant (record { popped = c.in-Some.ensures.items; at = c.index-rows-visit.is; read = c.in-None.ensures.link }) c.if-visit-next.true

pub overflow_add-next : goal.overflow_add-next
overflow_add-next c = let low : c.in-Some.visit.link < length c.args.rows.now = visit-low c.args.rows.now c.loop-visit.next _ _ _ c.in-Some.visit c.in-Some.ensures.items c.loop-visit.invariant in search rules

pub loop-visit-smaller : goal.loop-visit-smaller
loop-visit-smaller c =
    (turn-list c.args.rows.now c.loop-visit.next _ _ _ c.in-Some.visit c.index-rows-visit.result c.loop-visit.invariant (record { popped = c.in-Some.ensures.items; at = c.index-rows-visit.is; read = c.in-None.ensures.link }) c.if-visit-next.false).1

pub loop-visit-preserved : goal.loop-visit-preserved
loop-visit-preserved c =
    (turn-list c.args.rows.now c.loop-visit.next _ _ _ c.in-Some.visit c.index-rows-visit.result c.loop-visit.invariant (record { popped = c.in-Some.ensures.items; at = c.index-rows-visit.is; read = c.in-None.ensures.link }) c.if-visit-next.false).0

pub returns : goal.returns
returns c = walk-done _ _ c.loop-visit.next _ c.loop-visit.stack.items (sym c.loop-visit.stack.ok.0 ∙ c.in_default.ensures.cases.0) c.loop-visit.invariant
