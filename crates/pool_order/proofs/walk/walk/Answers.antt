use Rattle.std.proofs.Common.{◌<◌, length, sym, ◌∙◌, arith}
use Rattle.node_heap.specs.Heap.{links_at}
use Rattle.pool_order.specs.Order.{places, with_all_new}
use Rattle.pool_order.specs.Laws.{IsReady}
use Rattle.pool_order.proofs.Pending.{steps_left}
use Rattle.pool_order.proofs.Firsts.{count-from_any}
use Rattle.pool_order.proofs.Places.{ready-places}
use Rattle.pool_order.proofs.Grounded.{grounded}
use Rattle.pool_order.proofs.Walked.{walk-start, walk-done, walk-list, steps-list, live-last, turn-skip, turn-enter, turn-skip-steps, turn-enter-steps}
use Rattle.pool_order.proofs.walk.walk.Goals as goal

pub loop-visit-init : goal.loop-visit-init
loop-visit-init g c =
    rw (c.in_ok-push.ensures.items, c.new-stack.ensures.items) (walk-start _ _ _ (grounded c.args.heap.now c.requires.graph) _ _ c.requires.live)

pub links-links-requires : goal.links-links-requires
links-links-requires g c =
    (live-last _ _ _ (grounded c.args.heap.now c.requires.graph) c.pop.new.self.items c.in-Some.visit (rw c.in-Some.ensures.items at c.loop-visit.invariant.live)).1

pub loop-visit-smaller-in-Continue-branch-3 : goal.loop-visit-smaller-in-Continue-branch-3
loop-visit-smaller-in-Continue-branch-3 g c =
    turn-enter-steps _ _ _ (grounded c.args.heap.now c.requires.graph) _ _ _ _ c.in-Some.visit c.links-links.result.now c.index-links-visit.result
    (record { popped = c.in-Some.ensures.items; pushed = c.in_ok-push-2.ensures.items; linked = c.links-links.ensures.links; is = c.index-links-visit.is; low = omega arith })
    c.in_ok-push-3.ensures.items

pub loop-visit-preserved-in-Continue-branch-3 : goal.loop-visit-preserved-in-Continue-branch-3
loop-visit-preserved-in-Continue-branch-3 g c =
    turn-enter _ _ _ (grounded c.args.heap.now c.requires.graph) _ _ _ _ _ _ c.in-Some.visit c.links-links.result.now c.index-links-visit.result
    (record { popped = c.in-Some.ensures.items; pushed = c.in_ok-push-2.ensures.items; linked = c.links-links.ensures.links; is = c.index-links-visit.is; low = omega arith })
    c.in_ok-push-3.ensures.items c.loop-visit.invariant

pub loop-visit-smaller-else-not-contains : goal.loop-visit-smaller-else-not-contains
loop-visit-smaller-else-not-contains g c =
    turn-skip-steps _ _ _ (grounded c.args.heap.now c.requires.graph) _ _ _ c.in-Some.visit c.links-links.result.now c.index-links-visit.result
    (record { popped = c.in-Some.ensures.items; pushed = c.in_ok-push-2.ensures.items; linked = c.links-links.ensures.links; is = c.index-links-visit.is; low = omega arith })

pub loop-visit-preserved-else-not-contains : goal.loop-visit-preserved-else-not-contains
loop-visit-preserved-else-not-contains g c =
    let ground = grounded c.args.heap.now c.requires.graph in
    let ready : IsReady (links_at c.args.heap.now) (with_all_new c.args.seen.now.keys (places (length c.args.heap.now.rows) (links_at c.args.heap.now) c.args.root)) =
    ready-places ground.rank _ ground.falls _ c.args.root (ground.low c.args.root c.requires.live) _ c.requires.ready in
    turn-skip _ _ _ ground _ _ ready _ _ _ c.in-Some.visit c.links-links.result.now c.index-links-visit.result
    (record { popped = c.in-Some.ensures.items; pushed = c.in_ok-push-2.ensures.items; linked = c.links-links.ensures.links; is = c.index-links-visit.is; low = omega arith })
    c.loop-visit.invariant (count-from_any c.index-links-visit.result c.loop-visit.seen.keys c.if-not-contains.ensures)

pub loop-visit-smaller : goal.loop-visit-smaller
loop-visit-smaller g c =
    let h : steps_left (length c.args.heap.now.rows) (links_at c.args.heap.now) c.pop.new.self.items < steps_left (length c.args.heap.now.rows) (links_at c.args.heap.now) c.loop-visit.stack.items =
    rw c.in-Some.ensures.items (steps-list _ _ _ (grounded c.args.heap.now c.requires.graph) c.pop.new.self.items c.in-Some.visit) in
    h

pub loop-visit-preserved : goal.loop-visit-preserved
loop-visit-preserved g c =
    rw c.in_ok-insert.ensures.keys (walk-list _ _ _ (grounded c.args.heap.now c.requires.graph) c.loop-visit.seen.keys _ c.pop.new.self.items c.in-Some.visit (rw c.in-Some.ensures.items at c.loop-visit.invariant) (rw (← c.links-links.ensures.links) c.if-visit-links.false))

pub returns : goal.returns
returns g c = walk-done _ _ _ (grounded c.args.heap.now c.requires.graph) c.loop-visit.seen.keys _ c.loop-visit.stack.items c.loop-visit.invariant (sym c.loop-visit.stack.ok.0 ∙ c.in_default.ensures.cases.0)
