use Rattle.std.proofs.Common.{◌<◌, length, subst, ap, sym, ◌∙◌, arith}
use Rattle.std.specs.List.{flat_map}
use Rattle.node_heap.specs.Links.{count}
use Rattle.node_heap.specs.Heap.{links_at}
use Rattle.pool_order.specs.Order.{firsts, places, order}
use Rattle.pool_order.specs.Laws.{IsReady, IsOrder}
use Rattle.pool_order.proofs.Places.{ready-places, order-is}
use Rattle.pool_order.proofs.Grounded.{grounded}
use Rattle.pool_order.proofs.Walked.{firsts-more, count-get_or, item_is, take_all}
use Rattle.pool_order.proofs.walk.order.Goals as goal

pub loop-root-preserved : goal.loop-root-preserved
loop-root-preserved g c =
    let ground = grounded c.args.heap.now c.rows_form_a_graph.ensures in
    let low : c.loop-root.root-index < length c.args.roots.now = omega arith in
    let live = c.requires.live c.root-item.result (subst (λ r. 0 < count r c.args.roots.now) (sym (item_is c.args.roots.now c.loop-root.root-index c.root-item.result low c.root-item.is)) (count-get_or c.args.roots.now c.loop-root.root-index low)) in (
      firsts-more _ c.loop-root.seen.keys _ c.loop-root.root-index c.root-item.result c.args.roots.now c.loop-root.invariant.0 low c.root-item.is c.in_ok-walk.ensures,
      subst (IsReady (links_at c.args.heap.now)) (sym c.in_ok-walk.ensures) (ready-places ground.rank _ ground.falls _ c.root-item.result (ground.low c.root-item.result live) _ c.loop-root.invariant.1),
    )

pub returns-clause-value : goal.returns-clause-value
unfolding order
returns-clause-value g c = c.loop-root.invariant.0 ∙ ap (λ xs. firsts (flat_map (places (length c.args.heap.now.rows) (links_at c.args.heap.now)) xs)) (take_all c.args.roots.now c.loop-root.root-index (omega arith))

pub returns-clause-is_order : goal.returns-clause-is_order
unfolding order
returns-clause-is_order g c =
    let ground = grounded c.args.heap.now c.rows_form_a_graph.ensures in
    subst (IsOrder (links_at c.args.heap.now) c.args.roots.now) (sym (c.loop-root.invariant.0 ∙ ap (λ xs. firsts (flat_map (places (length c.args.heap.now.rows) (links_at c.args.heap.now)) xs)) (take_all c.args.roots.now c.loop-root.root-index (omega arith))))
    (order-is ground.rank _ ground.falls (length c.args.heap.now.rows) c.args.roots.now (λ r root. ground.low r (c.requires.live r root)))
