use Rattle.std.proofs.Common.{ℕ, ◌<◌, length, get_or, subst, ap, sym, ◌∙◌, arith}
use Rattle.std.specs.List.{flat_map}
use Rattle.pool_order.specs.Order.{firsts, places, order}
use Rattle.pool_order.specs.Laws.{IsReady}
use Rattle.pool_order.proofs.Places.{ready-places}
use Rattle.pool_order.proofs.Walked.{firsts-more, get_or-default, count-get_or, take_all}
use Rattle.pool_text.specs.Pool.{links_from}
use Rattle.pool_text.proofs.ListWalk.{ground}
use Rattle.pool_text.proofs.from_rows.list_rows.Goals as goal

pub walk-requires-clause-root : goal.walk-requires-clause-root
walk-requires-clause-root c = c.requires.roots (get_or c.args.roots.now c.loop-root.root-index 0) (count-get_or c.args.roots.now c.loop-root.root-index (omega arith))

pub loop-root-preserved : goal.loop-root-preserved
loop-root-preserved c =
    let grounded = ground c.args.rows.now c.requires.linked in
    let root : ℕ = get_or c.args.roots.now c.loop-root.root-index 0 in
    let low : c.loop-root.root-index < length c.args.roots.now = omega arith in
    let there = c.requires.roots root (count-get_or c.args.roots.now c.loop-root.root-index low) in (
      firsts-more _ c.loop-root.listed.rows.items _ c.loop-root.root-index root c.args.roots.now c.loop-root.invariant.0 low (get_or-default c.args.roots.now c.loop-root.root-index 0 root low) c.in_ok-walk.ensures.rows,
      subst (IsReady (links_from c.args.rows.now)) (sym c.in_ok-walk.ensures.rows) (ready-places grounded.rank _ grounded.falls _ root (grounded.low root there) _ c.loop-root.invariant.1),
      c.in_ok-walk.ensures.places,
    )

pub returns-clause-rows : goal.returns-clause-rows
unfolding order
returns-clause-rows c = c.loop-root.invariant.0 ∙ ap (λ xs. firsts (flat_map (places (length c.args.rows.now) (links_from c.args.rows.now)) xs)) (take_all c.args.roots.now c.loop-root.root-index (omega arith))
