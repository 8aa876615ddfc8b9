use Rattle.std.proofs.Common.{subst, arith}
use Rattle.pool_check.specs.Counted.{CountsOn}
use Rattle.pool_check.proofs.OrderTest.{root-low, rows-back, order-stops, order-ends}
use Rattle.pool_check.proofs.order.rows_in_order.Goals as goal

pub next_after-requires-clause-low : goal.next_after-requires-clause-low
next_after-requires-clause-low c = root-low c.args.pool.now c.as_slice-rows.result.now _ c.as_slice-rows.ensures c.as_slice-root-items.ensures c.requires c.loop-root.root-index (omega arith)

pub next_after-requires-clause-links : goal.next_after-requires-clause-links
next_after-requires-clause-links c = rows-back c.args.pool.now c.as_slice-rows.result.now _ c.as_slice-rows.ensures c.as_slice-root-items.ensures c.requires

pub returns-in-None : goal.returns-in-None
returns-in-None c =
    order-stops c.args.pool.now c.as_slice-rows.result.now _ c.as_slice-rows.ensures c.as_slice-root-items.ensures c.loop-root.root-index c.loop-root.next c.loop-root.invariant (omega arith)
    (subst (CountsOn _) c.in-None.is c.in_ok-after.ensures)

pub returns : goal.returns
returns c =
    order-ends c.args.pool.now c.as_slice-rows.result.now _ c.as_slice-rows.ensures c.as_slice-root-items.ensures c.loop-root.root-index c.loop-root.next c.loop-root.invariant (omega arith)
