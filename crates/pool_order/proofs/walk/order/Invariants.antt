use Rattle.std.proofs.Common.{◌≡◌, length, take}
use Rattle.std.specs.List.{flat_map}
use Rattle.node_heap.specs.Heap.{links_at}
use Rattle.pool_order.specs.Order.{firsts, places}
use Rattle.pool_order.specs.Laws.{IsReady}
use Rattle.pool_order.proofs.walk.order.Given as goal

abbrev pub invariant-loop-root : goal.invariant-loop-root
invariant-loop-root g l =
    (l.seen.keys ≡ firsts (flat_map (places (length l.heap.rows) (links_at l.heap)) (take l.root-index l.roots))) × IsReady (links_at l.heap) l.seen.keys
