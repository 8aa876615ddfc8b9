-- The order of a heap before and after a call.
use Rattle.std.proofs.Common.{◌≡◌, ℕ, ◌+◌, ◌<◌, List, length, IsSome, ap, subst, sym, ◌∙◌, arith}
use Rattle.node_heap.specs.Links.{count, here}
use Rattle.node_heap.specs.Forms.{links_of}
use Rattle.node_heap.specs.Heap.{Heap, row_at, links_at, IsGraph}
use Rattle.node_heap.specs.Calls.{KeepsBelow}
use Rattle.pool_order.specs.Order.{order, order_of}
use Rattle.pool_order.proofs.Places.{order-deep, order-same}
use Rattle.pool_order.proofs.Grounded.{grounded}

module _ {T : Type 0} where
  -- a depth past the number of places gives the order too
  order_of-deeper : (h : Heap T) (roots : List ℕ) (more : ℕ) → IsGraph h → ((r : ℕ) → 0 < count r roots → IsSome (row_at h r)) → order_of h roots ≡ order (length h.rows + more) (links_at h) roots
  order_of-deeper h roots more graph live =
      let ground = grounded h graph in
      order-deep ground.rank (links_at h) ground.falls (length h.rows) (length h.rows + more) roots (λ r root. ground.low r (live r root)) (λ r root. omega (arith, ground.low r (live r root)))

  pub order-stays : (old new : Heap T) (roots : List ℕ) → IsGraph old → IsGraph new → ((r : ℕ) → 0 < count r roots → IsSome (row_at old r)) → ((r : ℕ) → 0 < count r roots → KeepsBelow old new r) → order_of new roots ≡ order_of old roots
  order-stays old new roots graph graph' live keeps =
      let live' : (r : ℕ) → 0 < count r roots → IsSome (row_at new r) = λ r root. subst IsSome (sym (keeps r root r (here r))) (live r root) in
      let turn : length new.rows + length old.rows ≡ length old.rows + length new.rows = omega arith in
      order_of-deeper new roots (length old.rows) graph' live'
      ∙ ap (λ n. order n (links_at new) roots) turn
      ∙ order-same (length old.rows + length new.rows) (links_at old) (links_at new) roots (λ r root m down. ap links_of (keeps r root m down))
      ∙ sym (order_of-deeper old roots (length new.rows) graph live)
