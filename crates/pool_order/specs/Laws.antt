-- Laws of the order.
use Rattle.std.specs.Prelude.{◌≡◌, ℕ, ◌<◌, ◌≤◌, length, take, slice_index, List, [], fold, IsSome}
use Rattle.node_heap.specs.Links.{Links, count, HasLink, Reaches, LeadsDown, SameBelow}
use Rattle.node_heap.specs.Heap.{Heap, row_at, IsGraph}
use Rattle.node_heap.specs.Calls.{KeepsBelow}
use Rattle.pool_order.specs.Order.{order, order_of, listed}

-- the links of each listed row stand before it
abbrev pub IsReady : Links → List ℕ → Type 0
IsReady L ks = (i : ℕ) → i < length ks → (k : ℕ) → HasLink L (slice_index ks i) k → 0 < count k (take i ks)

-- no link twice, exactly what the roots reach, and each link before the rows that have it
pub record IsOrder (L : Links) (roots ks : List ℕ) : Type 0 where
  pub once : (k : ℕ) → count k ks ≤ 1
  pub reached : (k : ℕ) → 0 < count k ks → (r : ℕ) × (0 < count r roots) × Reaches L r k
  pub all : (r k : ℕ) → 0 < count r roots → Reaches L r k → 0 < count k ks
  pub ready : IsReady L ks

-- each link names one of the first n rows, of a lower rank
pub record AreLinkedBelow (n : ℕ) (L : Links) : Type 0 where
  pub rank : ℕ → ℕ
  pub falls : LeadsDown rank L
  pub inside : (l k : ℕ) → HasLink L l k → k < n

-- the roots have ranks below n
abbrev pub HaveRanksBelow : (ℕ → ℕ) → ℕ → List ℕ → Type 0
HaveRanksBelow rank n roots = (r : ℕ) → 0 < count r roots → rank r < n

-- an order that goes deep enough has no link twice, exactly what the roots reach, and each link before the rows that have it
abbrev pub OrdersReached : Type 0
OrdersReached = (n : ℕ) (L : Links) (roots : List ℕ) (rank : ℕ → ℕ) → LeadsDown rank L → HaveRanksBelow rank n roots → IsOrder L roots (order n L roots)

-- two depths that are both enough give one order
abbrev pub NeedsNoDepth : Type 0
NeedsNoDepth = (n m : ℕ) (L : Links) (roots : List ℕ) (rank : ℕ → ℕ) → LeadsDown rank L → HaveRanksBelow rank n roots → HaveRanksBelow rank m roots → order n L roots ≡ order m L roots

-- the order depends on the links alone of the rows that the roots reach
abbrev pub FollowsReached : Type 0
FollowsReached = (n : ℕ) (L M : Links) (roots : List ℕ) → ((r : ℕ) → 0 < count r roots → SameBelow L L M r) → order n M roots ≡ order n L roots

-- the order is what a walk lists that enters no row twice
abbrev pub EntersRowsOnce : Type 0
EntersRowsOnce = (n : ℕ) (L : Links) (roots : List ℕ) (rank : ℕ → ℕ) → LeadsDown rank L → HaveRanksBelow rank n roots → order n L roots ≡ fold (listed n L) [] roots

-- the order of a heap stays where all that the roots reach stays
abbrev pub OrderStays : Type 0 → Type 0
OrderStays T = (old new : Heap T) (roots : List ℕ) → IsGraph old → IsGraph new → ((r : ℕ) → 0 < count r roots → IsSome (row_at old r)) → ((r : ℕ) → 0 < count r roots → KeepsBelow old new r) → order_of new roots ≡ order_of old roots
