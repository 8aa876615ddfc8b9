-- What follows of a heap's graph, and of any list of rows.
use Rattle.std.proofs.Common.{◌≡◌, ℕ, zero, suc, ◌+◌, ◌<◌, List, [], ◌∷◌, get_or, refl, arith, Option, Some, None, IsSome, is_some, count_by, cond}
use Rattle.std.specs.Prelude.{sum_by}
use Rattle.std.proofs.lemmas.List.Sums.{sum_by-cons}
use Rattle.node_heap.specs.Links.{count, Reaches, here, below, IsAcyclic}
use Rattle.node_heap.specs.Forms.{Row, cell, node, links_of, is_cell, is_node}
use Rattle.node_heap.specs.Heap.{Heap, row_at, links_at, owners_at, places_in, live_count, cell_count, node_count, IsGraph}
use Rattle.node_heap.proofs.Reach.{acyclic-ranked}

module _ {T : Type 0} where
  -- 1 where there is a row, and else 0
  abbrev one : Option (Row T) → ℕ
  one r = cond (is_some r) 1 0

  -- each row is a cell or a node
  pub rows-kinds : (rows : List (Option (Row T))) → count_by is_some rows ≡ sum_by is_cell rows + sum_by is_node rows
  rows-kinds [] = refl
  rows-kinds (r ∷ rs) = omega (arith, rows-kinds rs, at_one r, sum_by-cons one r rs, sum_by-cons is_cell r rs, sum_by-cons is_node r rs)
    where
      at_one : (r : Option (Row T)) → one r ≡ is_cell r + is_node r
      at_one None = refl
      at_one (Some (cell x)) = refl
      at_one (Some (node head links)) = refl

  pub IsGraph-kinds : (h : Heap T) → live_count h ≡ cell_count h + node_count h
  IsGraph-kinds h = rows-kinds h.rows

  -- no row reaches itself by way of a link below it
  pub IsGraph-acyclic : (h : Heap T) → IsGraph h → IsAcyclic (links_at h)
  IsGraph-acyclic h graph = acyclic-ranked (links_at h) graph.rank graph.falls

  -- what a row has, counts among all places
  pub linked-places : (rows : List (Option (Row T))) (l k : ℕ) → 0 < count k (links_of (get_or rows l None)) → 0 < places_in rows k
  linked-places [] l k has = absurd (omega (arith, has))
  linked-places (r ∷ rs) zero k has = omega (arith, has, sum_by-cons (λ o. count k (links_of o)) r rs)
  linked-places (r ∷ rs) (suc l) k has = omega (arith, linked-places rs l k has, sum_by-cons (λ o. count k (links_of o)) r rs)

  -- what a held link reaches has an owner: a hold, or the place by which it is reached
  pub IsGraph-owned : (h : Heap T) → IsGraph h → (l : ℕ) → IsSome (row_at h l) → 0 < owners_at h l
  IsGraph-owned h graph l live = let up = graph.reached l live in by_way up.0 l up.2 (omega (arith, up.1))
    where
      by_way : (k l : ℕ) → Reaches (links_at h) k l → 0 < owners_at h k → 0 < owners_at h l
      by_way a b (here k) owned = owned
      by_way a b (below k m l has down) owned = by_way m l down (omega (arith, linked-places h.rows k m has))
