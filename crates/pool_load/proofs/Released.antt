-- Holds that are given up while every row stays.
use Rattle.std.proofs.Common.{◌≡◌, ℕ, ◌+◌, ◌<◌, ◌≤◌, cond, is_some, Option, Some, None, IsSome, List, [], ◌∷◌, ◌++◌, length, take, get_or, refl, ap, sym, ◌∙◌, arith}
use Rattle.std.proofs.lemmas.List.{take_more, length-take-le}
use Rattle.node_heap.specs.Links.{count}
use Rattle.node_heap.specs.Forms.{Row, links_of, is_cell, is_node}
use Rattle.node_heap.specs.Heap.{Heap, row_at, links_at, holds_at, cell_count, node_count, live_count, one_at, IsGraph}
use Rattle.node_heap.specs.Calls.{Releases}
use Rattle.node_heap.proofs.BuildLemmas.{count-one, count-append}
use Rattle.node_heap.proofs.Counts.{test_same, sum_by-same}
use Rattle.node_heap.proofs.Reach.{Reaches-by}
use Rattle.rrb_core.proofs.LinkCounts.{count-split}
use Rattle.pool_load.specs.Making.{GivesUp, AreReachedWithout}

-- the front with the next link
next : (links : List ℕ) (i link k : ℕ) → i < length links → link ≡ get_or links i link → count k (take (i + 1) links) ≡ count k (take i links) + one_at link k
next links i link k low is =
    let more : take (i + 1) links ≡ take i links ++ link ∷ [] = take_more links i link low ∙ ap (λ (x : ℕ). take i links ++ x ∷ []) (sym is) in
    omega (arith, ap (count k) more, count-append k (take i links) (link ∷ []), count-one k link)

module _ {T : Type 0} {old mid : Heap T} (links : List ℕ) (i link : ℕ) (up : GivesUp old mid (take i links)) (low : i < length links) (is : link ≡ get_or links i link) where
  -- a hold of the next link is left
  pub next-held : ((k : ℕ) → count k links ≤ holds_at old k) → 0 < holds_at mid link
  next-held held = omega (arith, held link, up.holds link, next links i link link low is, test_same link link refl, count-split link (i + 1) links)

  module _ {new : Heap T} (released : Releases mid new link) (graph : IsGraph new) (reached : AreReachedWithout old links) where
    holds-left : (k : ℕ) → holds_at new k + count k (take (i + 1) links) ≡ holds_at old k
    holds-left k = omega (arith, released.holds k, up.holds k, next links i link k low is)

    still-there : (k : ℕ) → IsSome (row_at old k) → IsSome (row_at new k)
    still-there k live =
        let from = reached k live in
        let held : 0 < holds_at new from.0 = omega (arith, from.1, holds-left from.0, count-split from.0 (i + 1) links) in
        (released.stays k).1 (from.0, held, Reaches-by (links_at old) (links_at mid) (λ l. ap links_of (up.rows l)) from.0 k from.2)

    same-row : (k : ℕ) → row_at new k ≡ row_at old k
    same-row k = by_old (row_at old k) refl
      where
        by_new : (r : Option (Row T)) → row_at new k ≡ r → row_at old k ≡ None → row_at new k ≡ row_at old k
        by_new None now was = now ∙ sym was
        by_new (Some x) now was = released.same k (rw now refl) ∙ up.rows k

        by_old : (r : Option (Row T)) → row_at old k ≡ r → row_at new k ≡ row_at old k
        by_old None was = by_new (row_at new k) refl was
        by_old (Some x) was = released.same k (still-there k (rw was refl)) ∙ up.rows k

    same-after : (k : ℕ) → row_at new k ≡ row_at mid k
    same-after k = same-row k ∙ sym (up.rows k)

    pub one-released : GivesUp old new (take (i + 1) links)
    one-released =
        let cells : cell_count new ≡ cell_count mid = sum_by-same is_cell None refl mid.rows new.rows same-after in
        let nodes : node_count new ≡ node_count mid = sum_by-same is_node None refl mid.rows new.rows same-after in
        let live : live_count new ≡ live_count mid = sum_by-same (λ r. cond (is_some r) 1 0) None refl mid.rows new.rows same-after in
        record {
          rows = same-row;
          holds = holds-left;
          count = omega (arith, released.count, up.count, many);
          cells = cells ∙ up.cells;
          nodes = nodes ∙ up.nodes;
          live = live ∙ up.live;
          made = released.made ∙ up.made;
          spare_cells = omega (arith, released.cells, cells, up.spare_cells);
          spare_nodes = omega (arith, released.nodes, nodes, up.spare_nodes);
          graph = graph;
        }
      where
        many : length (take (i + 1) links) ≡ length (take i links) + 1
        many = omega (arith, length-take-le (i + 1) links (omega (arith, low)), length-take-le i links (omega (arith, low)))
