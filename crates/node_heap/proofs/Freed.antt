-- What the slots say of a release.
use Rattle.std.proofs.Common.{◌≡◌, ◌⊎◌, ℕ, ◌+◌, ◌≤◌, List, get_or, refl, sym, ap, ◌∙◌, arith, Option, None, IsSome, inl, inr}
use Rattle.node_heap.specs.Links.{count, HasLink, Reaches, here, below, IsReached}
use Rattle.node_heap.specs.Forms.{links_of}
use Rattle.node_heap.specs.Layout.{rows_of_slots, holds_in, seen, Thins, cells_in, nodes_in}
use Rattle.node_heap.specs.Heap.{Heap, row_at, links_at, holds_at, one_at, IsGraph}
use Rattle.node_heap.specs.Calls.{Releases}
use Rattle.node_heap.specs.Layout.{Slot}
use Rattle.node_heap.proofs.Counts.{sum-more}
use Rattle.node_heap.proofs.Slots.{row_at-slots}
use Rattle.node_heap.proofs.Reach.{HasLink-same, Reaches-within}
use Rattle.node_heap.proofs.Stored.{}
use Rattle.node_heap.proofs.GraphLemmas.{rows-kinds}

module _ {T : Type 0} where
  abbrev pub Holds-less : List (Option (Slot T)) → List (Option (Slot T)) → ℕ → Type 0
  Holds-less old new place = (k : ℕ) → get_or (holds_in new) k 0 + one_at place k ≡ get_or (holds_in old) k 0

  pub Releases-slots : (old new : List (Option (Slot T))) (place a b a' b' m : ℕ) → IsGraph (seen new a' b' m) → Holds-less old new place → Thins old new → a' + cells_in new ≡ a + cells_in old → b' + nodes_in new ≡ b + nodes_in old → cells_in new ≤ cells_in old → nodes_in new ≤ nodes_in old → Releases (seen old a b m) (seen new a' b' m) place
  Releases-slots old new place a b a' b' m graph less thins cells nodes fewer_cells fewer_nodes = record {
    holds = less;
    count = sym (sum-more (holds_in new) (holds_in old) place (λ k. sym (less k)));
    stays = λ l. (up l, down l);
    same = same;
    cells = cells;
    nodes = nodes;
    fewer_cells = fewer_cells;
    fewer_nodes = fewer_nodes;
    fewer = omega (arith, rows-kinds (rows_of_slots new), rows-kinds (rows_of_slots old), fewer_cells, fewer_nodes);
    made = refl;
  }
    where
      h : Heap T
      h = seen old a b m

      h' : Heap T
      h' = seen new a' b' m

      either : (l : ℕ) → (row_at h' l ≡ None) ⊎ (row_at h' l ≡ row_at h l)
      either l = elim (thins l) as (λ _. (row_at h' l ≡ None) ⊎ (row_at h' l ≡ row_at h l)) [
        | inl gone ↦ inl (row_at-slots new l ∙ gone)
        | inr kept ↦ inr (row_at-slots new l ∙ kept ∙ sym (row_at-slots old l))
      ]

      same : (l : ℕ) → IsSome (row_at h' l) → row_at h' l ≡ row_at h l
      same l live = elim (either l) as (λ _. row_at h' l ≡ row_at h l) [ inl gone ↦ absurd cc | inr kept ↦ kept ]

      linked : (l k : ℕ) → HasLink (links_at h') l k → HasLink (links_at h) l k
      linked l k has = elim (either l) as (λ _. HasLink (links_at h) l k) [
        | inl gone ↦ absurd (omega (arith, ap (λ r. count k (links_of r)) gone, has))
        | inr kept ↦ omega (arith, ap (λ r. count k (links_of r)) kept, has)
      ]

      up : (l : ℕ) → IsSome (row_at h' l) → IsReached (holds_at h') (links_at h) l
      up l live = let reached = graph.reached l live in (reached.0, reached.1, Reaches-within (links_at h') (links_at h) linked reached.0 l reached.2)

      go : (k l : ℕ) → Reaches (links_at h) k l → IsSome (row_at h' k) → IsSome (row_at h' l)
      go a b (here l) live = live
      go a b (below l k m has rest) live = go k m rest (graph.closed l k (HasLink-same (links_at h) (links_at h') l k (ap links_of (same l live)) has))

      down : (l : ℕ) → IsReached (holds_at h') (links_at h) l → IsSome (row_at h' l)
      down l reached = go reached.0 l reached.2 (graph.held reached.0 reached.1)
