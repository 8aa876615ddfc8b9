-- Roots of a heap stand for a workspace where their pool does, and the inner rows below them keep their sums.
use Rattle.std.proofs.Common.{◌≡◌, ℕ, ◌<◌, List, IsSome, length, map, ap, sym, subst, ◌∙◌, arith}
use Rattle.std.specs.Prelude.{slice_index}
use Rattle.node_heap.specs.Links.{count, Reaches, here, below}
use Rattle.node_heap.specs.Forms.{Forms, links_in}
use Rattle.node_heap.specs.Heap.{Heap, row_at, form_at, links_at, IsGraph}
use Rattle.node_heap.proofs.Reach.{Reaches-by}
use Rattle.node_heap.proofs.Trees.{links_of-form}
use Rattle.rrb_core.specs.Seq.{IsWellShaped}
use Rattle.rrb_core.specs.Vector.{IsGoodVector, HaveSums}
use Rattle.pool_order.specs.Order.{order}
use Rattle.pool_text.specs.Rules.{present_rules}
use Rattle.pool_text.specs.Pool.{forms_in, place_in, settings_by, pool, pool_at}
use Rattle.pool_text.specs.Renaming.{IsRenamed, IsRooted}
use Rattle.pool_text.specs.declared.pool.Pool.{Pool}
use Rattle.pool_text.proofs.Held.{rooted-forms, texts-are-forms}
use Rattle.pool_text.proofs.Renamed.{map-found, map-back, count-map, renamed-below, renamed-links, renamed-link}
use Rattle.pool_text.proofs.Ordered.{pool-roots}
use Rattle.pool_text.proofs.PoolRows.{pool-back, place-back}
use Rattle.pool_check.proofs.VectorReadings.{vector-reads-the-same}
use Rattle.shell_terms.specs.Edit.{Bytes}
use Rattle.plain_space.specs.Workspace.{Workspace}
use Rattle.state_rows.specs.Standing.{StandFor, StandsFor, HeapStandsFor}
use Rattle.state_rows.proofs.HeapPools.{pool-bits}
use Rattle.state_rows.proofs.Renamed.{GoesOver, roots-over}

-- what a link reaches is reached under new links
reaches-renamed : {K : Type 0} (f : ℕ → ℕ) (G H : Forms K) (a b : ℕ) → Reaches (links_in G) a b → IsRenamed f G H a → Reaches (links_in H) (f a) (f b)
reaches-renamed f G H a b (here l) image = here (f l)
reaches-renamed f G H a b (below l k m has down) image =
    below (f l) (f k) (f m) (omega (arith, count-map f k (links_in G l) has, ap (count (f k)) (renamed-links f G H l image)))
    (reaches-renamed f G H k m down (renamed-link f G H l k image has))

module _ (h : Heap Bytes) (bits : ℕ) (roots : List ℕ) (W : Workspace) (graph : IsGraph h) (live : (r : ℕ) → 0 < count r roots → IsSome (row_at h r)) (sums : HaveSums h roots)
    (stands : StandsFor (pool_at (λ text. text) h roots (settings_by bits W.history)) W) where
  abbrev made : Pool
  made = pool (length h.rows) (form_at h) roots (settings_by bits W.history)

  abbrev listed : List ℕ
  listed = order (length h.rows) (links_in (form_at h)) roots

  rooted : IsRooted (length h.rows) (form_at h) roots
  rooted = rooted-forms h roots graph live

  -- a root's place goes over to the root
  place-over : (r : ℕ) → 0 < count r roots → GoesOver (slice_index listed) (forms_in made) (form_at h) (IsWellShaped (forms_in made)) (IsGoodVector h) (place_in listed r)
  place-over r root =
      let f : ℕ → ℕ = slice_index listed in
      let image : IsRenamed f (forms_in made) (form_at h) (place_in listed r) = pool-back (length h.rows) (form_at h) roots rooted (settings_by bits W.history) r r root (here r) in
      record {
        renamed = image;
        vectors = λ k down shaped.
            let reached : Reaches (links_in (form_at h)) (f (place_in listed r)) (f k) = reaches-renamed f (forms_in made) (form_at h) (place_in listed r) k down image in
            let from : Reaches (links_in (form_at h)) r (f k) = subst (λ a. Reaches (links_in (form_at h)) a (f k)) (place-back (length h.rows) (form_at h) roots rooted r r root (here r)) reached in
            record {
              shape = (vector-reads-the-same f (forms_in made) (form_at h) ℕ k (renamed-below f (forms_in made) (form_at h) (place_in listed r) k down image)).shaped shaped;
              sums = sums r (f k) root (Reaches-by (links_in (form_at h)) (links_at h) (λ j. sym (links_of-form (row_at h j))) r (f k) from);
            };
      }

  each-over : (p : ℕ) → 0 < count p made.roots → GoesOver (slice_index listed) (forms_in made) (form_at h) (IsWellShaped (forms_in made)) (IsGoodVector h) p
  each-over p some =
      let found = map-found (place_in listed) roots p (omega (arith, some, ap (count p) (pool-roots (length h.rows) (form_at h) roots rooted (settings_by bits W.history)))) in
      subst (λ q. GoesOver (slice_index listed) (forms_in made) (form_at h) (IsWellShaped (forms_in made)) (IsGoodVector h) q) found.2 (place-over found.0 found.1)

  pub roots-stand : HeapStandsFor h bits roots W
  roots-stand =
      let there : StandsFor made W = subst (λ (P : Pool). StandsFor P W) (texts-are-forms h roots (settings_by bits W.history)) stands in
      let by_bits : StandFor (forms_in made) (IsWellShaped (forms_in made)) bits made.roots W = subst (λ b. StandFor (forms_in made) (IsWellShaped (forms_in made)) b made.roots W) (pool-bits (length h.rows) (form_at h) roots bits W.history) there.0 in
      let back : map (slice_index listed) made.roots ≡ roots =
      ap (map (slice_index listed)) (pool-roots (length h.rows) (form_at h) roots rooted (settings_by bits W.history))
      ∙ map-back (place_in listed) (slice_index listed) roots (λ r root. place-back (length h.rows) (form_at h) roots rooted r r root (here r)) in
      subst (λ rs. StandFor (form_at h) (IsGoodVector h) bits rs W) back
      (roots-over (slice_index listed) (forms_in made) (form_at h) (IsWellShaped (forms_in made)) (IsGoodVector h) bits present_rules made.roots W each-over by_bits)
