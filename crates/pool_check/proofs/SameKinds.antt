-- The tests of the roots' kinds and of the length of undo under other links, and the facts of rows.
use Rattle.std.proofs.Common.{◌≡◌, ℕ, zero, suc, ◌<◌, ◌≤◌, Bool, true, ◌||◌, List, [], ◌∷◌, map, Option, Some, None, option_map, refl, ap, sym, ◌∙◌, arith}
use Rattle.std.specs.Prelude.{nat_le}
use Rattle.std.specs.List.{list_all, filter_map, cons_option}
use Rattle.std.proofs.lemmas.List.{length-map}
use Rattle.std.proofs.lemmas.List.Folds.{list_all-map}
use Rattle.elem_core.specs.Naming.{is_name}
use Rattle.node_heap.specs.Links.{count, Reaches, here, below, LeadsDown}
use Rattle.node_heap.specs.Forms.{Form, Forms, cell, node, leaf, inner, trie, chain, pair, state, links_of, links_in}
use Rattle.node_heap.proofs.Counts.{test_same, count-cons}
use Rattle.rrb_core.specs.Seq.{height_in}
use Rattle.champ_chain.specs.Entry.{Entry, entry, key_at}
use Rattle.champ_trie.specs.Walk.{rows_from, entries_of}
use Rattle.pool_text.specs.Rows.{Bytes}
use Rattle.pool_text.specs.Pool.{relink}
use Rattle.pool_text.specs.Renaming.{IsRenamed}
use Rattle.pool_text.proofs.Renamed.{renamed-links, renamed-link, renamed-below}
use Rattle.pool_check.specs.Readings.{moved}
use Rattle.pool_check.specs.Vectors.{length_at}
use Rattle.pool_check.specs.Tries.{entry_at, entries_below}
use Rattle.pool_check.specs.Kinds.{both_pass, is_vector_root, is_trie_root, is_pair_of, is_state_of, is_cell_of, elements_pass, is_vector_of, is_trie_of, is_any_cell, is_name_cell, is_lines_vector, is_buffer_map, is_stars_set, is_state, is_versions_map, is_history, are_roots, undo_is_within}
use Rattle.pool_check.specs.Facts.{are_elements, are_entries, is_cell_pair, is_lines_pair, is_named_lines, is_named_state, facts_at}
use Rattle.pool_check.proofs.TrieReadings.{trie-reads-the-same}
use Rattle.pool_check.proofs.VectorReadings.{all-at, vector-reads-the-same}
use Rattle.pool_check.proofs.SameVectors.{and-same, map-passes, length-same}
use Rattle.pool_check.proofs.SameTries.{below-moved, link-falls}
use Rattle.pool_check.proofs.RootLemmas.{roots-one_by_one}

module _ (f : ℕ → ℕ) where
  cell-same : (p : Bytes → Bool) (r : Option (Form Bytes)) → is_cell_of p (option_map (relink f) r) ≡ is_cell_of p r
  cell-same p None = refl
  cell-same p (Some (cell x)) = refl
  cell-same p (Some (node k ks)) = refl

  vector-root-same : (r : Option (Form Bytes)) → is_vector_root (option_map (relink f) r) ≡ is_vector_root r
  vector-root-same None = refl
  vector-root-same (Some (cell x)) = refl
  vector-root-same (Some (node leaf ks)) = refl
  vector-root-same (Some (node (inner h) ks)) = ap (nat_le 2) (length-map ks f)
  vector-root-same (Some (node (trie d e m) ks)) = refl
  vector-root-same (Some (node chain ks)) = refl
  vector-root-same (Some (node pair ks)) = refl
  vector-root-same (Some (node state ks)) = refl

  trie-root-same : (r : Option (Form Bytes)) → is_trie_root (option_map (relink f) r) ≡ is_trie_root r
  trie-root-same None = refl
  trie-root-same (Some (cell x)) = refl
  trie-root-same (Some (node leaf ks)) = refl
  trie-root-same (Some (node (inner h) ks)) = refl
  trie-root-same (Some (node (trie d e m) ks)) = refl
  trie-root-same (Some (node chain ks)) = refl
  trie-root-same (Some (node pair ks)) = refl
  trie-root-same (Some (node state ks)) = refl

  both-same : (p p' q q' : ℕ → Bool) (ks : List ℕ) → ((k : ℕ) → 0 < count k ks → (p' (f k) ≡ p k) × (q' (f k) ≡ q k)) → both_pass p' q' (map f ks) ≡ both_pass p q ks
  both-same p p' q q' [] each = refl
  both-same p p' q q' (k ∷ []) each = refl
  both-same p p' q q' (k ∷ j ∷ []) each =
      and-same (p' (f k)) (q' (f j)) (p k) (q j) (each k (omega (arith, count-cons k k (j ∷ []), test_same k k refl))).0
      (each j (omega (arith, count-cons j k (j ∷ []), count-cons j j [], test_same j j refl))).1
  both-same p p' q q' (k ∷ j ∷ i ∷ ks) each = refl

  pair-same : (p p' q q' : ℕ → Bool) (r : Option (Form Bytes)) → ((k : ℕ) → 0 < count k (links_of r) → (p' (f k) ≡ p k) × (q' (f k) ≡ q k)) → is_pair_of p' q' (option_map (relink f) r) ≡ is_pair_of p q r
  pair-same p p' q q' None each = refl
  pair-same p p' q q' (Some (cell x)) each = refl
  pair-same p p' q q' (Some (node leaf ks)) each = refl
  pair-same p p' q q' (Some (node (inner h) ks)) each = refl
  pair-same p p' q q' (Some (node (trie d e m) ks)) each = refl
  pair-same p p' q q' (Some (node chain ks)) each = refl
  pair-same p p' q q' (Some (node pair ks)) each = both-same p p' q q' ks each
  pair-same p p' q q' (Some (node state ks)) each = refl

  state-same-of : (p p' q q' : ℕ → Bool) (r : Option (Form Bytes)) → ((k : ℕ) → 0 < count k (links_of r) → (p' (f k) ≡ p k) × (q' (f k) ≡ q k)) → is_state_of p' q' (option_map (relink f) r) ≡ is_state_of p q r
  state-same-of p p' q q' None each = refl
  state-same-of p p' q q' (Some (cell x)) each = refl
  state-same-of p p' q q' (Some (node leaf ks)) each = refl
  state-same-of p p' q q' (Some (node (inner h) ks)) each = refl
  state-same-of p p' q q' (Some (node (trie d e m) ks)) each = refl
  state-same-of p p' q q' (Some (node chain ks)) each = refl
  state-same-of p p' q q' (Some (node pair ks)) each = refl
  state-same-of p p' q q' (Some (node state ks)) each = both-same p p' q q' ks each

  module _ (G H : Forms Bytes) where
    elements-same : (t t' : ℕ → Bool) (h l : ℕ) → IsRenamed f G H l → ((k : ℕ) → Reaches (links_in G) l k → t' (f k) ≡ t k) → elements_pass H t' h (f l) ≡ elements_pass G t h l
    unfolding elements_pass
    elements-same t t' zero l image each = ap (list_all t') (renamed-links f G H l image) ∙ map-passes t' t f (links_in G l) (λ k some. each k (below l k k some (here k)))
    elements-same t t' (suc h) l image each =
        ap (list_all (elements_pass H t' h)) (renamed-links f G H l image)
        ∙ map-passes (elements_pass H t' h) (elements_pass G t h) f (links_in G l) (λ k some. elements-same t t' h k (renamed-link f G H l k image some) (λ j down. each j (below l k j some down)))

    height-same : (l : ℕ) → IsRenamed f G H l → height_in H (f l) ≡ height_in G l
    height-same l image = (vector-reads-the-same f G H ℕ l image).height

    vector-same : (t t' : ℕ → Bool) (l : ℕ) → IsRenamed f G H l → ((k : ℕ) → Reaches (links_in G) l k → t' (f k) ≡ t k) → is_vector_of H t' (f l) ≡ is_vector_of G t l
    vector-same t t' l image each =
        and-same (is_vector_root (H (f l))) (elements_pass H t' (height_in H (f l)) (f l)) (is_vector_root (G l)) (elements_pass G t (height_in G l) l)
        (ap is_vector_root (image l (here l)) ∙ vector-root-same (G l))
        (ap (λ h. elements_pass H t' h (f l)) (height-same l image) ∙ elements-same t t' (height_in G l) l image each)

    entries-test : (t t' : ℕ → Bool) (ks : List ℕ) → ((k : ℕ) → 0 < count k ks → t' (f k) ≡ t k)
        → list_all (λ (e : Entry Bytes). t' (f e.link)) (filter_map (entry_at G) ks) ≡ list_all (λ (e : Entry Bytes). t e.link) (filter_map (entry_at G) ks)
    entries-test t t' [] each = refl
    entries-test t t' (k ∷ ks) each =
        by_key (key_at G k) (filter_map (entry_at G) ks) (each k (omega (arith, count-cons k k ks, test_same k k refl))) (entries-test t t' ks (λ j some. each j (omega (arith, count-cons j k ks, some))))
      where
        by_key : (o : Option Bytes) (es : List (Entry Bytes)) → t' (f k) ≡ t k → list_all (λ (e : Entry Bytes). t' (f e.link)) es ≡ list_all (λ (e : Entry Bytes). t e.link) es
            → list_all (λ (e : Entry Bytes). t' (f e.link)) (cons_option (option_map (λ key. entry key k) o) es) ≡ list_all (λ (e : Entry Bytes). t e.link) (cons_option (option_map (λ key. entry key k) o) es)
        by_key None es at rest = rest
        by_key (Some key) es at rest = and-same (t' (f k)) (list_all (λ (e : Entry Bytes). t' (f e.link)) es) (t k) (list_all (λ (e : Entry Bytes). t e.link) es) at rest

    module _ (falls : LeadsDown (λ l. l) (links_in G)) (falls' : LeadsDown (λ l. l) (links_in H)) where
      -- what is reached is lower on both sides
      reached-low : (l k : ℕ) → Reaches (links_in G) l k → IsRenamed f G H l → (k ≤ l) × (f k ≤ f l)
      reached-low a b (here l) image = (omega arith, omega arith)
      reached-low a b (below l j k has down) image =
          let rest = reached-low j k down (renamed-link f G H l j image has) in
          (omega (arith, rest.0, falls l j has), omega (arith, rest.1, link-falls f G H falls falls' l j image has))

      module _ (n m : ℕ) where
        -- a link is renamed, and both are low
        pub record IsAt (l : ℕ) : Type 0 where
          pub image : IsRenamed f G H l
          pub low : l < n
          pub low' : f l < m

        at-reached : (l k : ℕ) → IsAt l → Reaches (links_in G) l k → IsAt k
        at-reached l k at down =
            let lows = reached-low l k down at.image in
            record { image = renamed-below f G H l k down at.image; low = omega (arith, lows.0, at.low); low' = omega (arith, lows.1, at.low') }

        at-link : (l k : ℕ) → IsAt l → 0 < count k (links_of (G l)) → IsAt k
        at-link l k at some = at-reached l k at (below l k k some (here k))

        -- a test of each entry below a row
        below-test : (t t' : ℕ → Bool) (l : ℕ) → IsAt l → ((k : ℕ) → IsAt k → t' (f k) ≡ t k)
            → list_all (λ (e : Entry Bytes). t' e.link) (entries_below m H (f l)) ≡ list_all (λ (e : Entry Bytes). t e.link) (entries_below n G l)
        unfolding entries_below
        below-test t t' l at each =
            let r = trie-reads-the-same f G H l at.image ℕ in
            let ks : List ℕ = entries_of G (rows_from n G l) in
            ap (list_all (λ (e : Entry Bytes). t' e.link)) (below-moved f G H falls falls' n m l at.image at.low at.low')
            ∙ list_all-map (λ (e : Entry Bytes). t' e.link) (moved f) (entries_below n G l)
            ∙ entries-test t t' ks (λ k some. each k (at-reached l k at (all-at (λ j. Reaches (links_in G) l j) ks (r.reached n) k some)))

        trie-same : (t t' : ℕ → Bool) (l : ℕ) → IsAt l → ((k : ℕ) → IsAt k → t' (f k) ≡ t k) → is_trie_of m H t' (f l) ≡ is_trie_of n G t l
        trie-same t t' l at each =
            and-same (is_trie_root (H (f l))) (list_all (λ (e : Entry Bytes). t' e.link) (entries_below m H (f l))) (is_trie_root (G l)) (list_all (λ (e : Entry Bytes). t e.link) (entries_below n G l))
            (ap is_trie_root (at.image l (here l)) ∙ trie-root-same (G l)) (below-test t t' l at each)

        any-same : (l : ℕ) → IsAt l → is_any_cell m H (f l) ≡ is_any_cell n G l
        any-same l at = ap (is_cell_of (λ _. true)) (at.image l (here l)) ∙ cell-same (λ _. true) (G l)

        name-same : (l : ℕ) → IsAt l → is_name_cell m H (f l) ≡ is_name_cell n G l
        name-same l at = ap (is_cell_of is_name) (at.image l (here l)) ∙ cell-same is_name (G l)

        lines-same : (l : ℕ) → IsAt l → is_lines_vector m H (f l) ≡ is_lines_vector n G l
        lines-same l at =
            vector-same (λ k. is_cell_of (λ _. true) (G k)) (λ k. is_cell_of (λ _. true) (H k)) l at.image
            (λ k down. ap (is_cell_of (λ _. true)) (at.image k down) ∙ cell-same (λ _. true) (G k))

        buffers-same : (l : ℕ) → IsAt l → is_buffer_map m H (f l) ≡ is_buffer_map n G l
        buffers-same l at =
            trie-same (λ e. is_pair_of (is_name_cell n G) (is_lines_vector n G) (G e)) (λ e. is_pair_of (is_name_cell m H) (is_lines_vector m H) (H e)) l at
            (λ k at_k.
            ap (is_pair_of (is_name_cell m H) (is_lines_vector m H)) (at_k.image k (here k))
            ∙ pair-same (is_name_cell n G) (is_name_cell m H) (is_lines_vector n G) (is_lines_vector m H) (G k) (λ j some. (name-same j (at-link k j at_k some), lines-same j (at-link k j at_k some))))

        stars-same : (l : ℕ) → IsAt l → is_stars_set m H (f l) ≡ is_stars_set n G l
        stars-same l at = trie-same (is_name_cell n G) (is_name_cell m H) l at name-same

        pub state-same : (l : ℕ) → IsAt l → is_state m H (f l) ≡ is_state n G l
        state-same l at =
            ap (is_state_of (is_buffer_map m H) (is_stars_set m H)) (at.image l (here l))
            ∙ state-same-of (is_buffer_map n G) (is_buffer_map m H) (is_stars_set n G) (is_stars_set m H) (G l) (λ j some. (buffers-same j (at-link l j at some), stars-same j (at-link l j at some)))

        versions-same : (l : ℕ) → IsAt l → is_versions_map m H (f l) ≡ is_versions_map n G l
        versions-same l at =
            trie-same (λ e. is_pair_of (is_name_cell n G) (is_state n G) (G e)) (λ e. is_pair_of (is_name_cell m H) (is_state m H) (H e)) l at
            (λ k at_k.
            ap (is_pair_of (is_name_cell m H) (is_state m H)) (at_k.image k (here k))
            ∙ pair-same (is_name_cell n G) (is_name_cell m H) (is_state n G) (is_state m H) (G k) (λ j some. (name-same j (at-link k j at_k some), state-same j (at-link k j at_k some))))

        history-same : (l : ℕ) → IsAt l → is_history m H (f l) ≡ is_history n G l
        history-same l at = vector-same (is_state n G) (is_state m H) l at.image (λ k down. state-same k (at-reached l k at down))

        -- four roots are of their kinds under other links where they are
        pub roots-same : (c v u r : ℕ) → IsAt c → IsAt v → IsAt u → IsAt r → are_roots m H (f c ∷ f v ∷ f u ∷ f r ∷ []) ≡ are_roots n G (c ∷ v ∷ u ∷ r ∷ [])
        roots-same c v u r at_c at_v at_u at_r =
            roots-one_by_one m H (f c ∷ f v ∷ f u ∷ f r ∷ [])
            ∙ and-same _ (is_history m H (f r)) _ (is_history n G r)
            (and-same _ (is_history m H (f u)) _ (is_history n G u)
            (and-same (is_state m H (f c)) (is_versions_map m H (f v)) (is_state n G c) (is_versions_map n G v) (state-same c at_c) (versions-same v at_v)) (history-same u at_u)) (history-same r at_r)
            ∙ sym (roots-one_by_one n G (c ∷ v ∷ u ∷ r ∷ []))

        pub undo-same : (most c v u r : ℕ) → IsAt u → undo_is_within H most (f c ∷ f v ∷ f u ∷ f r ∷ []) ≡ undo_is_within G most (c ∷ v ∷ u ∷ r ∷ [])
        undo-same most c v u r at = ap (λ x. nat_le x most) (ap (λ h. length_at H h (f u)) (height-same u at.image) ∙ length-same f G H (height_in G u) u at.image)

        -- ## What is kept of a row

        pairs-same : (p p' q q' : ℕ → Bool) (l : ℕ) → IsAt l → ((k : ℕ) → IsAt k → p' (f k) ≡ p k) → ((k : ℕ) → IsAt k → q' (f k) ≡ q k) → is_pair_of p' q' (H (f l)) ≡ is_pair_of p q (G l)
        pairs-same p p' q q' l at first second =
            ap (is_pair_of p' q') (at.image l (here l)) ∙ pair-same p p' q q' (G l) (λ j some. (first j (at-link l j at some), second j (at-link l j at some)))

        over-same : (t t' : ℕ → Bool) (l : ℕ) → IsAt l → ((k : ℕ) → IsAt k → t' (f k) ≡ t k) → are_elements H t' (f l) (H (f l)) ≡ are_elements G t l (G l)
        over-same t t' l at each = ap (are_elements H t' (f l)) (at.image l (here l)) ∙ by_form (G l)
          where
            by_form : (r : Option (Form Bytes)) → are_elements H t' (f l) (option_map (relink f) r) ≡ are_elements G t l r
            by_form None = refl
            by_form (Some (cell x)) = refl
            by_form (Some (node leaf ks)) = elements-same t t' 0 l at.image (λ k down. each k (at-reached l k at down))
            by_form (Some (node (inner h) ks)) = elements-same t t' h l at.image (λ k down. each k (at-reached l k at down))
            by_form (Some (node (trie d e c) ks)) = refl
            by_form (Some (node chain ks)) = refl
            by_form (Some (node pair ks)) = refl
            by_form (Some (node state ks)) = refl

        entries-same : (t t' : ℕ → Bool) (l : ℕ) → IsAt l → ((k : ℕ) → IsAt k → t' (f k) ≡ t k) → are_entries m H t' (f l) (H (f l)) ≡ are_entries n G t l (G l)
        entries-same t t' l at each = ap (are_entries m H t' (f l)) (at.image l (here l)) ∙ by_form (G l)
          where
            by_form : (r : Option (Form Bytes)) → are_entries m H t' (f l) (option_map (relink f) r) ≡ are_entries n G t l r
            by_form None = refl
            by_form (Some (cell x)) = refl
            by_form (Some (node leaf ks)) = refl
            by_form (Some (node (inner h) ks)) = refl
            by_form (Some (node (trie d e c) ks)) = below-test t t' l at each
            by_form (Some (node chain ks)) = below-test t t' l at each
            by_form (Some (node pair ks)) = refl
            by_form (Some (node state ks)) = refl

        root-same : (l : ℕ) → IsAt l → (is_vector_root (H (f l)) || is_trie_root (H (f l))) ≡ (is_vector_root (G l) || is_trie_root (G l))
        root-same l at =
            ap (λ r. is_vector_root r || is_trie_root r) (at.image l (here l)) ∙ ap (λ b. b || is_trie_root (option_map (relink f) (G l))) (vector-root-same (G l))
            ∙ ap (λ b. is_vector_root (G l) || b) (trie-root-same (G l))

        -- the facts of a row under other links are those of the row
        pub facts-same : (l : ℕ) → IsAt l → facts_at m H (f l) ≡ facts_at n G l
        unfolding facts_at
        facts-same l at =
            let cell_pairs : (k : ℕ) → IsAt k → is_cell_pair m H (f k) ≡ is_cell_pair n G k = λ k at_k. pairs-same (is_any_cell n G) (is_any_cell m H) (is_any_cell n G) (is_any_cell m H) k at_k any-same any-same in
            let lines_pairs : (k : ℕ) → IsAt k → is_lines_pair m H (f k) ≡ is_lines_pair n G k = λ k at_k. pairs-same (is_any_cell n G) (is_any_cell m H) (is_lines_vector n G) (is_lines_vector m H) k at_k any-same lines-same in
            let named_lines : (k : ℕ) → IsAt k → is_named_lines m H (f k) ≡ is_named_lines n G k = λ k at_k. pairs-same (is_name_cell n G) (is_name_cell m H) (is_lines_vector n G) (is_lines_vector m H) k at_k name-same lines-same in
            let named_states : (k : ℕ) → IsAt k → is_named_state m H (f k) ≡ is_named_state n G k = λ k at_k. pairs-same (is_name_cell n G) (is_name_cell m H) (is_state n G) (is_state m H) k at_k name-same state-same in
            cc (
              any-same l at,
              name-same l at,
              state-same l at,
              named_lines l at,
              named_states l at,
              cell_pairs l at,
              lines_pairs l at,
              root-same l at,
              over-same (is_any_cell n G) (is_any_cell m H) l at any-same,
              over-same (is_state n G) (is_state m H) l at state-same,
              entries-same (is_name_cell n G) (is_name_cell m H) l at name-same,
              entries-same (is_named_lines n G) (is_named_lines m H) l at named_lines,
              entries-same (is_named_state n G) (is_named_state m H) l at named_states,
              entries-same (is_any_cell n G) (is_any_cell m H) l at any-same,
              entries-same (is_cell_pair n G) (is_cell_pair m H) l at cell_pairs,
              entries-same (is_lines_pair n G) (is_lines_pair m H) l at lines_pairs,
            )
