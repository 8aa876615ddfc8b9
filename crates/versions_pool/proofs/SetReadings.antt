-- The keys of a heap's sets are read of a pool that lists their rows.
use Rattle.std.proofs.Common.{◌≡◌, ℕ, ◌+◌, ◌<◌, true, List, [], ◌∷◌, map, get_or, option_map, refl, ap, sym, subst, ◌∙◌, arith}
use Rattle.std.specs.List.{All}
use Rattle.std.specs.Ordering.{nat_cmp, is_eq}
use Rattle.std.specs.Cmp.{IsTotalOrder}
use Rattle.std.specs.Cmp.Lexicographic.{slice_cmp}
use Rattle.std.specs.declared.cmp.Ordering.{Ordering}
use Rattle.std.proofs.lemmas.List.Elements.{All-map}
use Rattle.std.proofs.lemmas.Slice.Eq.{bytes_eq-Decides}
use Rattle.std.proofs.lemmas.Map.Text.{is_eq-slice_cmp}
use Rattle.elem_core.specs.Cell.{IsCell}
use Rattle.elem_core.specs.Codes.{text_code, masked_code}
use Rattle.elem_core.specs.declared.codes.TheConstants.{CODE_BITS, DEEPEST}
use Rattle.node_heap.specs.Links.{count, Reaches, here}
use Rattle.node_heap.specs.Forms.{Forms, links_in}
use Rattle.node_heap.specs.Heap.{Heap, row_at, form_at}
use Rattle.champ_chain.specs.Entry.{Entry, SameSet}
use Rattle.champ_chain.proofs.SetLemmas.{same-sym}
use Rattle.champ_trie.specs.Trie.{code_by, IsCanonTo}
use Rattle.champ_trie.proofs.GatherLemmas.{same-map}
use Rattle.champ_trie.proofs.StayLemmas.{canon-reach}
use Rattle.champ_kinds.specs.Kinds.{HasEntries, IsKeyCell, IsSetOf}
use Rattle.pool_text.specs.Rows.{Bytes}
use Rattle.pool_text.specs.Pool.{forms_in, row_count, place_in, relink, text_forms}
use Rattle.pool_text.specs.Renaming.{IsPoolOf}
use Rattle.pool_text.specs.declared.pool.Pool.{Pool}
use Rattle.pool_text.proofs.Renamed.{count-map}
use Rattle.pool_check.specs.Rows.{links_lead_back}
use Rattle.pool_check.specs.Readings.{moved}
use Rattle.pool_check.proofs.TestLemmas.{leads-down, roots-low}
use Rattle.pool_check.proofs.TrieReadings.{trie-reads-the-same}
use Rattle.pool_load.specs.Laws.{entries_in}
use Rattle.pool_load.proofs.TrieTexts.{texted}
use Rattle.state_rows.proofs.PassesTries.{entries-same}
use Rattle.versions.specs.Keyed.{by_root, keys_at, IsKeySet}
use Rattle.versions.specs.Sorted.{sorted_keys}
use Rattle.versions.proofs.KeyedLemmas.{keys-once, set-kind}
use Rattle.versions.proofs.SortLemmas.{same-sorted}
use Rattle.versions_pool.specs.Sets.{set_in}
use Rattle.versions_pool.proofs.Readings.{map-each, map-both}
use Rattle.versions_pool.proofs.SetRoots.{whole_code, IsTextCell, IsSetRoot}
use Rattle.versions_pool.proofs.TrieTexted.{text-cell, canon-texted}

pub same-text : (a b : Bytes) → is_eq (slice_cmp nat_cmp a b) ≡ true → a ≡ b
same-text a b e = (bytes_eq-Decides a b).0 (sym (is_eq-slice_cmp a b) ∙ e)

-- a set of cells under other links is one
pub root-moved : (f : ℕ → ℕ) (G H : Forms Bytes) (r : ℕ) → ((m : ℕ) → Reaches (links_in G) r m → H (f m) ≡ option_map (relink f) (G m)) → IsSetRoot G r → IsSetRoot H (f r)
root-moved f G H r image is =
    let reached = canon-reach (slice_cmp nat_cmp) whole_code G r is.entries is.trie in
    record {
      entries = map (moved f) is.entries;
      trie = (trie-reads-the-same f G H r image ℕ).canonical (slice_cmp nat_cmp) whole_code DEEPEST is.entries is.trie;
      cells = All-map (IsTextCell H) (moved f) is.entries (λ i d low.
          let e : Entry Bytes = get_or is.entries i d in
          record { row = image e.link (reached i d low) ∙ ap (option_map (relink f)) (is.cells i d low).row; line = (is.cells i d low).line });
    }

module _ {K : Type 0} (text : K → Bytes) (cmp : K → K → Ordering) (code : K → ℕ) (order : (x y : K) → cmp x y ≡ slice_cmp nat_cmp (text x) (text y)) (codes : (x : K) → code x ≡ text_code (text x)) (h : Heap K) where
  pub canon-by-text : (l : ℕ) (E : List (Entry K)) → HasEntries cmp code h (by_root l) E → IsCanonTo (slice_cmp nat_cmp) whole_code DEEPEST (text_forms text h) l (map (texted text) E)
  canon-by-text l E has = canon-texted text cmp (code_by code CODE_BITS) (slice_cmp nat_cmp) whole_code order (λ x. ap (λ n. masked_code n CODE_BITS) (codes x)) same-text h DEEPEST l E has.trie

  cells-by-text : (E : List (Entry K)) → All (IsKeyCell (form_at h)) E → All (λ e. IsCell (text e.key)) E → All (IsTextCell (text_forms text h)) (map (texted text) E)
  cells-by-text E cells lines = All-map (IsTextCell (text_forms text h)) (texted text) E (λ i d low. record { row = text-cell text (row_at h (get_or E i d).link) (get_or E i d).key (cells i d low); line = lines i d low })

  -- a set whose keys have texts of cells
  pub root-by-text : (l : ℕ) (E : List (Entry K)) → IsSetOf cmp code h (by_root l) E → All (λ e. IsCell (text e.key)) E → IsSetRoot (text_forms text h) l
  root-by-text l E is lines = record { entries = map (texted text) E; trie = canon-by-text l E is.rooted; cells = cells-by-text E is.cells lines }

  module _ (total : IsTotalOrder cmp) (of_bytes : Bytes → K) (back : (x : K) → of_bytes (text x) ≡ x) (roots ks : List ℕ) (P : Pool) (listed : IsPoolOf (text_forms text h) roots ks P) (lead_back : links_lead_back P ≡ true) where
    keys-back : (E : List (Entry K)) → map (λ e. of_bytes e.key) (map (moved (place_in ks)) (map (texted text) E)) ≡ map (λ e. e.key) E
    keys-back [] = refl
    keys-back (e ∷ E) = ap (λ k. k ∷ map (λ d. of_bytes d.key) (map (moved (place_in ks)) (map (texted text) E))) (back e.key) ∙ ap (λ js. e.key ∷ js) (keys-back E)

    module _ (r : ℕ) (root : 0 < count r roots) (ks_are : List K) (is : IsKeySet cmp code h r ks_are) where
      abbrev p : ℕ
      p = place_in ks r

      abbrev D : List (Entry Bytes)
      D = map (moved (place_in ks)) (map (texted text) is.entries)

      low : p < row_count P
      low = roots-low P lead_back p (omega (arith, count-map (place_in ks) r roots root, ap (count p) listed.tops))

      found : SameSet (entries_in P p) D
      found =
          entries-same (forms_in P) (leads-down P lead_back) (row_count P) whole_code DEEPEST (DEEPEST + 1) 0 p D low
          ((trie-reads-the-same (place_in ks) (text_forms text h) (forms_in P) r (listed.renamed r r root (here r)) ℕ).canonical (slice_cmp nat_cmp) whole_code DEEPEST (map (texted text) is.entries) (canon-by-text r is.entries is.set.rooted)).trie

      pub keys-read : set_in cmp of_bytes P p ≡ ks_are
      keys-read =
          let keys : SameSet (map (λ e. of_bytes e.key) (entries_in P p)) (map (λ e. e.key) is.entries) =
          subst (λ js. SameSet (map (λ e. of_bytes e.key) (entries_in P p)) js) (keys-back is.entries) (same-map (λ e. of_bytes e.key) (entries_in P p) D found) in
          sym (same-sorted cmp total (map (λ e. e.key) is.entries) (map (λ e. of_bytes e.key) (entries_in P p)) (same-sym _ _ keys) (keys-once cmp total code h (by_root r) is.entries is.set.rooted)) ∙ sym is.sorted

    -- the keys of the sets with these roots
    pub sets-same : ((r : ℕ) → 0 < count r roots → IsKeySet cmp code h r (keys_at cmp h r)) → map (set_in cmp of_bytes P) P.roots ≡ map (keys_at cmp h) roots
    sets-same each =
        ap (map (set_in cmp of_bytes P)) listed.tops ∙ map-both (set_in cmp of_bytes P) (place_in ks) roots
        ∙ map-each (λ r. set_in cmp of_bytes P (place_in ks r)) (keys_at cmp h) roots (λ r some. keys-read r some (keys_at cmp h r) (each r some))

  -- what is the root of a set is that of its keys
  pub keyed-root : IsTotalOrder cmp → (l bits : ℕ) (E : List (Entry K)) → bits ≡ CODE_BITS → IsSetOf cmp code h (record { root = l; bits = bits }) E → IsKeySet cmp code h l (keys_at cmp h l)
  keyed-root total l bits E all is =
      let whole : IsSetOf cmp code h (by_root l) E = subst (λ b. IsSetOf cmp code h (record { root = l; bits = b }) E) all is in
      let set : IsKeySet cmp code h l (sorted_keys cmp (map (λ e. e.key) E)) = record { entries = E; set = whole; sorted = refl } in
      subst (IsKeySet cmp code h l) (sym ((set-kind cmp total code).one h l _ set)) set
