-- What loaded roots reach: the vectors and the tries of their pool.
use Rattle.std.proofs.Common.{◌≡◌, ℕ, ◌<◌, true, List, Option, Some, None, option_map, map, length, refl, ap, sym, subst, ◌∙◌, arith}
use Rattle.std.specs.Prelude.{nat_le}
use Rattle.std.specs.List.{All, AllZip}
use Rattle.std.specs.Ordering.{nat_cmp}
use Rattle.std.specs.Cmp.Lexicographic.{slice_cmp}
use Rattle.std.specs.declared.cmp.Ordering.{Ordering}
use Rattle.std.proofs.lemmas.List.{length-map}
use Rattle.std.proofs.lemmas.List.Elements.{All-weaker}
use Rattle.elem_core.specs.Codes.{text_code, masked_code}
use Rattle.elem_core.specs.declared.codes.TheConstants.{DEEPEST}
use Rattle.node_heap.specs.Links.{count, Reaches, here, below}
use Rattle.node_heap.specs.Forms.{Row, Forms, Kind, cell, node, leaf, inner, trie, chain, pair, state, kind_of, form_of, links_in}
use Rattle.node_heap.specs.Heap.{Heap, row_at, form_at, links_at}
use Rattle.node_heap.proofs.Reach.{Reaches-by, Reaches-trans}
use Rattle.rrb_core.specs.Seq.{seq, IsWellShaped}
use Rattle.rrb_core.specs.Vector.{IsVectorOf}
use Rattle.champ_chain.specs.Entry.{Entry, IsEntry}
use Rattle.champ_trie.specs.Trie.{IsCanon, code_by}
use Rattle.champ_kinds.specs.Kinds.{HasEntries}
use Rattle.champ_trie.proofs.CanonLemmas.{names-keys}
use Rattle.champ_trie.proofs.StayLemmas.{canon-reach}
use Rattle.pool_order.specs.Order.{order, order_of}
use Rattle.pool_text.specs.Rows.{Bytes}
use Rattle.pool_text.specs.Rules.{present_rules}
use Rattle.pool_text.specs.Pool.{forms_in, relink, settings_of, pool, text_form, text_forms}
use Rattle.pool_text.specs.Renaming.{IsRenamed, IsRooted, IsPoolOf}
use Rattle.pool_text.specs.declared.pool.Pool.{Pool}
use Rattle.pool_text.proofs.Gathered.{links-of-text, order-by-text}
use Rattle.pool_text.proofs.Held.{rooted-heap}
use Rattle.pool_text.proofs.Renamed.{count-map, renamed-below, renamed-link, renamed-links}
use Rattle.pool_text.proofs.Ordered.{pool-roots, pool-ordered}
use Rattle.pool_text.proofs.PoolRows.{pool-length, pool-renamed, pool-back, place-back}
use Rattle.pool_check.specs.Checked.{IsChecked}
use Rattle.pool_check.specs.Kinds.{is_vector_root, is_trie_root}
use Rattle.pool_check.specs.Readings.{moved}
use Rattle.pool_check.proofs.PoolLaws.{valid-rows, vector-roots-stand, trie-roots-stand}
use Rattle.pool_check.proofs.VectorReadings.{vector-reads-the-same}
use Rattle.pool_check.proofs.TrieReadings.{trie-reads-the-same}
use Rattle.pool_load.specs.Loads.{AreLoaded, AreRowsLoaded}
use Rattle.pool_load.specs.Laws.{AreListed, entries_in, place_at, link_at, IsTrieAt}
use Rattle.pool_load.proofs.VectorTexts.{elements-over, shaped-over}
use Rattle.pool_load.proofs.TrieTexts.{texted, form-links, form-height, form-node, entries-typed, canon-typed}
use Rattle.pool_load.proofs.EntryKinds.{IsRowOf, rows-go, cells-are, pairs-are}

-- a root is of its kind in the pool where it is in the heap
module _ {T : Type 0} (text : T → Bytes) (f : ℕ → ℕ) where
  vector-kind : (r : Option (Row T)) → is_vector_root (option_map (relink f) (option_map (text_form text) r)) ≡ is_vector_root (option_map form_of r)
  vector-kind None = refl
  vector-kind (Some (cell x)) = refl
  vector-kind (Some (node head links)) = by_kind (kind_of head)
    where
      by_kind : (kind : Kind) → is_vector_root {K = Bytes} (Some (node kind (map f links))) ≡ is_vector_root {K = T} (Some (node kind links))
      by_kind leaf = refl
      by_kind (inner n) = ap (nat_le 2) (length-map links f)
      by_kind (trie d e n) = refl
      by_kind chain = refl
      by_kind pair = refl
      by_kind state = refl

  trie-kind : (r : Option (Row T)) → is_trie_root (option_map (relink f) (option_map (text_form text) r)) ≡ is_trie_root (option_map form_of r)
  trie-kind None = refl
  trie-kind (Some (cell x)) = refl
  trie-kind (Some (node head links)) = by_kind (kind_of head)
    where
      by_kind : (kind : Kind) → is_trie_root {K = Bytes} (Some (node kind (map f links))) ≡ is_trie_root {K = T} (Some (node kind links))
      by_kind leaf = refl
      by_kind (inner n) = refl
      by_kind (trie d e n) = refl
      by_kind chain = refl
      by_kind pair = refl
      by_kind state = refl

-- ways down in renamed rows are ways down
pub ways-renamed : {K : Type 0} (f : ℕ → ℕ) (G H : Forms K) (l m : ℕ) → Reaches (links_in G) l m → IsRenamed f G H l → Reaches (links_in H) (f l) (f m)
ways-renamed f G H a b (here l) image = here (f l)
ways-renamed f G H a b (below l k m has down) image =
    below (f l) (f k) (f m) (omega (arith, ap (count (f k)) (renamed-links f G H l image), count-map f k (links_in G l) has))
    (ways-renamed f G H k m down (renamed-link f G H l k image has))

-- the row at a place of the pool stands at the place's link, which loaded roots reach
pub record StandsAt {T : Type 0} (text : T → Bytes) (h : Heap T) (roots : List ℕ) (P : Pool) (p : ℕ) : Type 0 where
  pub root : ℕ
  pub top : 0 < count root roots
  pub down : Reaches (links_at h) root (link_at h roots p)
  pub renamed : IsRenamed (link_at h roots) (forms_in P) (text_forms text h) p

-- at the link stands the trie of the entries that the pool has at the place
pub record TrieStands {T : Type 0} (text : T → Bytes) (cmp : T → T → Ordering) (code : T → ℕ) (h : Heap T) (roots : List ℕ) (P : Pool) (p : ℕ) : Type 0 where
  pub entries : List (Entry T)
  pub same : map (texted text) entries ≡ map (moved (link_at h roots)) (entries_in P p)
  pub trie : HasEntries cmp code h (record { root = link_at h roots p; bits = P.bits }) entries
  pub keyed : All (IsEntry (form_at h)) entries
  pub rows : AllZip (IsRowOf text h (link_at h roots) (forms_in P)) entries (entries_in P p)
  pub below : All (λ d. Reaches (links_in (forms_in P)) p d.link) (entries_in P p)

module _ {T : Type 0} (text : T → Bytes) where
  module _ (h : Heap T) (roots : List ℕ) (P : Pool) (loaded : AreRowsLoaded text h roots P) where
    rooted : IsRooted (length h.rows) (text_forms text h) roots
    rooted = rooted-heap text h roots loaded.graph loaded.live

    pub listed : IsPoolOf (text_forms text h) roots (order_of h roots) P
    listed =
        let n : ℕ = length h.rows in
        let G : Forms Bytes = text_forms text h in
        let by_text : IsPoolOf G roots (order n (links_in G) roots) (pool n G roots (settings_of P)) = record {
          many = pool-length n G roots rooted (settings_of P);
          tops = pool-roots n G roots rooted (settings_of P);
          renamed = pool-renamed n G roots rooted (settings_of P);
          back = pool-back n G roots rooted (settings_of P);
          same = place-back n G roots rooted;
          in_order = pool-ordered n G roots rooted (settings_of P);
        } in
        subst (λ (Q : Pool). IsPoolOf G roots (order_of h roots) Q) loaded.pool (subst (λ ks. IsPoolOf G roots ks (pool n G roots (settings_of P))) (order-by-text text h roots) by_text)

    -- ## Places below the roots

    pub stands-below : (p m : ℕ) → StandsAt text h roots P p → Reaches (links_in (forms_in P)) p m → StandsAt text h roots P m
    stands-below p m at down = record {
      root = at.root;
      top = at.top;
      down =
          Reaches-trans (links_at h) at.root (link_at h roots p) (link_at h roots m) at.down
          (Reaches-by (links_in (text_forms text h)) (links_at h) (λ k. sym (links-of-text text (row_at h k))) (link_at h roots p) (link_at h roots m)
          (ways-renamed (link_at h roots) (forms_in P) (text_forms text h) p m down at.renamed));
      renamed = renamed-below (link_at h roots) (forms_in P) (text_forms text h) p m down at.renamed;
    }

    pub vector-at : (p : ℕ) → StandsAt text h roots P p → is_vector_root (forms_in P p) ≡ true → IsVectorOf h (link_at h roots p) (map (link_at h roots) (seq (forms_in P) p))
    vector-at p at test =
        let l : ℕ = link_at h roots p in
        let reads = vector-reads-the-same (link_at h roots) (forms_in P) (text_forms text h) ℕ p at.renamed in
        let shaped : IsWellShaped (text_forms text h) l = reads.shaped (vector-roots-stand present_rules P loaded.checked.rows.in_range loaded.checked.rows.passed p test) in
        let height = form-height text (row_at h l) in (
          record {
            shape = shaped-over (text_forms text h) (form_at h) (λ k. form-links text (row_at h k)) (λ k kind ks. form-node text (row_at h k) kind ks) l height shaped;
            sums = loaded.sums at.root l at.top at.down;
          },
          elements-over (text_forms text h) (form_at h) (λ k. form-links text (row_at h k)) l height ∙ reads.elements,
        )

    module _ (cmp : T → T → Ordering) (code : T → ℕ) (order : (x y : T) → cmp x y ≡ slice_cmp nat_cmp (text x) (text y)) (codes : (x : T) → code x ≡ text_code (text x)) where
      pub trie-at : (p : ℕ) → StandsAt text h roots P p → is_trie_root (forms_in P p) ≡ true → TrieStands text cmp code h roots P p
      trie-at p at test =
          let l : ℕ = link_at h roots p in
          let by_text = slice_cmp nat_cmp in
          let of_text = code_by text_code P.bits in
          let D : List (Entry Bytes) = entries_in P p in
          let canon : IsCanon by_text of_text (forms_in P) p D = trie-roots-stand present_rules P loaded.checked.rows.in_range loaded.checked.rows.passed p test in
          let reads = trie-reads-the-same (link_at h roots) (forms_in P) (text_forms text h) p at.renamed ℕ in
          let there : IsCanon by_text of_text (text_forms text h) l (map (moved (link_at h roots)) D) = reads.canonical by_text of_text DEEPEST D canon in
          let typed = entries-typed text h (map (moved (link_at h roots)) D) (names-keys by_text of_text (text_forms text h) l (map (moved (link_at h roots)) D) there) in
          let below = canon-reach by_text of_text (forms_in P) p D canon in
          let reached = All-weaker (λ d. Reaches (links_in (forms_in P)) p d.link) (λ d. text_forms text h (link_at h roots d.link) ≡ option_map (relink (link_at h roots)) (forms_in P d.link)) (λ d to. at.renamed d.link to) D below in
          record {
            entries = typed.0;
            same = typed.1;
            trie = record {
              bits = loaded.checked.bits;
              trie =
                  canon-typed text cmp (code_by code P.bits) by_text of_text order (λ x. ap (λ n. masked_code n P.bits) (codes x)) h l typed.0 typed.2
                  (subst (IsCanon by_text of_text (text_forms text h) l) (sym typed.1) there);
            };
            keyed = typed.2;
            rows = rows-go text h (link_at h roots) (forms_in P) typed.0 D typed.1 reached;
            below = below;
          }

    -- ## Links that the roots reach

    module _ (r l : ℕ) (root : 0 < count r roots) (down : Reaches (links_at h) r l) where
      down-by-text : Reaches (links_in (text_forms text h)) r l
      down-by-text = Reaches-by (links_at h) (links_in (text_forms text h)) (λ k. links-of-text text (row_at h k)) r l down

      pub same-link : link_at h roots (place_at h roots l) ≡ l
      same-link = listed.same r l root down-by-text

      pub stands : StandsAt text h roots P (place_at h roots l)
      stands = record { root = r; top = root; down = subst (Reaches (links_at h) r) (sym same-link) down; renamed = listed.back r l root down-by-text }

      placed : forms_in P (place_at h roots l) ≡ option_map (relink (place_at h roots)) (text_forms text h l)
      placed = listed.renamed r l root down-by-text l (here l)

      same-vector : is_vector_root (forms_in P (place_at h roots l)) ≡ is_vector_root (form_at h l)
      same-vector = ap is_vector_root placed ∙ vector-kind text (place_at h roots) (row_at h l)

      same-trie : is_trie_root (forms_in P (place_at h roots l)) ≡ is_trie_root (form_at h l)
      same-trie = ap is_trie_root placed ∙ trie-kind text (place_at h roots) (row_at h l)

      pub vector-good : is_vector_root (form_at h l) ≡ true → IsVectorOf h l (map (link_at h roots) (seq (forms_in P) (place_at h roots l)))
      vector-good test = subst (λ k. IsVectorOf h k (map (link_at h roots) (seq (forms_in P) (place_at h roots l)))) same-link (vector-at (place_at h roots l) stands (same-vector ∙ test))

      module _ (cmp : T → T → Ordering) (code : T → ℕ) (order : (x y : T) → cmp x y ≡ slice_cmp nat_cmp (text x) (text y)) (codes : (x : T) → code x ≡ text_code (text x)) where
        pub trie-good : is_trie_root (form_at h l) ≡ true → IsTrieAt text cmp code h roots P (record { root = l; bits = P.bits })
        trie-good test =
            let at = trie-at cmp code order codes (place_at h roots l) stands (same-trie ∙ test) in
            let trie_of : HasEntries cmp code h (record { root = l; bits = P.bits }) at.entries = subst (λ k. HasEntries cmp code h (record { root = k; bits = P.bits }) at.entries) same-link at.trie in
            record {
              entries = at.entries;
              same = at.same;
              trie = trie_of;
              is_set = λ p test. record { rooted = trie_of; cells = cells-are text h (link_at h roots) (forms_in P) p at.entries (entries_in P (place_at h roots l)) at.rows at.keyed test };
              is_map = λ p q test.
                  let made = pairs-are text h (link_at h roots) (forms_in P) p q at.entries (entries_in P (place_at h roots l)) at.rows at.keyed test in
                  (made.0, made.1, record { entries = at.entries; rooted = trie_of; pairs = made.1 });
            }

    pub rows-listed : AreListed text h roots P
    rows-listed = record { rows = listed; vectors = same-vector; tries = same-trie }

-- loaded roots of a space are loaded roots
pub rows-of-loaded : {T : Type 0} (text : T → Bytes) (h : Heap T) (roots : List ℕ) (P : Pool) → AreLoaded text h roots P → AreRowsLoaded text h roots P
rows-of-loaded text h roots P all = record {
  graph = all.graph;
  live = all.live;
  checked = record { rules = all.checked.rules; bits = all.checked.bits; rows = valid-rows P all.checked.valid };
  pool = all.pool;
  sums = all.sums;
}

-- and loaded roots are those of a space where the pool passed its tests
pub all-of-loaded : {T : Type 0} (text : T → Bytes) (h : Heap T) (roots : List ℕ) (P : Pool) → IsChecked P → AreRowsLoaded text h roots P → AreLoaded text h roots P
all-of-loaded text h roots P checked rows = record { graph = rows.graph; live = rows.live; checked = checked; pool = rows.pool; sums = rows.sums }
