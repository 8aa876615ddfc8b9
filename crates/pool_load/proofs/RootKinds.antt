-- Loaded roots are what their kinds say.
use Rattle.std.proofs.Common.{◌≡◌, ℕ, zero, suc, ◌<◌, Bool, true, List, [], ◌∷◌, Option, Some, None, option_map, map, length, refl, ap, sym, subst, ◌∙◌, arith}
use Rattle.std.specs.Prelude.{slice_get, slice_index}
use Rattle.std.specs.List.{All, AllZip, list_all, flat_map}
use Rattle.std.specs.Ordering.{nat_cmp}
use Rattle.std.specs.Cmp.Lexicographic.{slice_cmp}
use Rattle.std.specs.declared.cmp.Ordering.{Ordering}
use Rattle.std.proofs.lemmas.Bool.{and_from}
use Rattle.std.proofs.lemmas.List.{length-map}
use Rattle.std.proofs.lemmas.List.Elements.{All-nil, All-cons, All-head, All-tail, All-map}
use Rattle.std.proofs.lemmas.List.Folds.{list_all-append}
use Rattle.elem_core.specs.Codes.{text_code}
use Rattle.elem_core.specs.Naming.{is_name}
use Rattle.node_heap.specs.Links.{count, Reaches, here, below}
use Rattle.node_heap.specs.Forms.{Row, Form, Forms, cell, node, leaf, inner, trie, chain, pair, state, links_of, links_in, form_of}
use Rattle.node_heap.specs.Heap.{Heap, row_at, form_at}
use Rattle.node_heap.proofs.Counts.{test_same, count-cons}
use Rattle.node_heap.proofs.Reach.{Reaches-trans}
use Rattle.rrb_core.specs.Seq.{height_in, seq, seq_at}
use Rattle.rrb_core.proofs.LinkCounts.{count-at}
use Rattle.champ_chain.specs.Entry.{Entry, IsEntry}
use Rattle.champ_kinds.specs.Binding.{Binding, binding}
use Rattle.champ_kinds.specs.Kinds.{IsPair}
use Rattle.pool_text.specs.Rows.{Bytes}
use Rattle.pool_text.specs.Pool.{forms_in, row_count, relink, text_form, text_forms}
use Rattle.pool_text.specs.declared.pool.Pool.{Pool}
use Rattle.pool_check.specs.Tries.{entries_below}
use Rattle.pool_check.specs.Kinds.{both_pass, is_vector_root, is_trie_root, is_cell_of, is_pair_of, is_state_of, elements_pass, is_vector_of, is_trie_of, is_any_cell, is_name_cell, is_lines_vector, is_buffer_map, is_stars_set, is_state}
use Rattle.pool_check.specs.Roots.{is_of, are_of, roots_are_of}
use Rattle.pool_check.specs.declared.root.RootKind.{RootKind}
use Rattle.pool_check.specs.declared.root.RootKind.TheVariants.{Lines, Cells, CellMap, LinesMap, Names, NamedLines, State, Versions, History}
use Rattle.pool_check.proofs.TestLemmas.{and-first, and-second, not-both}
use Rattle.pool_check.proofs.VectorReadings.{vector-reads-the-same}
use Rattle.pool_load.specs.Loads.{AreRowsLoaded}
use Rattle.pool_load.specs.Kinds.{IsCellLink, IsVectorTo, IsMapTo, IsSetRoot, IsLines, IsStateLink, IsOfKind}
use Rattle.pool_load.specs.Laws.{entries_in, place_at, link_at}
use Rattle.pool_load.proofs.TrieTexts.{form-node}
use Rattle.pool_load.proofs.EntryKinds.{IsRowOf, cells-are, pair-at}
use Rattle.pool_load.proofs.LoadedRoots.{StandsAt, stands, same-link, listed, stands-below, vector-at, trie-at}

-- ## What tests say

flat-passed : (p q : ℕ → Bool) (f : ℕ → List ℕ) → ((k : ℕ) → q k ≡ true → list_all p (f k) ≡ true) → (ks : List ℕ) → list_all q ks ≡ true → list_all p (flat_map f ks) ≡ true
flat-passed p q f each [] h = refl
flat-passed p q f each (k ∷ ks) h =
    list_all-append p (f k) (flat_map f ks) ∙ and_from (list_all p (f k)) (list_all p (flat_map f ks)) (each k (and-first (q k) (list_all q ks) h)) (flat-passed p q f each ks (and-second (q k) (list_all q ks) h))

elements-passed : {K : Type 0} (F : Forms K) (test : ℕ → Bool) (n l : ℕ) → elements_pass F test n l ≡ true → list_all test (seq_at F n l) ≡ true
unfolding elements_pass seq_at
elements-passed F test zero l e = e
elements-passed F test (suc n) l e = flat-passed test (elements_pass F test n) (seq_at F n) (elements-passed F test n) (links_in F l) e

-- two links that pass
record TwoPass (p q : ℕ → Bool) (links : List ℕ) : Type 0 where
  pub first : ℕ
  pub second : ℕ
  pub are : links ≡ first ∷ second ∷ []
  pub first_passes : p first ≡ true
  pub second_passes : q second ≡ true

two-pass : (p q : ℕ → Bool) (links : List ℕ) → both_pass p q links ≡ true → TwoPass p q links
two-pass p q [] h = absurd (not-both h)
two-pass p q (k ∷ []) h = absurd (not-both h)
two-pass p q (k ∷ m ∷ []) h = record { first = k; second = m; are = refl; first_passes = and-first (p k) (q m) h; second_passes = and-second (p k) (q m) h }
two-pass p q (k ∷ m ∷ j ∷ ks) h = absurd (not-both h)

pair-passed : (p q : ℕ → Bool) (r : Option (Form Bytes)) → is_pair_of p q r ≡ true → (links : List ℕ) × (r ≡ Some (node pair links)) × TwoPass p q links
pair-passed p q None h = absurd (not-both h)
pair-passed p q (Some (cell _)) h = absurd (not-both h)
pair-passed p q (Some (node leaf _)) h = absurd (not-both h)
pair-passed p q (Some (node (inner _) _)) h = absurd (not-both h)
pair-passed p q (Some (node (trie _ _ _) _)) h = absurd (not-both h)
pair-passed p q (Some (node chain _)) h = absurd (not-both h)
pair-passed p q (Some (node pair links)) h = (links, refl, two-pass p q links h)
pair-passed p q (Some (node state _)) h = absurd (not-both h)

state-passed : (p q : ℕ → Bool) (r : Option (Form Bytes)) → is_state_of p q r ≡ true → (links : List ℕ) × (r ≡ Some (node state links)) × TwoPass p q links
state-passed p q None h = absurd (not-both h)
state-passed p q (Some (cell _)) h = absurd (not-both h)
state-passed p q (Some (node leaf _)) h = absurd (not-both h)
state-passed p q (Some (node (inner _) _)) h = absurd (not-both h)
state-passed p q (Some (node (trie _ _ _) _)) h = absurd (not-both h)
state-passed p q (Some (node chain _)) h = absurd (not-both h)
state-passed p q (Some (node pair _)) h = absurd (not-both h)
state-passed p q (Some (node state links)) h = (links, refl, two-pass p q links h)

cell-passed : (p : Bytes → Bool) (r : Option (Form Bytes)) → is_cell_of p r ≡ true → (x : Bytes) × (r ≡ Some (cell x))
cell-passed p None h = absurd (not-both h)
cell-passed p (Some (cell x)) h = (x, refl)
cell-passed p (Some (node leaf _)) h = absurd (not-both h)
cell-passed p (Some (node (inner _) _)) h = absurd (not-both h)
cell-passed p (Some (node (trie _ _ _) _)) h = absurd (not-both h)
cell-passed p (Some (node chain _)) h = absurd (not-both h)
cell-passed p (Some (node pair _)) h = absurd (not-both h)
cell-passed p (Some (node state _)) h = absurd (not-both h)

cell-by-text : {T : Type 0} (text : T → Bytes) (r : Option (Row T)) (x : Bytes) → option_map (text_form text) r ≡ Some (cell x) → (y : T) × (option_map form_of r ≡ Some (cell y))
cell-by-text text None x is = absurd cc
cell-by-text text (Some (cell y)) x is = (y, refl)
cell-by-text text (Some (node head links)) x is = absurd cc

-- ## What they say of loaded rows

module _ {T : Type 0} (text : T → Bytes) (h : Heap T) (roots : List ℕ) (P : Pool) (loaded : AreRowsLoaded text h roots P) where
  abbrev f : ℕ → ℕ
  f = link_at h roots

  abbrev F : Forms Bytes
  F = forms_in P

  abbrev n : ℕ
  n = row_count P

  -- where the test holds of a place below the roots, this is so of the row at its link
  abbrev Means : (ℕ → Bool) → (ℕ → Type 0) → Type 0
  Means test Is = (p : ℕ) → StandsAt text h roots P p → test p ≡ true → Is (f p)

  all-mean : (test : ℕ → Bool) (Is : ℕ → Type 0) → Means test Is → (p : ℕ) → StandsAt text h roots P p → (ks : List ℕ) → list_all test ks ≡ true → All (λ k. Reaches (links_in F) p k) ks → All (λ k. Is (f k)) ks
  all-mean test Is means p at [] passed reached = All-nil (λ k. Is (f k))
  all-mean test Is means p at (k ∷ ks) passed reached =
      All-cons (λ k. Is (f k)) k ks (means k (stands-below text h roots P loaded p k at (All-head (λ k. Reaches (links_in F) p k) k ks reached)) (and-first (test k) (list_all test ks) passed))
      (all-mean test Is means p at ks (and-second (test k) (list_all test ks) passed) (All-tail (λ k. Reaches (links_in F) p k) k ks reached))

  module _ (cmp : T → T → Ordering) (code : T → ℕ) (order : (x y : T) → cmp x y ≡ slice_cmp nat_cmp (text x) (text y)) (codes : (x : T) → code x ≡ text_code (text x)) where
    cell-means : (q : Bytes → Bool) → Means (λ p. is_cell_of q (F p)) (IsCellLink cmp code P.bits h)
    cell-means q p at test =
        let there = cell-passed q (F p) test in
        cell-by-text text (row_at h (f p)) there.0 (at.renamed p (here p) ∙ ap (option_map (relink f)) there.1)

    vector-means : (test : ℕ → Bool) (Is : ℕ → Type 0) → Means test Is → Means (is_vector_of F test) (IsVectorTo cmp code P.bits h Is)
    vector-means test Is means p at passed =
        let good = vector-at text h roots P loaded p at (and-first (is_vector_root (F p)) (elements_pass F test (height_in F p) p) passed) in
        let reads = vector-reads-the-same f F (text_forms text h) ℕ p at.renamed in
        let each : list_all test (seq F p) ≡ true = elements-passed F test (height_in F p) p (and-second (is_vector_root (F p)) (elements_pass F test (height_in F p) p) passed) in
        record { good = good.0; elements = subst (All Is) (sym good.1) (All-map Is f (seq F p) (all-mean test Is means p at (seq F p) each reads.reached)) }

    set-means : (q : Bytes → Bool) → Means (is_trie_of n F (λ k. is_cell_of q (F k))) (IsSetRoot cmp code P.bits h)
    set-means q p at passed =
        let kind : is_trie_root (F p) ≡ true = and-first (is_trie_root (F p)) (list_all (λ e. is_cell_of q (F e.link)) (entries_below n F p)) passed in
        let trie = trie-at text h roots P loaded cmp code order codes p at kind in
        let cells : list_all (λ e. is_cell_of q (F e.link)) (entries_in P p) ≡ true = and-second (is_trie_root (F p)) (list_all (λ e. is_cell_of q (F e.link)) (entries_below n F p)) passed in
        (trie.entries, record { rooted = trie.trie; cells = cells-are text h f F q trie.entries (entries_in P p) trie.rows trie.keyed cells })

    -- bindings of the entries, of whose values this is so
    record AreBound (Is : ℕ → Type 0) (E : List (Entry T)) : Type 0 where
      pub bindings : List (Binding T)
      pub pairs : AllZip (IsPair (form_at h)) E bindings
      pub values : All (λ b. Is b.value) bindings

    pairs-bound : (q test : ℕ → Bool) (Is : ℕ → Type 0) → Means test Is → (p : ℕ) → StandsAt text h roots P p → (E : List (Entry T)) (D : List (Entry Bytes)) → AllZip (IsRowOf text h f F) E D → All (IsEntry (form_at h)) E
        → All (λ d. Reaches (links_in F) p d.link) D → list_all (λ d. is_pair_of q test (F d.link)) D ≡ true → AreBound Is E
    pairs-bound q test Is means p at [] D rows keyed reached passed = record { bindings = []; pairs = tt; values = All-nil (λ b. Is b.value) }
    pairs-bound q test Is means p at (e ∷ E) [] rows keyed reached passed = absurd rows
    pairs-bound q test Is means p at (e ∷ E) (d ∷ D) rows keyed reached passed =
        let now = pair-passed q test (F d.link) (and-first (is_pair_of q test (F d.link)) (list_all (λ x. is_pair_of q test (F x.link)) D) passed) in
        let two = now.2 in
        let row : F d.link ≡ Some (node pair (two.first ∷ two.second ∷ [])) = now.1 ∙ ap (λ ks. Some (node pair ks)) two.are in
        let stood : text_forms text h e.link ≡ Some (node pair (f two.first ∷ f two.second ∷ [])) = rows.0 ∙ ap (option_map (relink f)) row in
        let down : Reaches (links_in F) p d.link = All-head (λ x. Reaches (links_in F) p x.link) d D reached in
        let has : 0 < count two.second (links_in F d.link) =
        omega (arith, ap (λ r. count two.second (links_of r)) row, count-cons two.second two.first (two.second ∷ []), count-cons two.second two.second [], test_same two.second two.second refl) in
        let there = stands-below text h roots P loaded p two.second at (Reaches-trans (links_in F) p d.link two.second down (below d.link two.second two.second has (here two.second))) in
        let rest =
        pairs-bound q test Is means p at E D rows.1 (All-tail (IsEntry (form_at h)) e E keyed) (All-tail (λ x. Reaches (links_in F) p x.link) d D reached)
        (and-second (is_pair_of q test (F d.link)) (list_all (λ x. is_pair_of q test (F x.link)) D) passed) in
        record {
          bindings = binding e.key (f two.second) ∷ rest.bindings;
          pairs = (pair-at text h f F e two.first two.second stood (All-head (IsEntry (form_at h)) e E keyed), rest.pairs);
          values = All-cons (λ b. Is b.value) (binding e.key (f two.second)) rest.bindings (means two.second there two.second_passes) rest.values;
        }

    map-means : (q test : ℕ → Bool) (Is : ℕ → Type 0) → Means test Is → Means (is_trie_of n F (λ k. is_pair_of q test (F k))) (IsMapTo cmp code P.bits h Is)
    map-means q test Is means p at passed =
        let kind : is_trie_root (F p) ≡ true = and-first (is_trie_root (F p)) (list_all (λ e. is_pair_of q test (F e.link)) (entries_below n F p)) passed in
        let trie = trie-at text h roots P loaded cmp code order codes p at kind in
        let each : list_all (λ e. is_pair_of q test (F e.link)) (entries_in P p) ≡ true = and-second (is_trie_root (F p)) (list_all (λ e. is_pair_of q test (F e.link)) (entries_below n F p)) passed in
        let bound = pairs-bound q test Is means p at trie.entries (entries_in P p) trie.rows trie.keyed trie.below each in
        record { bindings = bound.bindings; map = record { entries = trie.entries; rooted = trie.trie; pairs = bound.pairs }; values = bound.values }

    lines-mean : Means (is_lines_vector n F) (IsLines cmp code P.bits h)
    lines-mean = vector-means (λ k. is_cell_of (λ _. true) (F k)) (IsCellLink cmp code P.bits h) (cell-means (λ _. true))

    state-means : Means (is_state n F) (IsStateLink cmp code P.bits h)
    state-means p at passed =
        let now = state-passed (is_buffer_map n F) (is_stars_set n F) (F p) passed in
        let two = now.2 in
        let row : F p ≡ Some (node state (two.first ∷ two.second ∷ [])) = now.1 ∙ ap (λ ks. Some (node state ks)) two.are in
        let stood : text_forms text h (f p) ≡ Some (node state (f two.first ∷ f two.second ∷ [])) = at.renamed p (here p) ∙ ap (option_map (relink f)) row in
        let first : 0 < count two.first (links_in F p) = omega (arith, ap (λ r. count two.first (links_of r)) row, count-cons two.first two.first (two.second ∷ []), test_same two.first two.first refl) in
        let second : 0 < count two.second (links_in F p) =
        omega (arith, ap (λ r. count two.second (links_of r)) row, count-cons two.second two.first (two.second ∷ []), count-cons two.second two.second [], test_same two.second two.second refl) in
        record {
          buffers = f two.first;
          stars = f two.second;
          row = form-node text (row_at h (f p)) state (f two.first ∷ f two.second ∷ []) stood;
          map = map-means (is_name_cell n F) (is_lines_vector n F) (IsLines cmp code P.bits h) lines-mean two.first (stands-below text h roots P loaded p two.first at (below p two.first two.first first (here two.first))) two.first_passes;
          set = set-means is_name two.second (stands-below text h roots P loaded p two.second at (below p two.second two.second second (here two.second))) two.second_passes;
        }

    kind-means : (kind : RootKind) → Means (is_of n F kind) (IsOfKind cmp code P.bits h kind)
    kind-means Lines = lines-mean
    kind-means Cells = set-means (λ _. true)
    kind-means CellMap = map-means (is_any_cell n F) (is_any_cell n F) (IsCellLink cmp code P.bits h) (cell-means (λ _. true))
    kind-means LinesMap = map-means (is_any_cell n F) (is_lines_vector n F) (IsLines cmp code P.bits h) lines-mean
    kind-means Names = set-means is_name
    kind-means NamedLines = map-means (is_name_cell n F) (is_lines_vector n F) (IsLines cmp code P.bits h) lines-mean
    kind-means State = state-means
    kind-means Versions = map-means (is_name_cell n F) (is_state n F) (IsStateLink cmp code P.bits h) state-means
    kind-means History = vector-means (is_state n F) (IsStateLink cmp code P.bits h) state-means

    -- the place is that of the link of a root
    at-root : (kind : RootKind) (r : ℕ) → 0 < count r roots → is_of n F kind (place_at h roots r) ≡ true → IsOfKind cmp code P.bits h kind r
    at-root kind r root passed =
        subst (IsOfKind cmp code P.bits h kind) (same-link text h roots P loaded r r root (here r))
        (kind-means kind (place_at h roots r) (stands text h roots P loaded r r root (here r)) passed)

    pub loaded-of-kinds : (kinds : List RootKind) → roots_are_of kinds P ≡ true → (i : ℕ) (kind : RootKind) → slice_get kinds i ≡ Some kind → IsOfKind cmp code P.bits h kind (slice_index roots i)
    unfolding roots_are_of
    loaded-of-kinds kinds are i kind is =
        let tops : P.roots ≡ map (place_at h roots) roots = (listed text h roots P loaded).tops in
        let found = root-of kinds (map (place_at h roots) roots) (subst (λ ps. are_of n F kinds ps ≡ true) tops are) i kind is in
        let low : i < length roots = omega (arith, found.0, length-map roots (place_at h roots)) in
        at-root kind (slice_index roots i) (count-at roots i 0 low) (subst (λ p. is_of n F kind p ≡ true) (mapped-at (place_at h roots) roots i low) found.1)
      where
        root-of : (kinds : List RootKind) (ps : List ℕ) → are_of n F kinds ps ≡ true → (i : ℕ) (kind : RootKind) → slice_get kinds i ≡ Some kind → (i < length ps) × (is_of n F kind (slice_index ps i) ≡ true)
        root-of [] ps are i kind is = absurd cc
        root-of (k ∷ kinds) [] are i kind is = absurd (not-both are)
        root-of (k ∷ kinds) (p ∷ ps) are zero kind is =
            let both : Some k ≡ Some kind = is in
            let same : k ≡ kind = cc in
            (omega arith, subst (λ x. is_of n F x p ≡ true) same (and-first (is_of n F k p) (are_of n F kinds ps) are))
        root-of (k ∷ kinds) (p ∷ ps) are (suc i) kind is =
            let rest = root-of kinds ps (and-second (is_of n F k p) (are_of n F kinds ps) are) i kind is in
            (omega (arith, rest.0), rest.1)

        mapped-at : (g : ℕ → ℕ) (xs : List ℕ) (i : ℕ) → i < length xs → slice_index (map g xs) i ≡ g (slice_index xs i)
        mapped-at g [] i low = absurd (omega arith)
        mapped-at g (x ∷ xs) zero low = refl
        mapped-at g (x ∷ xs) (suc i) low = mapped-at g xs i (omega (arith, low))
