-- The pool of a space that has nothing, by its number of rows: it is the start space's.
use Rattle.std.proofs.Common.{◌≡◌, cond, ℕ, zero, suc, ◌+◌, ◌^◌, ◌<◌, ◌≤◌, List, [], ◌∷◌, ◌++◌, length, map, Bool, true, false, Option, Some, None, IsSome, is_some, option_map, refl, ap, sym, subst, ◌∙◌, arith, inl, inr, length-append, append-nil}
use Rattle.std.specs.List.{AllZip, filter_map, cons_option, flat_map, find}
use Rattle.std.specs.Ordering.{nat_cmp}
use Rattle.std.specs.Cmp.Lexicographic.{slice_cmp}
use Rattle.std.specs.FinMap as finite
use Rattle.std.proofs.lemmas.Bool.{cases_lt}
use Rattle.std.proofs.lemmas.Nat.{zero_from_ones}
use Rattle.std.proofs.lemmas.List.{append_assoc}
use Rattle.std.proofs.lemmas.List.Sums.{count_by-le-length}
use Rattle.elem_core.specs.declared.codes.TheConstants.{DEEPEST}
use Rattle.pool_text.specs.declared.rules.TheConstants.{PRESENT_VERSION}
use Rattle.elem_core.specs.Codes.{text_code}
use Rattle.node_heap.specs.Links.{count}
use Rattle.node_heap.specs.Forms.{Form, Forms, node, leaf, trie, state, links_of, links_in}
use Rattle.node_heap.specs.Heap.{row_at, form_at, live_count, cell_count, node_count}
use Rattle.node_heap.proofs.GraphLemmas.{IsGraph-kinds}
use Rattle.node_heap.proofs.Counts.{test_same, count-cons}
use Rattle.rrb_core.specs.Seq.{height_in, seq_at, seq, IsWell, IsWellShaped}
use Rattle.rrb_core.specs.Vector.{IsGoodVector}
use Rattle.rrb_core.proofs.FillRule.{well-pos}
use Rattle.rrb_core.proofs.Lists.{empty-list}
use Rattle.champ_chain.specs.Entry.{Entry, link_with, has_key}
use Rattle.champ_trie.specs.Bits.{has, rank}
use Rattle.champ_trie.specs.Trie.{IsPlace, IsTrie, IsCanon, code_by}
use Rattle.champ_trie.proofs.BitLemmas.{count-rank, rank-onto, rank-none}
use Rattle.champ_kinds.specs.Binding.{Binding, binds, value_with}
use Rattle.champ_kinds.specs.Kinds.{IsPair}
use Rattle.pool_order.specs.Order.{with_new, with_all_new, firsts, places, order}
use Rattle.pool_order.proofs.Firsts.{with_new-cases, with_all-once, count-append}
use Rattle.pool_text.specs.Pool.{row_count, place_in, relink, settings_by, pool}
use Rattle.pool_text.specs.Documents.{start_pool}
use Rattle.pool_text.specs.declared.pool.Pool.{Pool}
use Rattle.pool_text.proofs.Held.{rooted-forms, texts-are-forms}
use Rattle.pool_text.proofs.PoolRows.{pool-length}
use Rattle.pool_text.proofs.Placed.{place-first, place-later}
use Rattle.shell_terms.specs.Edit.{Bytes}
use Rattle.plain_space.specs.Workspace.{State, most, start}
use Rattle.state_rows.specs.Reading.{StandsIfThere, IsNamed, AreNames, AreLines, IsState}
use Rattle.state_rows.specs.InHeap.{IsStateIn}
use Rattle.state_rows.specs.Standing.{IsBase}
use Rattle.state_rows.proofs.Keys.{own-name}
use Rattle.space_state.specs.declared.roots.RootedHeap.{RootedHeap}
use Rattle.space_state.specs.Roots.{base_of, root_list, Keeps}
use Rattle.space_state.specs.View.{Kinds, rows_of, room_of, SpaceView, shown, start_view}
use Rattle.space_state.proofs.Keeping.{history-length}
use Rattle.space_state.proofs.Front.{roots-held, rows-are}

-- ## Lists without repeats

at-most : (ks xs : List ℕ) → length (with_all_new ks xs) ≤ length ks + length xs
at-most ks [] = omega arith
at-most ks (x ∷ xs) = elim (with_new-cases ks x) as (λ _. length (with_all_new ks (x ∷ xs)) ≤ length ks + length (x ∷ xs)) [
  | inl there ↦ omega (arith, at-most (with_new ks x) xs, ap (λ (ys : List ℕ). length ys) there.0)
  | inr new ↦ omega (arith, at-most (with_new ks x) xs, ap (λ (ys : List ℕ). length ys) new.0, length-append ks (x ∷ []))
]

-- where none is left out, the list is as it was
none-out : (ks xs : List ℕ) → length (with_all_new ks xs) ≡ length ks + length xs → with_all_new ks xs ≡ ks ++ xs
none-out ks [] full = sym (append-nil ks)
none-out ks (x ∷ xs) full = elim (with_new-cases ks x) as (λ _. with_all_new ks (x ∷ xs) ≡ ks ++ x ∷ xs) [
  | inl there ↦ absurd (omega (arith, full, at-most (with_new ks x) xs, ap (λ (ys : List ℕ). length ys) there.0))
  | inr new ↦
      none-out (with_new ks x) xs (omega (arith, full, ap (λ (ys : List ℕ). length ys) new.0, length-append ks (x ∷ []))) ∙ ap (λ ys. ys ++ xs) new.0
      ∙ append_assoc ks (x ∷ []) xs
]

-- the place of a link that stands nowhere before
place-at : (ks ms : List ℕ) (l : ℕ) → count l ks ≡ 0 → place_in (ks ++ l ∷ ms) l ≡ length ks
place-at [] ms l none = place-first l l ms refl
place-at (k ∷ ks) ms l none =
    omega (
      arith,
      place-later l k (ks ++ l ∷ ms) (λ same. omega (arith, none, count-cons l k ks, test_same k l (sym same))),
      place-at ks ms l (omega (arith, none, count-cons l k ks)),
    )

once-before : (ks ms : List ℕ) (l : ℕ) → ((k : ℕ) → count k (ks ++ l ∷ ms) ≤ 1) → count l ks ≡ 0
once-before ks ms l once = omega (arith, once l, count-append l ks (l ∷ ms), count-cons l l ms, test_same l l refl)

-- ## The six rows

module _ (F : Forms Bytes) where
  next-row : (f : ℕ → ℕ) (k : ℕ) (ks : List ℕ) (row : Form Bytes) (rows : List (Form Bytes)) → option_map (relink f) (F k) ≡ Some row → filter_map (λ j. option_map (relink f) (F j)) ks ≡ rows → filter_map (λ j. option_map (relink f) (F j)) (k ∷ ks) ≡ row ∷ rows
  next-row f k ks row rows here rest = ap (λ o. cons_option o (filter_map (λ j. option_map (relink f) (F j)) ks)) here ∙ ap (λ rs. row ∷ rs) rest

  module _ (n m c v u r : ℕ) (at_c : F c ≡ Some (node state (n ∷ m ∷ []))) (at_n : F n ≡ Some (node (trie 0 0 0) [])) (at_m : F m ≡ Some (node (trie 0 0 0) []))
      (at_v : F v ≡ Some (node (trie 0 0 0) [])) (at_u : F u ≡ Some (node leaf [])) (at_r : F r ≡ Some (node leaf [])) where
    abbrev six : List ℕ
    six = n ∷ m ∷ c ∷ v ∷ u ∷ r ∷ []

    lone : (d l : ℕ) → links_in F l ≡ [] → places (suc d) (links_in F) l ≡ l ∷ []
    unfolding places
    lone d l none = ap (λ ks. flat_map (places d (links_in F)) ks ++ l ∷ []) none

    state-places : (d : ℕ) → places (suc (suc d)) (links_in F) c ≡ n ∷ m ∷ c ∷ []
    unfolding places
    state-places d =
        ap (λ o. flat_map (places (suc d) (links_in F)) (links_of o) ++ c ∷ []) at_c
        ∙ ap (λ ks. (ks ++ (places (suc d) (links_in F) m ++ [])) ++ (c ∷ [])) (lone d n (ap links_of at_n))
        ∙ ap (λ ks. ((n ∷ []) ++ (ks ++ [])) ++ (c ∷ [])) (lone d m (ap links_of at_m))

    ordered-deep : (d : ℕ) → order (suc (suc d)) (links_in F) (c ∷ v ∷ u ∷ r ∷ []) ≡ firsts six
    unfolding order
    ordered-deep d =
        let P : ℕ → List ℕ = places (suc (suc d)) (links_in F) in
        ap (λ ks. firsts (ks ++ (P v ++ (P u ++ (P r ++ []))))) (state-places d)
        ∙ ap (λ ks. firsts ((n ∷ m ∷ c ∷ []) ++ (ks ++ (P u ++ (P r ++ []))))) (lone (suc d) v (ap links_of at_v))
        ∙ ap (λ ks. firsts ((n ∷ m ∷ c ∷ v ∷ []) ++ (ks ++ (P r ++ [])))) (lone (suc d) u (ap links_of at_u))
        ∙ ap (λ ks. firsts ((n ∷ m ∷ c ∷ v ∷ u ∷ []) ++ (ks ++ []))) (lone (suc d) r (ap links_of at_r))

    ordered : (N : ℕ) → 2 ≤ N → order N (links_in F) (c ∷ v ∷ u ∷ r ∷ []) ≡ firsts six
    ordered zero deep = absurd (omega arith)
    ordered (suc zero) deep = absurd (omega arith)
    ordered (suc (suc d)) deep = ordered-deep d

    pub six-pool : (N bits : ℕ) → 2 ≤ N → length (order N (links_in F) (c ∷ v ∷ u ∷ r ∷ [])) ≡ 6 → pool N F (c ∷ v ∷ u ∷ r ∷ []) (settings_by bits most) ≡ record start_pool { bits = bits }
    unfolding pool
    six-pool N bits deep full =
        let all : firsts six ≡ six = none-out [] six (ap (λ (ks : List ℕ). length ks) (sym (ordered N deep)) ∙ full) in
        let listed : order N (links_in F) (c ∷ v ∷ u ∷ r ∷ []) ≡ six = ordered N deep ∙ all in
        let once : (k : ℕ) → count k six ≤ 1 = λ k. subst (λ (ks : List ℕ). count k ks ≤ 1) all (with_all-once [] six (λ j. omega arith) k) in
        let f : ℕ → ℕ = place_in six in
        let fn : f n ≡ 0 = place-at [] (m ∷ c ∷ v ∷ u ∷ r ∷ []) n refl in
        let fm : f m ≡ 1 = place-at (n ∷ []) (c ∷ v ∷ u ∷ r ∷ []) m (once-before (n ∷ []) (c ∷ v ∷ u ∷ r ∷ []) m once) in
        let fc : f c ≡ 2 = place-at (n ∷ m ∷ []) (v ∷ u ∷ r ∷ []) c (once-before (n ∷ m ∷ []) (v ∷ u ∷ r ∷ []) c once) in
        let fv : f v ≡ 3 = place-at (n ∷ m ∷ c ∷ []) (u ∷ r ∷ []) v (once-before (n ∷ m ∷ c ∷ []) (u ∷ r ∷ []) v once) in
        let fu : f u ≡ 4 = place-at (n ∷ m ∷ c ∷ v ∷ []) (r ∷ []) u (once-before (n ∷ m ∷ c ∷ v ∷ []) (r ∷ []) u once) in
        let fr : f r ≡ 5 = place-at (n ∷ m ∷ c ∷ v ∷ u ∷ []) [] r (once-before (n ∷ m ∷ c ∷ v ∷ u ∷ []) [] r once) in
        let pair : List ℕ → Form Bytes = λ ks. node state ks in
        let state_row : option_map (relink f) (F c) ≡ Some (node state (0 ∷ 1 ∷ [])) =
        ap (option_map (relink f)) at_c ∙ ap (λ i. Some (pair (i ∷ f m ∷ []))) fn ∙ ap (λ i. Some (pair (0 ∷ i ∷ []))) fm in
        let rows : filter_map (λ k. option_map (relink f) (F k)) six ≡ start_pool.rows =
        next-row f n (m ∷ c ∷ v ∷ u ∷ r ∷ []) _ _ (ap (option_map (relink f)) at_n)
        (next-row f m (c ∷ v ∷ u ∷ r ∷ []) _ _ (ap (option_map (relink f)) at_m)
        (next-row f c (v ∷ u ∷ r ∷ []) _ _ state_row
        (next-row f v (u ∷ r ∷ []) _ _ (ap (option_map (relink f)) at_v)
        (next-row f u (r ∷ []) _ _ (ap (option_map (relink f)) at_u) (next-row f r [] _ [] (ap (option_map (relink f)) at_r) refl))))) in
        let made : List (Form Bytes) → List ℕ → Pool = λ rs tops. record { bits = bits; version = PRESENT_VERSION; history = most; rows = rs; roots = tops } in
        ap (λ (ks : List ℕ). made (filter_map (λ k. option_map (relink (place_in ks)) (F k)) ks) (map (place_in ks) (c ∷ v ∷ u ∷ r ∷ []))) listed
        ∙ ap (λ rs. made rs (f c ∷ f v ∷ f u ∷ f r ∷ [])) rows ∙ ap (λ i. made start_pool.rows (i ∷ f v ∷ f u ∷ f r ∷ [])) fc
        ∙ ap (λ i. made start_pool.rows (2 ∷ i ∷ f u ∷ f r ∷ [])) fv ∙ ap (λ i. made start_pool.rows (2 ∷ 3 ∷ i ∷ f r ∷ [])) fu
        ∙ ap (λ i. made start_pool.rows (2 ∷ 3 ∷ 4 ∷ i ∷ [])) fr

-- ## What stands for nothing

-- a choice whose first is ruled out is the second
no-first : {P : Type 0} (Is : P → Type 0) (b : Bool) (x y : P) → Is (cond b x y) → (Is x → ⊥) → (b ≡ false) × Is y
no-first Is true x y is never = absurd (never is)
no-first Is false x y is never = (refl, is)

-- a set without positions is empty
none-at : (s : ℕ) → s < 2 ^ 32 → ((p : ℕ) → p < 32 → has s p ≡ false) → s ≡ 0
none-at s small none = elim (cases_lt 0 (rank s 32)) as (λ _. s ≡ 0) [
  | inl some ↦ (let at = rank-onto s 32 0 some in absurd (let e : false ≡ true = sym (none at.0 at.1) ∙ at.2 in cc))
  | inr few ↦ zero_from_ones s (omega (arith, count-rank s small, few))
]

module _ (F : Forms Bytes) where
  -- the trie of no entries is the row without links
  trie-none : (code : Bytes → ℕ) (l : ℕ) → IsCanon (slice_cmp nat_cmp) code F l [] → F l ≡ Some (node (trie 0 0 0) [])
  unfolding IsTrie
  trie-none code l is =
      let row = is.trie in
      let N : ℕ → List (Entry Bytes) → Type 0 = λ k P. IsTrie (slice_cmp nat_cmp) code F DEEPEST 1 k P in
      let first : (p : ℕ) → p < 32 → _ = λ p low. no-first (λ q. IsPlace F N q []) (has row.entries p) _ _ (row.places p low) (λ at. let h : [] ≡ _ ∷ [] = at.1 in cc) in
      let entries : row.entries ≡ 0 = none-at row.entries row.row.sets.entries_small (λ p low. (first p low).0) in
      let nodes : row.nodes ≡ 0 =
      none-at row.nodes row.row.sets.nodes_small (λ p low. (no-first (λ q. IsPlace F N q []) (has row.nodes p) _ _ (first p low).1 (λ at. omega (arith, at.0))).0) in
      let links : row.links ≡ [] =
      empty-list row.links (omega (arith, row.row.sets.count, ap (λ s. rank s 32) entries, ap (λ s. rank s 32) nodes, rank-none 32)) in
      row.row.row ∙ ap (λ e. Some (node (trie 0 e row.nodes) row.links)) entries ∙ ap (λ n. Some (node (trie 0 0 n) row.links)) nodes ∙ ap (λ ks. Some (node (trie 0 0 0) ks)) links

  -- bindings that bind no name are none, and links to no name are none
  no-bindings : (M : List (Binding Bytes)) → ((name : Bytes) → value_with (slice_cmp nat_cmp) name M ≡ None) → M ≡ []
  no-bindings [] none = refl
  no-bindings (b ∷ M) none =
      absurd (let h : Some b.value ≡ None = sym (ap (λ t. option_map (λ (x : Binding Bytes). x.value) (cond t (Some b) (find (binds (slice_cmp nat_cmp) b.key) M))) (own-name b.key)) ∙ none b.key in cc)

  no-entries : (E : List (Entry Bytes)) → ((name : Bytes) → link_with (slice_cmp nat_cmp) name E ≡ None) → E ≡ []
  no-entries [] none = refl
  no-entries (e ∷ E) none =
      absurd (let h : Some e.link ≡ None = sym (ap (λ t. option_map (λ (x : Entry Bytes). x.link) (cond t (Some e) (find (has_key (slice_cmp nat_cmp) e.key) E))) (own-name e.key)) ∙ none e.key in cc)

  zip-none : {X : Type 0} (Is : Entry Bytes → X → Type 0) (E : List (Entry Bytes)) → AllZip Is E [] → E ≡ []
  zip-none Is [] zip = refl
  zip-none Is (e ∷ E) zip = absurd zip

  stands-none : {X : Type 0} (Is : ℕ → X → Type 0) (o : Option ℕ) → StandsIfThere Is o None → o ≡ None
  stands-none Is None is = refl
  stands-none Is (Some l) is = absurd is

  is-none : (o : Option ℕ) → is_some o ≡ false → o ≡ None
  is-none None is = refl
  is-none (Some l) is = absurd (let h : true ≡ false = is in cc)

  module _ (V : ℕ → Type 0) (bits : ℕ) where
    -- no names are a trie row without links
    pub named-row : {X : Type 0} (Is : ℕ → X → Type 0) (l : ℕ) → IsNamed F V bits Is l finite.empty → F l ≡ Some (node (trie 0 0 0) [])
    named-row Is l is =
        let none : is.bindings ≡ [] =
        no-bindings is.bindings (λ name. stands-none Is (value_with (slice_cmp nat_cmp) name is.bindings) (subst (StandsIfThere Is (value_with (slice_cmp nat_cmp) name is.bindings)) (finite.get-empty (slice_cmp nat_cmp) name) (is.reads name))) in
        let empty : is.entries ≡ [] = zip-none (IsPair F) is.entries (subst (AllZip (IsPair F) is.entries) none is.pairs) in
        trie-none (code_by text_code bits) l (subst (IsCanon (slice_cmp nat_cmp) (code_by text_code bits) F l) empty is.trie.trie)

    pub names-row : (l : ℕ) → AreNames F V bits l finite.empty → F l ≡ Some (node (trie 0 0 0) [])
    names-row l are =
        let empty : are.entries ≡ [] =
        no-entries are.entries (λ name. is-none (link_with (slice_cmp nat_cmp) name are.entries) (are.reads name ∙ ap is_some (finite.get-empty (slice_cmp nat_cmp) name))) in
        trie-none (code_by text_code bits) l (subst (IsCanon (slice_cmp nat_cmp) (code_by text_code bits) F l) empty are.trie.trie)

-- a vector of nothing is a leaf without links
vector-row : (F : Forms Bytes) (l : ℕ) → IsWellShaped F l → length (seq F l) ≡ 0 → F l ≡ Some (node leaf [])
unfolding IsWell seq_at
vector-row F l shape none = elim (cases_lt 0 (height_in F l)) as (λ _. F l ≡ Some (node leaf [])) [
  | inl high ↦ absurd (omega (arith, none, well-pos F (height_in F l) l shape.well (omega (arith, shape.two high))))
  | inr low ↦
      let flat : height_in F l ≡ 0 = omega (arith, low) in
      leaf-row F l (subst (λ n. IsWell F n l) flat shape.well) (omega (arith, ap (λ n. length (seq_at F n l)) flat, none))
]
  where
    leaf-row : (F : Forms Bytes) (l : ℕ) → IsWell F 0 l → length (seq_at F 0 l) ≡ 0 → F l ≡ Some (node leaf [])
    leaf-row F l well none = well.kind ∙ ap (λ ks. Some (node leaf ks)) (empty-list (links_in F l) none)

-- ## A new space

no-base : (Is : ℕ → State → Type 0) (base : List ℕ) → IsBase Is base None → base ≡ []
no-base Is [] is = refl
no-base Is (l ∷ []) is = absurd is
no-base Is (l ∷ k ∷ ls) is = absurd is

pub new-pool : (s : RootedHeap) → Keeps s [] start → live_count s.heap ≡ 6 → (shown s).pool ≡ record start_pool { bits = s.bits }
new-pool s K six =
    let F : Forms Bytes = form_at s.heap in
    let V : ℕ → Type 0 = IsGoodVector s.heap in
    let N : ℕ = length s.heap.rows in
    let state = K.stands.0 in
    let roots : List ℕ = s.roots.current ∷ s.roots.versions ∷ s.roots.undo ∷ s.roots.redo ∷ [] in
    let listed : root_list s.roots ≡ roots =
    ap (λ ks. s.roots.current ∷ s.roots.versions ∷ s.roots.undo ∷ s.roots.redo ∷ ks) (no-base (IsStateIn s.heap s.bits) (base_of s.roots.batch) K.stands.4) in
    let live : (r : ℕ) → 0 < count r roots → IsSome (row_at s.heap r) = λ r root. K.graph.held r (omega (arith, root, roots-held s start K r, ap (count r) listed)) in
    let same : (shown s).pool ≡ pool N F roots (settings_by s.bits s.history) = texts-are-forms s.heap (root_list s.roots) (settings_by s.bits s.history) ∙ ap (λ rs. pool N F rs (settings_by s.bits s.history)) listed in
    let full : length (order N (links_in F) roots) ≡ 6 =
    sym (pool-length N F roots (rooted-forms s.heap roots K.graph live) (settings_by s.bits s.history)) ∙ sym (ap row_count same) ∙ rows-are s start K ∙ six in
    same ∙ ap (λ n. pool N F roots (settings_by s.bits n)) (sym K.bounded.0)
    ∙ six-pool F state.buffers state.stars s.roots.current s.roots.versions s.roots.undo s.roots.redo state.row (named-row F V s.bits (AreLines F V s.bits) state.buffers state.buffers_are)
    (names-row F V s.bits state.stars state.stars_are) (named-row F V s.bits (IsState F V s.bits) s.roots.versions K.stands.1)
    (vector-row F s.roots.undo K.stands.2.vector.shape (history-length K.stands.2)) (vector-row F s.roots.redo K.stands.3.vector.shape (history-length K.stands.3)) N s.bits
    (omega (arith, six, count_by-le-length is_some s.heap.rows)) full

-- a space that has nothing, and six rows, shows the start space's
pub new-shown : (s : RootedHeap) (bits : ℕ) → Keeps s [] start → s.bits ≡ bits → live_count s.heap ≡ 6 → s.heap.made ≡ 6 → room_of s.heap ≡ record { cells = 0; nodes = 6 } → shown s ≡ start_view bits
new-shown s bits K same six made room =
    let none : cell_count s.heap ≡ 0 = omega (arith, ap (λ (r : Kinds). r.cells) room) in
    let all : node_count s.heap ≡ 6 = omega (arith, none, six, IsGraph-kinds s.heap) in
    let rows : rows_of s.heap ≡ record { cells = 0; nodes = 6 } = (λ i. record { cells = none i; nodes = all i }) in
    let view : Pool → ℕ → ℕ → SpaceView = λ p l m. record { pool = p; live = l; made = m; rows = rows_of s.heap; room = room_of s.heap } in
    let begun : ℕ → Pool = λ b. record start_pool { bits = b } in
    ap (λ p. view p (live_count s.heap) s.heap.made) (new-pool s K six) ∙ ap (λ b. view (begun b) (live_count s.heap) s.heap.made) same
    ∙ ap (λ l. view (begun bits) l s.heap.made) six ∙ ap (λ m. view (begun bits) 6 m) made
    ∙ ap (λ (r : Kinds). record { pool = begun bits; live = 6; made = 6; rows = r; room = room_of s.heap }) rows
    ∙ ap (λ (r : Kinds). record { pool = begun bits; live = 6; made = 6; rows = record { cells = 0; nodes = 6 }; room = r }) room
