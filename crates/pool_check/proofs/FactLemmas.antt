-- Facts of rows, by the facts of the rows that their links name.
use Rattle.std.proofs.Common.{◌≡◌, ℕ, suc, ◌+◌, ◌<◌, Bool, true, false, ◌&&◌, ◌||◌, leb, List, [], ◌∷◌, length, take, drop, get_or, refl, ap, sym, ◌∙◌}
use Rattle.std.specs.Prelude.{Option, Some, None, is_some, ◌==◌}
use Rattle.std.specs.List.{list_all}
use Rattle.std.proofs.lemmas.Bool.{eqb-true}
use Rattle.std.proofs.lemmas.List.Folds.{list_all_more}
use Rattle.elem_core.specs.Naming.{is_name}
use Rattle.node_heap.specs.Links.{LeadsDown}
use Rattle.node_heap.specs.Forms.{Form, Forms, cell, node, leaf, inner, trie, chain, pair, state, links_of, links_in}
use Rattle.rrb_core.specs.Seq.{form_height}
use Rattle.champ_chain.specs.Entry.{key_at}
use Rattle.champ_trie.specs.Bits.{rank}
use Rattle.champ_trie.specs.Walk.{own_entries, rows_below}
use Rattle.pool_text.specs.Rows.{Bytes}
use Rattle.pool_check.specs.Vectors.{has_height}
use Rattle.pool_check.specs.Tries.{entries_below}
use Rattle.pool_check.specs.Kinds.{is_vector_root, is_trie_root, is_pair_of, is_state_of, is_cell_of, elements_pass, is_vector_of, is_trie_of, is_any_cell, is_name_cell, is_lines_vector, is_buffer_map, is_stars_set, is_state}
use Rattle.pool_check.specs.declared.kinds.RowFacts.{RowFacts}
use Rattle.pool_check.specs.Facts.{are_elements, are_entries, is_cell_pair, is_lines_pair, is_named_lines, is_named_state, facts_at, no_facts, facts_over_entries, of_both, common_facts}
use Rattle.pool_check.proofs.TestLemmas.{not-both}
use Rattle.pool_check.proofs.EntryTests.{list_all-same, is_entry_row, entries-pass, HasRows}

-- what one more row leaves of the facts that hold of all
pub common-more : (facts : ℕ → RowFacts) (links : List ℕ) (i : ℕ) → i < length links → common_facts facts (take (i + 1) links) ≡ of_both (common_facts facts (take i links)) (facts (get_or links i 0))
unfolding common_facts
common-more facts links i low =
    let more = λ (p : ℕ → Bool). list_all_more p links i 0 low in
    cc (
      more (λ k. (facts k).cell),
      more (λ k. (facts k).name),
      more (λ k. (facts k).state),
      more (λ k. (facts k).named_lines),
      more (λ k. (facts k).named_state),
      more (λ k. (facts k).cell_pair),
      more (λ k. (facts k).lines_pair),
      more (λ k. (facts k).root),
      more (λ k. (facts k).over_cells),
      more (λ k. (facts k).over_states),
      more (λ k. (facts k).over_names),
      more (λ k. (facts k).over_named_lines),
      more (λ k. (facts k).over_named_states),
      more (λ k. (facts k).over_keys),
      more (λ k. (facts k).over_cell_pairs),
      more (λ k. (facts k).over_lines_pairs),
    )

pub and-false : (a : Bool) → (a && false) ≡ false
and-false true = refl
and-false false = refl

or-false : (a : Bool) → (a || false) ≡ a
or-false true = refl
or-false false = refl

-- the test of the elements below the children of an inner row
children-pass : {K : Type 0} (F : Forms K) (test : ℕ → Bool) (n : ℕ) (ks : List ℕ) → list_all (λ k. has_height n (F k)) ks ≡ true
    → list_all (λ k. are_elements F test k (F k)) ks ≡ list_all (elements_pass F test n) ks
children-pass {K} F test n ks high = list_all-same (λ k. has_height n (F k)) (λ k. are_elements F test k (F k)) (elements_pass F test n) (λ k here. by_row k (F k) here) ks high
  where
    by_row : (k : ℕ) (r : Option (Form K)) → has_height n r ≡ true → are_elements F test k r ≡ elements_pass F test n k
    by_row k None h = absurd (not-both h)
    by_row k (Some (cell _)) h = absurd (not-both h)
    by_row k (Some (node leaf _)) h = ap (λ m. elements_pass F test m k) (sym (eqb-true n 0 h))
    by_row k (Some (node (inner height) _)) h = ap (λ m. elements_pass F test m k) (sym (eqb-true n height h))
    by_row k (Some (node (trie _ _ _) _)) h = absurd (not-both h)
    by_row k (Some (node chain _)) h = absurd (not-both h)
    by_row k (Some (node pair _)) h = absurd (not-both h)
    by_row k (Some (node state _)) h = absurd (not-both h)

-- a root over such elements is the root of a vector of them
pub vector-of : {K : Type 0} (F : Forms K) (test : ℕ → Bool) (l : ℕ) → ((is_vector_root (F l) || is_trie_root (F l)) && are_elements F test l (F l)) ≡ is_vector_of F test l
vector-of {K} F test l = by_row (F l)
  where
    by_row : (r : Option (Form K)) → ((is_vector_root r || is_trie_root r) && are_elements F test l r) ≡ (is_vector_root r && elements_pass F test (form_height r) l)
    by_row None = refl
    by_row (Some (cell _)) = refl
    by_row (Some (node leaf _)) = refl
    by_row (Some (node (inner height) ks)) = ap (λ b. b && elements_pass F test height l) (or-false (leb 2 (length ks)))
    by_row (Some (node (trie depth _ _) _)) = and-false (depth == 0)
    by_row (Some (node chain _)) = refl
    by_row (Some (node pair _)) = refl
    by_row (Some (node state _)) = refl

module _ (n : ℕ) (F : Forms Bytes) where
  -- a root over such entries is the root of a trie of them
  pub trie-of : (test : ℕ → Bool) (l : ℕ) → ((is_vector_root (F l) || is_trie_root (F l)) && are_entries n F test l (F l)) ≡ is_trie_of n F test l
  trie-of test l = by_row (F l)
    where
      by_row : (r : Option (Form Bytes)) → ((is_vector_root r || is_trie_root r) && are_entries n F test l r) ≡ (is_trie_root r && list_all (λ e. test e.link) (entries_below n F l))
      by_row None = refl
      by_row (Some (cell _)) = refl
      by_row (Some (node leaf _)) = refl
      by_row (Some (node (inner height) ks)) = and-false (leb 2 (length ks) || false)
      by_row (Some (node (trie depth _ _) _)) = refl
      by_row (Some (node chain _)) = refl
      by_row (Some (node pair _)) = refl
      by_row (Some (node state _)) = refl

  -- the facts of a row by its form
  abbrev facts_by : ℕ → Option (Form Bytes) → RowFacts
  facts_by l r = record {
    cell = is_cell_of (λ _. true) r;
    name = is_cell_of is_name r;
    state = is_state_of (is_buffer_map n F) (is_stars_set n F) r;
    named_lines = is_pair_of (is_name_cell n F) (is_lines_vector n F) r;
    named_state = is_pair_of (is_name_cell n F) (is_state n F) r;
    cell_pair = is_pair_of (is_any_cell n F) (is_any_cell n F) r;
    lines_pair = is_pair_of (is_any_cell n F) (is_lines_vector n F) r;
    root = is_vector_root r || is_trie_root r;
    over_cells = are_elements F (is_any_cell n F) l r;
    over_states = are_elements F (is_state n F) l r;
    over_names = are_entries n F (is_name_cell n F) l r;
    over_named_lines = are_entries n F (is_named_lines n F) l r;
    over_named_states = are_entries n F (is_named_state n F) l r;
    over_keys = are_entries n F (is_any_cell n F) l r;
    over_cell_pairs = are_entries n F (is_cell_pair n F) l r;
    over_lines_pairs = are_entries n F (is_lines_pair n F) l r;
  }

  by-form : (l : ℕ) (r : Option (Form Bytes)) → F l ≡ r → facts_by l r ≡ facts_at n F l
  unfolding facts_at
  by-form l r is = ap (facts_by l) (sym is)

  abbrev facts : ℕ → RowFacts
  facts = facts_at n F

  pub cell-facts : (l : ℕ) (x : Bytes) (name : Bool) → F l ≡ Some (cell x) → name ≡ is_name x → record no_facts { cell = true; name = name } ≡ facts l
  cell-facts l x name is named = ap (λ b. record no_facts { cell = true; name = b }) named ∙ by-form l (Some (cell x)) is

  pub leaf-facts : (l : ℕ) (ks : List ℕ) (all : RowFacts) → F l ≡ Some (node leaf ks) → all ≡ common_facts facts ks → record no_facts { root = true; over_cells = all.cell; over_states = all.state } ≡ facts l
  unfolding facts_at common_facts elements_pass
  leaf-facts l ks all is common =
      let same : ks ≡ links_in F l = sym (ap links_of is) in
      ap (λ (a : RowFacts). record no_facts { root = true; over_cells = a.cell; over_states = a.state }) common
      ∙ ap (λ js. record no_facts { root = true; over_cells = list_all (is_any_cell n F) js; over_states = list_all (is_state n F) js }) same
      ∙ by-form l (Some (node leaf ks)) is

  pub inner-facts : (l height : ℕ) (ks : List ℕ) (all : RowFacts) → F l ≡ Some (node (inner (suc height)) ks) → list_all (λ k. has_height height (F k)) ks ≡ true → all ≡ common_facts facts ks
      → record no_facts { root = leb 2 (length ks); over_cells = all.over_cells; over_states = all.over_states } ≡ facts l
  unfolding facts_at common_facts elements_pass
  inner-facts l height ks all is high common =
      let same : ks ≡ links_in F l = sym (ap links_of is) in
      let wide : Bool = leb 2 (length ks) in
      ap (λ (a : RowFacts). record no_facts { root = wide; over_cells = a.over_cells; over_states = a.over_states }) common
      ∙ ap (λ b. record no_facts { root = wide; over_cells = b; over_states = list_all (λ k. are_elements F (is_state n F) k (F k)) ks }) (children-pass F (is_any_cell n F) height ks high)
      ∙ ap (λ b. record no_facts { root = wide; over_cells = list_all (elements_pass F (is_any_cell n F) height) ks; over_states = b }) (children-pass F (is_state n F) height ks high)
      ∙ ap (λ js. record no_facts { root = wide; over_cells = list_all (elements_pass F (is_any_cell n F) height) js; over_states = list_all (elements_pass F (is_state n F) height) js }) same
      ∙ ap (λ b. record no_facts { root = b; over_cells = elements_pass F (is_any_cell n F) (suc height) l; over_states = elements_pass F (is_state n F) (suc height) l }) (sym (or-false wide))
      ∙ by-form l (Some (node (inner (suc height)) ks)) is

  pub pair-facts : (l k v : ℕ) (key value given : RowFacts) → F l ≡ Some (node pair (k ∷ v ∷ [])) → key ≡ facts k → value ≡ facts v
      → given ≡ record no_facts {
        named_lines = key.name && (value.root && value.over_cells);
        named_state = key.name && value.state;
        cell_pair = key.cell && value.cell;
        lines_pair = key.cell && (value.root && value.over_cells);
      } → given ≡ facts l
  unfolding facts_at
  pair-facts l k v key value given is key_is value_is given_is =
      let lines : Bool = (facts v).root && (facts v).over_cells in
      let made : RowFacts → RowFacts → RowFacts = λ a b. record no_facts {
        named_lines = a.name && (b.root && b.over_cells);
        named_state = a.name && b.state;
        cell_pair = a.cell && b.cell;
        lines_pair = a.cell && (b.root && b.over_cells);
      } in
      given_is ∙ ap (λ (a : RowFacts). made a value) key_is ∙ ap (made (facts k)) value_is
      ∙ ap (λ (t : Bool). record no_facts {
        named_lines = is_name_cell n F k && t;
        named_state = is_name_cell n F k && is_state n F v;
        cell_pair = is_any_cell n F k && is_any_cell n F v;
        lines_pair = is_any_cell n F k && t;
      }) (vector-of F (is_any_cell n F) v)
      ∙ by-form l (Some (node pair (k ∷ v ∷ []))) is

  pub state-facts : (l k v : ℕ) (buffers stars : RowFacts) (found : Bool) → F l ≡ Some (node state (k ∷ v ∷ [])) → buffers ≡ facts k → stars ≡ facts v → found ≡ ((buffers.root && buffers.over_named_lines) && (stars.root && stars.over_names))
      → record no_facts { state = found } ≡ facts l
  unfolding facts_at
  state-facts l k v buffers stars found is buffers_are stars_are found_is =
      let at : found ≡ (is_buffer_map n F k && is_stars_set n F v) =
      found_is ∙ ap (λ (a : RowFacts). (a.root && a.over_named_lines) && (stars.root && stars.over_names)) buffers_are ∙ ap (λ (b : RowFacts). ((facts k).root && (facts k).over_named_lines) && (b.root && b.over_names)) stars_are
      ∙ ap (λ b. b && ((facts v).root && (facts v).over_names)) (trie-of (is_named_lines n F) k) ∙ ap (λ b. is_buffer_map n F k && b) (trie-of (is_name_cell n F) v) in
      ap (λ b. record no_facts { state = b }) at ∙ by-form l (Some (node state (k ∷ v ∷ []))) is

  module _ (falls : LeadsDown (λ l. l) (links_in F)) (code : Bytes → ℕ) where
    below-pass : (test : ℕ → Bool) (ks : List ℕ) → list_all (λ k. is_entry_row (F k)) ks ≡ true → list_all (λ k. list_all (λ e. test e.link) (entries_below n F k)) ks ≡ list_all (λ k. are_entries n F test k (F k)) ks
    below-pass test ks rows = list_all-same (λ k. is_entry_row (F k)) (λ k. list_all (λ e. test e.link) (entries_below n F k)) (λ k. are_entries n F test k (F k)) (λ k here. by_row k (F k) here) ks rows
      where
        by_row : (k : ℕ) (r : Option (Form Bytes)) → is_entry_row r ≡ true → list_all (λ e. test e.link) (entries_below n F k) ≡ are_entries n F test k r
        by_row k None h = absurd (not-both h)
        by_row k (Some (cell _)) h = absurd (not-both h)
        by_row k (Some (node leaf _)) h = absurd (not-both h)
        by_row k (Some (node (inner _) _)) h = absurd (not-both h)
        by_row k (Some (node (trie _ _ _) _)) h = refl
        by_row k (Some (node chain _)) h = refl
        by_row k (Some (node pair _)) h = absurd (not-both h)
        by_row k (Some (node state _)) h = absurd (not-both h)

    over-entries : (test : ℕ → Bool) (l : ℕ) (own below : List ℕ) → l < n → own_entries (F l) ≡ own → rows_below (F l) ≡ below → HasRows F falls n code own below
        → (list_all test own && list_all (λ k. are_entries n F test k (F k)) below) ≡ list_all (λ e. test e.link) (entries_below n F l)
    over-entries test l own below low own_are below_are has =
        let q : ℕ → Bool = λ k. list_all (λ e. test e.link) (entries_below n F k) in
        let keyed : list_all (λ k. is_some (key_at F k)) (own_entries (F l)) ≡ true = ap (list_all (λ k. is_some (key_at F k))) own_are ∙ has.keyed in
        sym (
        entries-pass F falls n test l low keyed
        ∙ ap (λ ks. list_all test ks && list_all q (rows_below (F l))) own_are
        ∙ ap (λ ks. list_all test own && list_all q ks) below_are
        ∙ ap (λ b. list_all test own && b) (below-pass test below has.rows)
        )

    -- what the facts over entries are where all entries below the row are looked at
    abbrev over : ℕ → Bool → RowFacts
    over l root = record no_facts {
      root = root;
      over_names = list_all (λ e. is_name_cell n F e.link) (entries_below n F l);
      over_named_lines = list_all (λ e. is_named_lines n F e.link) (entries_below n F l);
      over_named_states = list_all (λ e. is_named_state n F e.link) (entries_below n F l);
      over_keys = list_all (λ e. is_any_cell n F e.link) (entries_below n F l);
      over_cell_pairs = list_all (λ e. is_cell_pair n F e.link) (entries_below n F l);
      over_lines_pairs = list_all (λ e. is_lines_pair n F e.link) (entries_below n F l);
    }

    entries-facts : (l : ℕ) (root : Bool) (own below : List ℕ) → l < n → own_entries (F l) ≡ own → rows_below (F l) ≡ below → HasRows F falls n code own below
        → facts_over_entries root (common_facts facts own) (common_facts facts below) ≡ over l root
    unfolding facts_at common_facts
    entries-facts l root own below low own_are below_are has =
        let each = λ (test : ℕ → Bool). over-entries test l own below low own_are below_are has in
        cc (
          each (is_name_cell n F),
          each (is_named_lines n F),
          each (is_named_state n F),
          each (is_any_cell n F),
          each (is_cell_pair n F),
          each (is_lines_pair n F),
        )

    pub trie-facts : (l depth e d : ℕ) (ks : List ℕ) → l < n → F l ≡ Some (node (trie depth e d) ks) → HasRows F falls n code (take (rank e 32) ks) (drop (rank e 32) ks)
        → facts_over_entries (depth == 0) (common_facts facts (take (rank e 32) ks)) (common_facts facts (drop (rank e 32) ks)) ≡ facts l
    trie-facts l depth e d ks low is has =
        entries-facts l (depth == 0) (take (rank e 32) ks) (drop (rank e 32) ks) low (ap own_entries is) (ap rows_below is) has
        ∙ by-form l (Some (node (trie depth e d) ks)) is

    pub chain-facts : (l : ℕ) (ks : List ℕ) → l < n → F l ≡ Some (node chain ks) → HasRows F falls n code (take 1 ks) (drop 1 ks)
        → facts_over_entries false (common_facts facts (take 1 ks)) (common_facts facts (drop 1 ks)) ≡ facts l
    chain-facts l ks low is has =
        entries-facts l false (take 1 ks) (drop 1 ks) low (ap own_entries is) (ap rows_below is) has
        ∙ by-form l (Some (node chain ks)) is
