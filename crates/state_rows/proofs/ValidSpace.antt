-- Every valid pool stands for a workspace.
use Rattle.std.proofs.Common.{◌≡◌, ℕ, zero, suc, ◌+◌, ◌<◌, Bool, true, false, ◌&&◌, ◌||◌, not, cond, List, [], ◌∷◌, Option, Some, None, length, get_or, refl, ap, sym, subst, ◌∙◌, arith}
use Rattle.std.specs.Prelude.{nat_le, ◌==◌, is_some, option_map}
use Rattle.std.specs.List.{All, AllZip, find, flat_map, list_all, list_any}
use Rattle.std.specs.Ordering.{nat_cmp}
use Rattle.std.specs.Cmp.Lexicographic.{slice_cmp}
use Rattle.std.specs.FinMap as map
use Rattle.std.proofs.lemmas.Bool.{and_from, eq-eqb, leb-true}
use Rattle.std.proofs.lemmas.Cmp.{nat_list_cmp_total}
use Rattle.std.proofs.lemmas.Slice.Zip.{AllZip-long}
use Rattle.std.proofs.lemmas.List.Elements.{All-nil, All-cons, All-head, All-tail}
use Rattle.std.proofs.lemmas.List.Folds.{list_all-append}
use Rattle.elem_core.specs.Cell.{IsCell}
use Rattle.elem_core.specs.Naming.{IsName, is_name}
use Rattle.elem_core.specs.declared.TheConstants.{MAX_LINE, NEWLINE}
use Rattle.elem_core.proofs.NamingLemmas.{named_by_test}
use Rattle.node_heap.specs.Forms.{Form, Forms, cell, node, leaf, inner, trie, chain, pair, state, value_of, links_in}
use Rattle.rrb_core.specs.Seq.{height_in, seq_at, seq, IsWellShaped}
use Rattle.champ_chain.specs.Entry.{Entry, IsEntry, key_of, has_key, link_with}
use Rattle.champ_trie.specs.Trie.{IsCanonTo, code_by}
use Rattle.champ_kinds.specs.Binding.{Binding, binding, binds, value_with}
use Rattle.champ_kinds.specs.Kinds.{IsKeyCell, IsPair}
use Rattle.pool_text.specs.Rules.{Rules}
use Rattle.pool_text.specs.Pool.{forms_in, row_count}
use Rattle.pool_text.specs.declared.pool.Pool.{Pool}
use Rattle.pool_check.specs.Rows.{is_line_or_node, texts_are_lines}
use Rattle.pool_check.specs.Vectors.{length_at}
use Rattle.pool_check.specs.Tries.{entries_below}
use Rattle.pool_check.specs.Kinds.{both_pass, is_vector_root, is_trie_root, is_pair_of, is_state_of, is_cell_of, elements_pass, is_vector_of, is_trie_of, is_name_cell, is_lines_vector, is_buffer_map, is_stars_set, is_state, is_versions_map, is_history, roots_are_of_kind, undo_is_within, undo_fits}
use Rattle.pool_check.specs.Damages.{IsValidBy}
use Rattle.pool_check.proofs.RootLemmas.{root_by_root, roots-passed}
use Rattle.pool_check.proofs.TestLemmas.{and-first, and-second, not-both, all-at}
use Rattle.pool_check.proofs.VectorLaw.{length_at-is}
use Rattle.pool_check.proofs.PoolLaws.{vector-roots-well, trie-roots-canonical}
use Rattle.shell_terms.specs.Edit.{Bytes}
use Rattle.plain_space.specs.Workspace.{Named, Names, State, Workspace, HasBoundedUndo}
use Rattle.state_rows.specs.Reading.{StandsIfThere, IsVectorOver, IsText, AreLines, IsNamedBy, AreNamesBy, IsStateBy, AreVersionsBy, IsHistoryBy}
use Rattle.state_rows.specs.Standing.{StandForBy, StandsForBy}
use Rattle.state_rows.proofs.TrieSets.{all-named}

-- What the tests of links say.

-- a cell whose text passes
record CellPassed (p : Bytes → Bool) (r : Option (Form Bytes)) : Type 0 where
  pub text : Bytes
  pub row : r ≡ Some (cell text)
  pub passed : p text ≡ true

cell-passed : (p : Bytes → Bool) (r : Option (Form Bytes)) → is_cell_of p r ≡ true → CellPassed p r
cell-passed p None h = absurd (not-both h)
cell-passed p (Some (cell text)) h = record { text = text; row = refl; passed = h }
cell-passed p (Some (node leaf _)) h = absurd (not-both h)
cell-passed p (Some (node (inner _) _)) h = absurd (not-both h)
cell-passed p (Some (node (trie _ _ _) _)) h = absurd (not-both h)
cell-passed p (Some (node chain _)) h = absurd (not-both h)
cell-passed p (Some (node pair _)) h = absurd (not-both h)
cell-passed p (Some (node state _)) h = absurd (not-both h)

-- two links that pass
record TwoPassed (p q : ℕ → Bool) (links : List ℕ) : Type 0 where
  pub first : ℕ
  pub second : ℕ
  pub are : links ≡ first ∷ second ∷ []
  pub first_passed : p first ≡ true
  pub second_passed : q second ≡ true

two-passed : (p q : ℕ → Bool) (links : List ℕ) → both_pass p q links ≡ true → TwoPassed p q links
two-passed p q [] h = absurd (not-both h)
two-passed p q (k ∷ []) h = absurd (not-both h)
two-passed p q (k ∷ m ∷ []) h = record { first = k; second = m; are = refl; first_passed = and-first (p k) (q m) h; second_passed = and-second (p k) (q m) h }
two-passed p q (k ∷ m ∷ j ∷ ks) h = absurd (not-both h)

pair-passed : (p q : ℕ → Bool) (r : Option (Form Bytes)) → is_pair_of p q r ≡ true → (links : List ℕ) × (r ≡ Some (node pair links)) × TwoPassed p q links
pair-passed p q None h = absurd (not-both h)
pair-passed p q (Some (cell _)) h = absurd (not-both h)
pair-passed p q (Some (node leaf _)) h = absurd (not-both h)
pair-passed p q (Some (node (inner _) _)) h = absurd (not-both h)
pair-passed p q (Some (node (trie _ _ _) _)) h = absurd (not-both h)
pair-passed p q (Some (node chain _)) h = absurd (not-both h)
pair-passed p q (Some (node pair links)) h = (links, refl, two-passed p q links h)
pair-passed p q (Some (node state _)) h = absurd (not-both h)

state-passed : (p q : ℕ → Bool) (r : Option (Form Bytes)) → is_state_of p q r ≡ true → (links : List ℕ) × (r ≡ Some (node state links)) × TwoPassed p q links
state-passed p q None h = absurd (not-both h)
state-passed p q (Some (cell _)) h = absurd (not-both h)
state-passed p q (Some (node leaf _)) h = absurd (not-both h)
state-passed p q (Some (node (inner _) _)) h = absurd (not-both h)
state-passed p q (Some (node (trie _ _ _) _)) h = absurd (not-both h)
state-passed p q (Some (node chain _)) h = absurd (not-both h)
state-passed p q (Some (node pair _)) h = absurd (not-both h)
state-passed p q (Some (node state links)) h = (links, refl, two-passed p q links h)

-- What the tests of texts and lists say.

any-there : (text : Bytes) (i : ℕ) → i < length text → get_or text i NEWLINE ≡ NEWLINE → list_any (λ b. b == NEWLINE) text ≡ true
any-there [] i low is = absurd (omega (arith, low))
any-there (x ∷ xs) zero low is = ap (λ t. t || list_any (λ b. b == NEWLINE) xs) (eq-eqb x NEWLINE is)
any-there (x ∷ xs) (suc i) low is = later (x == NEWLINE) (any-there xs i (omega (arith, low)) is)
  where
    later : (t : Bool) → list_any (λ b. b == NEWLINE) xs ≡ true → (t || list_any (λ b. b == NEWLINE) xs) ≡ true
    later true h = refl
    later false h = h

not-true : (t : Bool) → not t ≡ true → t ≡ true → ⊥
not-true true h there = not-both h
not-true false h there = not-both there

pub line-passed : (text : Bytes) → is_line_or_node (cell text) ≡ true → IsCell text
line-passed text h = record {
  unbroken = λ there. not-true (list_any (λ b. b == NEWLINE) text) (and-first (not (list_any (λ b. b == NEWLINE) text)) (nat_le (length text) MAX_LINE) h) (any-there text there.0 there.1 there.2);
  short = leb-true (length text) MAX_LINE (and-second (not (list_any (λ b. b == NEWLINE) text)) (nat_le (length text) MAX_LINE) h);
}

flat-passed : (p q : ℕ → Bool) (f : ℕ → List ℕ) → ((k : ℕ) → q k ≡ true → list_all p (f k) ≡ true) → (ks : List ℕ) → list_all q ks ≡ true → list_all p (flat_map f ks) ≡ true
flat-passed p q f each [] h = refl
flat-passed p q f each (k ∷ ks) h =
    list_all-append p (f k) (flat_map f ks) ∙ and_from (list_all p (f k)) (list_all p (flat_map f ks)) (each k (and-first (q k) (list_all q ks) h)) (flat-passed p q f each ks (and-second (q k) (list_all q ks) h))

elements-passed : (F : Forms Bytes) (test : ℕ → Bool) (n l : ℕ) → elements_pass F test n l ≡ true → list_all test (seq_at F n l) ≡ true
unfolding elements_pass seq_at
elements-passed F test zero l e = e
elements-passed F test (suc n) l e = flat-passed test (elements_pass F test n) (seq_at F n) (elements-passed F test n) (links_in F l) e

zip-from : {X : Type 0} (test : ℕ → Bool) (Is : ℕ → X → Type 0) → ((k : ℕ) → test k ≡ true → (x : X) × Is k x) → (ks : List ℕ) → list_all test ks ≡ true → (xs : List X) × AllZip Is ks xs
zip-from test Is each [] h = ([], tt)
zip-from test Is each (k ∷ ks) h =
    let now = each k (and-first (test k) (list_all test ks) h) in
    let rest = zip-from test Is each ks (and-second (test k) (list_all test ks) h) in
    (now.0 ∷ rest.0, (now.1, rest.1))

module _ (F : Forms Bytes) (n : ℕ) where
  -- the names of entries that are cells of names
  record BuiltSet (E : List (Entry Bytes)) : Type 0 where
    pub values : List (Bytes × Unit {0})
    pub cells : All (IsKeyCell F) E
    pub names : All (λ e. IsName e.key) E
    pub reads : (name : Bytes) → is_some (link_with (slice_cmp nat_cmp) name E) ≡ is_some (map.find (slice_cmp nat_cmp) name values)

  build-set : (E : List (Entry Bytes)) → All (IsEntry F) E → list_all (λ e. is_name_cell n F e.link) E ≡ true → BuiltSet E
  build-set [] are h = record { values = []; cells = All-nil (IsKeyCell F); names = All-nil (λ e. IsName e.key); reads = λ name. refl }
  build-set (e ∷ es) are h = add (build-set es (All-tail (IsEntry F) e es are) (and-second (is_name_cell n F e.link) (list_all (λ d. is_name_cell n F d.link) es) h))
    where
      at : CellPassed is_name (F e.link)
      at = cell-passed is_name (F e.link) (and-first (is_name_cell n F e.link) (list_all (λ d. is_name_cell n F d.link) es) h)

      key : at.text ≡ e.key
      key = let both : Some at.text ≡ Some e.key = sym (ap (key_of F) at.row) ∙ All-head (IsEntry F) e es are in cc

      add : BuiltSet es → BuiltSet (e ∷ es)
      add rest = record {
        values = (e.key, tt) ∷ rest.values;
        cells = All-cons (IsKeyCell F) e es (at.row ∙ ap (λ t. Some (cell t)) key) rest.cells;
        names = All-cons (λ d. IsName d.key) e es (named_by_test e.key (ap is_name (sym key) ∙ at.passed)) rest.names;
        reads = λ name. by_key name (has_key (slice_cmp nat_cmp) name e) (rest.reads name);
      }
        where
          by_key : (name : Bytes) (t : Bool) → is_some (link_with (slice_cmp nat_cmp) name es) ≡ is_some (map.find (slice_cmp nat_cmp) name rest.values)
              → is_some (option_map (λ (d : Entry Bytes). d.link) (cond t (Some e) (find (has_key (slice_cmp nat_cmp) name) es))) ≡ is_some (cond t (Some tt) (map.find (slice_cmp nat_cmp) name rest.values))
          by_key name true later = refl
          by_key name false later = later

  module _ {X : Type 0} (test : ℕ → Bool) (Is : ℕ → X → Type 0) (each : (k : ℕ) → test k ≡ true → (x : X) × Is k x) where
    -- the bindings and the values of entries that are pairs of names and what passes
    record BuiltMap (E : List (Entry Bytes)) : Type 0 where
      pub bindings : List (Binding Bytes)
      pub values : List (Bytes × X)
      pub pairs : AllZip (IsPair F) E bindings
      pub names : All (λ e. IsName e.key) E
      pub reads : (name : Bytes) → StandsIfThere Is (value_with (slice_cmp nat_cmp) name bindings) (map.find (slice_cmp nat_cmp) name values)

    abbrev pair_test : ℕ → Bool
    pair_test l = is_pair_of (is_name_cell n F) test (F l)

    build-map : (E : List (Entry Bytes)) → All (IsEntry F) E → list_all (λ e. pair_test e.link) E ≡ true → BuiltMap E
    build-map [] are h = record { bindings = []; values = []; pairs = tt; names = All-nil (λ e. IsName e.key); reads = λ name. tt }
    build-map (e ∷ es) are h = add (build-map es (All-tail (IsEntry F) e es are) (and-second (pair_test e.link) (list_all (λ d. pair_test d.link) es) h))
      where
        passed : (links : List ℕ) × (F e.link ≡ Some (node pair links)) × TwoPassed (is_name_cell n F) test links
        passed = pair-passed (is_name_cell n F) test (F e.link) (and-first (pair_test e.link) (list_all (λ d. pair_test d.link) es) h)

        row : F e.link ≡ Some (node pair (passed.2.first ∷ passed.2.second ∷ []))
        row = passed.1 ∙ ap (λ ks. Some (node pair ks)) passed.2.are

        at : CellPassed is_name (F passed.2.first)
        at = cell-passed is_name (F passed.2.first) passed.2.first_passed

        key : at.text ≡ e.key
        key = let both : Some at.text ≡ Some e.key = sym (ap (key_of F) row ∙ ap value_of at.row) ∙ All-head (IsEntry F) e es are in cc

        thing : (x : X) × Is passed.2.second x
        thing = each passed.2.second passed.2.second_passed

        add : BuiltMap es → BuiltMap (e ∷ es)
        add rest = record {
          bindings = binding e.key passed.2.second ∷ rest.bindings;
          values = (e.key, thing.0) ∷ rest.values;
          pairs = (record { key_cell = passed.2.first; cell = at.row ∙ ap (λ t. Some (cell t)) key; row = row; key = refl }, rest.pairs);
          names = All-cons (λ d. IsName d.key) e es (named_by_test e.key (ap is_name (sym key) ∙ at.passed)) rest.names;
          reads = λ name. by_key name (has_key (slice_cmp nat_cmp) name e) (rest.reads name);
        }
          where
            by_key : (name : Bytes) (t : Bool) → StandsIfThere Is (value_with (slice_cmp nat_cmp) name rest.bindings) (map.find (slice_cmp nat_cmp) name rest.values)
                → StandsIfThere Is (option_map (λ (b : Binding Bytes). b.value) (cond t (Some (binding e.key passed.2.second)) (find (binds (slice_cmp nat_cmp) name) rest.bindings))) (cond t (Some thing.0) (map.find (slice_cmp nat_cmp) name rest.values))
            by_key name true later = thing.1
            by_key name false later = later

module _ {rules : Rules} (P : Pool) (valid : IsValidBy rules P) where
  abbrev F : Forms Bytes
  F = forms_in P

  abbrev n : ℕ
  n = row_count P

  abbrev V : ℕ → Type 0
  V = IsWellShaped F

  canon-from : (test : ℕ → Bool) (l : ℕ) → is_trie_of n F test l ≡ true → IsCanonTo (slice_cmp nat_cmp) (code_by rules.code_of P.bits) rules.deepest F l (entries_below n F l)
  canon-from test l h = trie-roots-canonical P valid l (and-first (is_trie_root (F l)) (list_all (λ e. test e.link) (entries_below n F l)) h)

  named-from : {X : Type 0} (test : ℕ → Bool) (Is : ℕ → X → Type 0) → ((k : ℕ) → test k ≡ true → (x : X) × Is k x) → (l : ℕ) → is_trie_of n F (λ e. is_pair_of (is_name_cell n F) test (F e)) l ≡ true → (m : Named X) × IsNamedBy rules F V P.bits Is l m
  named-from test Is each l h =
      let pairs : ℕ → Bool = λ e. is_pair_of (is_name_cell n F) test (F e) in
      let canon = canon-from pairs l h in
      let built = build-map F n test Is each (entries_below n F l) (all-named (code_by rules.code_of P.bits) F (rules.deepest + 1) 0 l (entries_below n F l) canon.trie) (and-second (is_trie_root (F l)) (list_all (λ e. pairs e.link) (entries_below n F l)) h) in (
        map.from_entries built.values,
        record {
          entries = entries_below n F l;
          bindings = built.bindings;
          trie = record { trie = canon; names = built.names };
          pairs = built.pairs;
          reads = λ name. subst (λ o. StandsIfThere Is (value_with (slice_cmp nat_cmp) name built.bindings) o) (sym (map.get-from_entries nat_list_cmp_total built.values name)) (built.reads name);
        },
      )

  names-from : (l : ℕ) → is_stars_set n F l ≡ true → (names : Names) × AreNamesBy rules F V P.bits l names
  names-from l h =
      let canon = canon-from (is_name_cell n F) l h in
      let built = build-set F n (entries_below n F l) (all-named (code_by rules.code_of P.bits) F (rules.deepest + 1) 0 l (entries_below n F l) canon.trie) (and-second (is_trie_root (F l)) (list_all (λ e. is_name_cell n F e.link) (entries_below n F l)) h) in (
        map.from_entries built.values,
        record {
          entries = entries_below n F l;
          trie = record { trie = canon; names = built.names };
          cells = built.cells;
          reads = λ name. built.reads name ∙ ap is_some (sym (map.get-from_entries nat_list_cmp_total built.values name));
        },
      )

  vector-from : {X : Type 0} (test : ℕ → Bool) (Is : ℕ → X → Type 0) → ((k : ℕ) → test k ≡ true → (x : X) × Is k x) → (l : ℕ) → is_vector_of F test l ≡ true → (xs : List X) × IsVectorOver F V P.bits Is l xs
  vector-from test Is each l h =
      let zip = zip-from test Is each (seq F l) (elements-passed F test (height_in F l) l (and-second (is_vector_root (F l)) (elements_pass F test (height_in F l) l) h)) in
      (zip.0, record { vector = vector-roots-well P valid l (and-first (is_vector_root (F l)) (elements_pass F test (height_in F l) l) h); values = zip.1 })

  text-from : (k : ℕ) → is_cell_of (λ _. true) (F k) ≡ true → (text : Bytes) × IsText F V P.bits k text
  unfolding texts_are_lines
  text-from k h =
      let at = cell-passed (λ _. true) (F k) h in
      (at.text, record { row = at.row; line = line-passed at.text (all-at is_line_or_node P.rows valid.lines k (cell at.text) at.row) })

  lines-from : (l : ℕ) → is_lines_vector n F l ≡ true → (xs : List Bytes) × AreLines F V P.bits l xs
  lines-from = vector-from (λ k. is_cell_of (λ _. true) (F k)) (IsText F V P.bits) text-from

  state-from : (l : ℕ) → is_state n F l ≡ true → (now : State) × IsStateBy rules F V P.bits l now
  state-from l h =
      let passed = state-passed (is_buffer_map n F) (is_stars_set n F) (F l) h in
      let buffers = named-from (is_lines_vector n F) (AreLines F V P.bits) lines-from passed.2.first passed.2.first_passed in
      let stars = names-from passed.2.second passed.2.second_passed in (
        record { buffers = buffers.0; stars = stars.0 },
        record { buffers = passed.2.first; stars = passed.2.second; row = passed.1 ∙ ap (λ ks. Some (node state ks)) passed.2.are; buffers_are = buffers.1; stars_are = stars.1 },
      )

  -- the roots, as one reads their tests
  four-from : (c v u r : ℕ) → (is_state n F c && is_versions_map n F v && is_history n F u && is_history n F r) ≡ true
      → (now : State) × (kept : Named State) × (back : List State) × (forth : List State) × IsStateBy rules F V P.bits c now × AreVersionsBy rules F V P.bits v kept × IsHistoryBy rules F V P.bits u back × IsHistoryBy rules F V P.bits r forth
  four-from c v u r h =
      let first : (is_state n F c && is_versions_map n F v && is_history n F u) ≡ true = and-first (is_state n F c && is_versions_map n F v && is_history n F u) (is_history n F r) h in
      let second : (is_state n F c && is_versions_map n F v) ≡ true = and-first (is_state n F c && is_versions_map n F v) (is_history n F u) first in
      let now = state-from c (and-first (is_state n F c) (is_versions_map n F v) second) in
      let kept = named-from (is_state n F) (IsStateBy rules F V P.bits) state-from v (and-second (is_state n F c) (is_versions_map n F v) second) in
      let back = vector-from (is_state n F) (IsStateBy rules F V P.bits) state-from u (and-second (is_state n F c && is_versions_map n F v) (is_history n F u) first) in
      let forth = vector-from (is_state n F) (IsStateBy rules F V P.bits) state-from r (and-second (is_state n F c && is_versions_map n F v && is_history n F u) (is_history n F r) h) in
      (now.0, kept.0, back.0, forth.0, now.1, kept.1, back.1, forth.1)

  roots-from : (roots : List ℕ) → root_by_root n F roots ≡ true → (W : Workspace) × StandForBy rules F V P.bits roots W × (W.history ≡ P.history)
  roots-from [] h = absurd (not-both h)
  roots-from (c ∷ []) h = absurd (not-both h)
  roots-from (c ∷ v ∷ []) h = absurd (not-both h)
  roots-from (c ∷ v ∷ u ∷ []) h = absurd (not-both h)
  roots-from (c ∷ v ∷ u ∷ r ∷ []) h =
      let four = four-from c v u r h in
      (record { current = four.0; versions = four.1; undo = four.2; redo = four.3; history = P.history; base = None }, (four.4, four.5, four.6, four.7, tt), refl)
  roots-from (c ∷ v ∷ u ∷ r ∷ b ∷ []) h =
      let four = four-from c v u r (and-first (is_state n F c && is_versions_map n F v && is_history n F u && is_history n F r) (is_state n F b) h) in
      let start = state-from b (and-second (is_state n F c && is_versions_map n F v && is_history n F u && is_history n F r) (is_state n F b) h) in
      (record { current = four.0; versions = four.1; undo = four.2; redo = four.3; history = P.history; base = Some start.0 }, (four.4, four.5, four.6, four.7, start.1), refl)
  roots-from (c ∷ v ∷ u ∷ r ∷ b ∷ a ∷ rs) h = absurd (not-both h)

  bounded-from : (roots : List ℕ) (W : Workspace) → StandForBy rules F V P.bits roots W → W.history ≡ P.history → undo_is_within F P.history roots ≡ true → HasBoundedUndo W
  bounded-from [] W is same h = absurd is
  bounded-from (c ∷ []) W is same h = absurd is
  bounded-from (c ∷ v ∷ []) W is same h = absurd is
  bounded-from (c ∷ v ∷ u ∷ []) W is same h = absurd is
  bounded-from (c ∷ v ∷ u ∷ r ∷ base) W is same h =
      let many = AllZip-long (IsStateBy rules F V P.bits) (seq F u) W.undo is.2.values in
      omega (arith, leb-true (length_at F (height_in F u) u) P.history h, length_at-is F (height_in F u) u, many, same)

  pub valid-stands : (W : Workspace) × StandsForBy rules P W × HasBoundedUndo W
  unfolding roots_are_of_kind undo_fits
  valid-stands =
      let from = roots-from P.roots (roots-passed n F P.roots valid.kinds) in
      (from.0, (from.1, from.2), bounded-from P.roots from.0 from.1 from.2 valid.fits)
