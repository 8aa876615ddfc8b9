-- What small pools stand for.
use Rattle.std.proofs.Common.{◌≡◌, ℕ, Bool, true, false, cond, List, [], ◌∷◌, Some, None, refl, ap, sym, subst, ◌∙◌}
use Rattle.std.specs.Prelude.{is_some, option_map}
use Rattle.std.specs.List.{All, AllZip, find}
use Rattle.std.specs.Ordering.{nat_cmp, is_eq, eq_by_cmp}
use Rattle.std.specs.Cmp.Lexicographic.{slice_cmp}
use Rattle.std.specs.FinMap as map
use Rattle.std.proofs.lemmas.Cmp.{nat_list_cmp_total}
use Rattle.std.proofs.lemmas.List.Elements.{All-nil, All-cons}
use Rattle.elem_core.specs.Cell.{IsCell}
use Rattle.elem_core.specs.Codes.{text_code}
use Rattle.elem_core.specs.Naming.{IsName, is_name}
use Rattle.elem_core.proofs.NamingLemmas.{named_by_test}
use Rattle.rrb_core.specs.Seq.{seq_at, seq, IsWellShaped}
use Rattle.champ_chain.specs.Entry.{Entry, entry}
use Rattle.champ_trie.specs.Bits.{rank}
use Rattle.champ_trie.specs.Trie.{IsCanon, code_by}
use Rattle.champ_trie.specs.Walk.{rows_from}
use Rattle.champ_kinds.specs.Binding.{Binding, binding, binds, value_with}
use Rattle.champ_kinds.specs.Kinds.{IsPair}
use Rattle.pool_order.specs.Order.{places, order}
use Rattle.pool_text.specs.Pool.{forms_in, row_count}
use Rattle.pool_text.specs.Documents.{start_pool, two_cells, shared_empties, sub_node, one_line_twice}
use Rattle.pool_text.specs.declared.pool.Pool.{Pool}
use Rattle.pool_check.specs.Documents.{chained}
use Rattle.pool_check.specs.Rows.{rows_in_range_by, links_lead_back, texts_are_lines}
use Rattle.pool_check.specs.Vectors.{is_thick, length_at, are_children, vectors_stand}
use Rattle.pool_check.specs.Tries.{entries_below, are_branches, tries_stand_by}
use Rattle.pool_check.specs.Kinds.{is_vector_root, is_trie_root, elements_pass, are_roots, roots_are_of_kind, undo_fits}
use Rattle.pool_check.specs.Damages.{rows_in_order, IsValid}
use Rattle.pool_check.proofs.PoolLaws.{vector-roots-well, trie-roots-canonical}
use Rattle.shell_terms.specs.Edit.{Bytes}
use Rattle.plain_space.specs.Workspace.{Named, start}
use Rattle.state_rows.specs.Reading.{StandsIfThere, IsVectorOver, IsTrieOfNames, IsNamed, AreNames}
use Rattle.state_rows.specs.Standing.{StandsFor}
use Rattle.state_rows.proofs.ValidSpace.{line-passed}
use Rattle.state_rows.specs.Worked.{two_lines, two_buffers, space_of}

-- what a list of bindings and a list of values say of a name, where they go together
reads-zip : {X : Type 0} (Is : ℕ → X → Type 0) (M : List (Binding Bytes)) (values : List (Bytes × X)) → AllZip (λ b v. (b.key ≡ v.0) × Is b.value v.1) M values → (name : Bytes)
    → StandsIfThere Is (value_with (slice_cmp nat_cmp) name M) (map.find (slice_cmp nat_cmp) name values)
reads-zip Is [] [] zip name = tt
reads-zip Is [] (v ∷ values) zip name = absurd zip
reads-zip Is (b ∷ M) [] zip name = absurd zip
reads-zip {X} Is (b ∷ M) (v ∷ values) zip name =
    subst (λ k. StandsIfThere Is (option_map (λ (c : Binding Bytes). c.value) (cond (is_eq (slice_cmp nat_cmp name b.key)) (Some b) (find (binds (slice_cmp nat_cmp) name) M))) (cond (is_eq (slice_cmp nat_cmp name k)) (Some v.1) (map.find (slice_cmp nat_cmp) name values))) zip.0.0
    (by_key (is_eq (slice_cmp nat_cmp name b.key)) (reads-zip Is M values zip.1 name))
  where
    by_key : (t : Bool) → StandsIfThere Is (value_with (slice_cmp nat_cmp) name M) (map.find (slice_cmp nat_cmp) name values)
        → StandsIfThere Is (option_map (λ (c : Binding Bytes). c.value) (cond t (Some b) (find (binds (slice_cmp nat_cmp) name) M))) (cond t (Some v.1) (map.find (slice_cmp nat_cmp) name values))
    by_key true later = zip.0.1
    by_key false later = later

-- what maps of one name, and of two, answer
get-one : {X : Type 0} (k : Bytes) (x : X) (name : Bytes) → map.get (map.insert (map.empty {R = slice_cmp nat_cmp}) k x) name ≡ map.find (slice_cmp nat_cmp) name ((k, x) ∷ [])
get-one k x name = map.get-insert nat_list_cmp_total map.empty k x name ∙ ap (cond (eq_by_cmp (slice_cmp nat_cmp) name k) (Some x)) (map.get-empty (slice_cmp nat_cmp) name)

get-two : {X : Type 0} (k j : Bytes) (x y : X) (name : Bytes) → map.get (map.insert (map.insert (map.empty {R = slice_cmp nat_cmp}) j y) k x) name ≡ map.find (slice_cmp nat_cmp) name ((k, x) ∷ (j, y) ∷ [])
get-two k j x y name =
    map.get-insert nat_list_cmp_total (map.insert map.empty j y) k x name ∙ ap (cond (eq_by_cmp (slice_cmp nat_cmp) name k) (Some x)) (get-one j y name)

-- of one value at both names either comes first
either-first : {X : Type 0} (t u : Bool) (x : X) → cond t (Some x) (cond u (Some x) None) ≡ cond u (Some x) (cond t (Some x) None)
either-first true true x = refl
either-first true false x = refl
either-first false true x = refl
either-first false false x = refl

module _ (P : Pool) (valid : IsValid P) where
  trie-of : (l : ℕ) (E : List (Entry Bytes)) → is_trie_root (forms_in P l) ≡ true → entries_below (row_count P) (forms_in P) l ≡ E → All (λ e. IsName e.key) E → IsTrieOfNames (forms_in P) (IsWellShaped (forms_in P)) P.bits l E
  trie-of l E root are names = record { trie = subst (IsCanon (slice_cmp nat_cmp) (code_by text_code P.bits) (forms_in P) l) are (trie-roots-canonical P valid l root); names = names }

  named-of : {X : Type 0} (Is : ℕ → X → Type 0) (l : ℕ) (E : List (Entry Bytes)) (M : List (Binding Bytes)) (values : List (Bytes × X)) (m : Named X) → is_trie_root (forms_in P l) ≡ true → entries_below (row_count P) (forms_in P) l ≡ E
      → All (λ e. IsName e.key) E → AllZip (IsPair (forms_in P)) E M → AllZip (λ b v. (b.key ≡ v.0) × Is b.value v.1) M values → ((name : Bytes) → map.get m name ≡ map.find (slice_cmp nat_cmp) name values)
      → IsNamed (forms_in P) (IsWellShaped (forms_in P)) P.bits Is l m
  named-of Is l E M values m root are names pairs zip gets = record {
    entries = E;
    bindings = M;
    trie = trie-of l E root are names;
    pairs = pairs;
    reads = λ name. subst (StandsIfThere Is (value_with (slice_cmp nat_cmp) name M)) (sym (gets name)) (reads-zip Is M values zip name);
  }

  nothing-named : {X : Type 0} (Is : ℕ → X → Type 0) (l : ℕ) → is_trie_root (forms_in P l) ≡ true → entries_below (row_count P) (forms_in P) l ≡ [] → IsNamed (forms_in P) (IsWellShaped (forms_in P)) P.bits Is l map.empty
  nothing-named Is l root are = named-of Is l [] [] [] map.empty root are (All-nil (λ e. IsName e.key)) tt tt (map.get-empty (slice_cmp nat_cmp))

  no-names : (l : ℕ) → is_trie_root (forms_in P l) ≡ true → entries_below (row_count P) (forms_in P) l ≡ [] → AreNames (forms_in P) (IsWellShaped (forms_in P)) P.bits l map.empty
  no-names l root are = record {
    entries = [];
    trie = trie-of l [] root are (All-nil (λ e. IsName e.key));
    cells = All-nil _;
    reads = λ name. ap is_some (sym (map.get-empty (slice_cmp nat_cmp) name));
  }

  vector-of : {X : Type 0} (Is : ℕ → X → Type 0) (l : ℕ) (ks : List ℕ) (xs : List X) → is_vector_root (forms_in P l) ≡ true → seq (forms_in P) l ≡ ks → AllZip Is ks xs → IsVectorOver (forms_in P) (IsWellShaped (forms_in P)) P.bits Is l xs
  vector-of Is l ks xs root are zip = record { vector = vector-roots-well P valid l root; values = subst (λ js. AllZip Is js xs) (sym are) zip }

-- the pools are valid

start-valid : IsValid start_pool
unfolding places order rows_in_range_by links_lead_back texts_are_lines is_thick length_at are_children vectors_stand entries_below are_branches tries_stand_by elements_pass are_roots roots_are_of_kind undo_fits rows_in_order text_code is_name rows_from rank
start-valid = record { in_range = refl; lead_back = refl; lines = refl; vectors = refl; tries = refl; kinds = refl; fits = refl; in_order = refl }

shared-valid : IsValid shared_empties
unfolding places order rows_in_range_by links_lead_back texts_are_lines is_thick length_at are_children vectors_stand entries_below are_branches tries_stand_by elements_pass are_roots roots_are_of_kind undo_fits rows_in_order text_code is_name rows_from rank
shared-valid = record { in_range = refl; lead_back = refl; lines = refl; vectors = refl; tries = refl; kinds = refl; fits = refl; in_order = refl }

two_cells-valid : IsValid two_cells
unfolding places order rows_in_range_by links_lead_back texts_are_lines is_thick length_at are_children vectors_stand entries_below are_branches tries_stand_by elements_pass are_roots roots_are_of_kind undo_fits rows_in_order text_code is_name rows_from rank
two_cells-valid = record { in_range = refl; lead_back = refl; lines = refl; vectors = refl; tries = refl; kinds = refl; fits = refl; in_order = refl }

one_line-valid : IsValid one_line_twice
unfolding places order rows_in_range_by links_lead_back texts_are_lines is_thick length_at are_children vectors_stand entries_below are_branches tries_stand_by elements_pass are_roots roots_are_of_kind undo_fits rows_in_order text_code is_name rows_from rank
one_line-valid = record { in_range = refl; lead_back = refl; lines = refl; vectors = refl; tries = refl; kinds = refl; fits = refl; in_order = refl }

sub_node-valid : IsValid sub_node
unfolding places order rows_in_range_by links_lead_back texts_are_lines is_thick length_at are_children vectors_stand entries_below are_branches tries_stand_by elements_pass are_roots roots_are_of_kind undo_fits rows_in_order text_code is_name rows_from rank
sub_node-valid = record { in_range = refl; lead_back = refl; lines = refl; vectors = refl; tries = refl; kinds = refl; fits = refl; in_order = refl }

chained-valid : IsValid chained
unfolding places order rows_in_range_by links_lead_back texts_are_lines is_thick length_at are_children vectors_stand entries_below are_branches tries_stand_by elements_pass are_roots roots_are_of_kind undo_fits rows_in_order text_code is_name rows_from rank
chained-valid = record { in_range = refl; lead_back = refl; lines = refl; vectors = refl; tries = refl; kinds = refl; fits = refl; in_order = refl }

-- the names and the lines of these pools

-- the byte of a small letter and of a great one, and of the letter in the lines
abbrev a_key : Bytes
a_key = 97 ∷ []

abbrev A_key : Bytes
A_key = 65 ∷ []

abbrev x_line : Bytes
x_line = 120 ∷ []

a-name : IsName a_key
unfolding is_name
a-name = named_by_test a_key refl

A-name : IsName A_key
unfolding is_name
A-name = named_by_test A_key refl

x-cell : IsCell x_line
x-cell = line-passed x_line refl

pub start-stands : StandsFor start_pool start
unfolding entries_below rows_from rank seq_at
start-stands = (
  (
    record { buffers = 0; stars = 1; row = refl; buffers_are = nothing-named start_pool start-valid _ 0 refl refl; stars_are = no-names start_pool start-valid 1 refl refl },
    nothing-named start_pool start-valid _ 3 refl refl,
    vector-of start_pool start-valid _ 4 [] [] refl refl tt,
    vector-of start_pool start-valid _ 5 [] [] refl refl tt,
    tt,
  ),
  refl,
)

pub shared-stands : StandsFor shared_empties start
unfolding entries_below rows_from rank seq_at
shared-stands = (
  (
    record { buffers = 0; stars = 0; row = refl; buffers_are = nothing-named shared_empties shared-valid _ 0 refl refl; stars_are = no-names shared_empties shared-valid 0 refl refl },
    nothing-named shared_empties shared-valid _ 0 refl refl,
    vector-of shared_empties shared-valid _ 2 [] [] refl refl tt,
    vector-of shared_empties shared-valid _ 2 [] [] refl refl tt,
    tt,
  ),
  refl,
)

pub two_cells-stand : StandsFor two_cells (space_of two_lines)
unfolding entries_below rows_from rank seq_at
two_cells-stand = (
  (
    record {
      buffers = 5;
      stars = 6;
      row = refl;
      buffers_are =
          named-of two_cells two_cells-valid _ 5 (entry a_key 4 ∷ []) (binding a_key 3 ∷ []) ((a_key, x_line ∷ x_line ∷ []) ∷ []) two_lines.buffers refl refl (All-cons (λ e. IsName e.key) (entry a_key 4) [] a-name (All-nil (λ e. IsName e.key)))
          (record { key_cell = 0; cell = refl; row = refl; key = refl }, tt)
          ((refl, vector-of two_cells two_cells-valid _ 3 (1 ∷ 2 ∷ []) (x_line ∷ x_line ∷ []) refl refl (record { row = refl; line = x-cell }, (record { row = refl; line = x-cell }, tt))), tt)
          (λ name. get-one a_key (x_line ∷ x_line ∷ []) name);
      stars_are = no-names two_cells two_cells-valid 6 refl refl;
    },
    nothing-named two_cells two_cells-valid _ 8 refl refl,
    vector-of two_cells two_cells-valid _ 9 [] [] refl refl tt,
    vector-of two_cells two_cells-valid _ 10 [] [] refl refl tt,
    tt,
  ),
  refl,
)

pub one_line-stands : StandsFor one_line_twice (space_of two_lines)
unfolding entries_below rows_from rank seq_at
one_line-stands = (
  (
    record {
      buffers = 4;
      stars = 5;
      row = refl;
      buffers_are =
          named-of one_line_twice one_line-valid _ 4 (entry a_key 3 ∷ []) (binding a_key 2 ∷ []) ((a_key, x_line ∷ x_line ∷ []) ∷ []) two_lines.buffers refl refl (All-cons (λ e. IsName e.key) (entry a_key 3) [] a-name (All-nil (λ e. IsName e.key)))
          (record { key_cell = 0; cell = refl; row = refl; key = refl }, tt)
          ((refl, vector-of one_line_twice one_line-valid _ 2 (1 ∷ 1 ∷ []) (x_line ∷ x_line ∷ []) refl refl (record { row = refl; line = x-cell }, (record { row = refl; line = x-cell }, tt))), tt)
          (λ name. get-one a_key (x_line ∷ x_line ∷ []) name);
      stars_are = no-names one_line_twice one_line-valid 5 refl refl;
    },
    nothing-named one_line_twice one_line-valid _ 7 refl refl,
    vector-of one_line_twice one_line-valid _ 8 [] [] refl refl tt,
    vector-of one_line_twice one_line-valid _ 9 [] [] refl refl tt,
    tt,
  ),
  refl,
)

pub sub_node-stands : StandsFor sub_node (space_of two_buffers)
unfolding entries_below rows_from rank seq_at
sub_node-stands = (
  (
    record {
      buffers = 7;
      stars = 8;
      row = refl;
      buffers_are =
          named-of sub_node sub_node-valid _ 7 (entry a_key 2 ∷ entry A_key 5 ∷ []) (binding a_key 1 ∷ binding A_key 4 ∷ []) ((a_key, []) ∷ (A_key, []) ∷ []) two_buffers.buffers refl refl
          (All-cons (λ e. IsName e.key) (entry a_key 2) (entry A_key 5 ∷ []) a-name (All-cons (λ e. IsName e.key) (entry A_key 5) [] A-name (All-nil (λ e. IsName e.key))))
          (record { key_cell = 0; cell = refl; row = refl; key = refl }, (record { key_cell = 3; cell = refl; row = refl; key = refl }, tt))
          ((refl, vector-of sub_node sub_node-valid _ 1 [] [] refl refl tt), ((refl, vector-of sub_node sub_node-valid _ 4 [] [] refl refl tt), tt))
          (λ name. get-two a_key A_key [] [] name);
      stars_are = no-names sub_node sub_node-valid 8 refl refl;
    },
    nothing-named sub_node sub_node-valid _ 10 refl refl,
    vector-of sub_node sub_node-valid _ 11 [] [] refl refl tt,
    vector-of sub_node sub_node-valid _ 12 [] [] refl refl tt,
    tt,
  ),
  refl,
)

-- the keys of one code stand in rising order, the great letter first
pub chained-stands : StandsFor chained (space_of two_buffers)
unfolding entries_below rows_from rank seq_at
chained-stands = (
  (
    record {
      buffers = 20;
      stars = 21;
      row = refl;
      buffers_are =
          named-of chained chained-valid _ 20 (entry A_key 2 ∷ entry a_key 5 ∷ []) (binding A_key 1 ∷ binding a_key 4 ∷ []) ((A_key, []) ∷ (a_key, []) ∷ []) two_buffers.buffers refl refl
          (All-cons (λ e. IsName e.key) (entry A_key 2) (entry a_key 5 ∷ []) A-name (All-cons (λ e. IsName e.key) (entry a_key 5) [] a-name (All-nil (λ e. IsName e.key))))
          (record { key_cell = 0; cell = refl; row = refl; key = refl }, (record { key_cell = 3; cell = refl; row = refl; key = refl }, tt))
          ((refl, vector-of chained chained-valid _ 1 [] [] refl refl tt), ((refl, vector-of chained chained-valid _ 4 [] [] refl refl tt), tt))
          (λ name. get-two a_key A_key [] [] name ∙ either-first (eq_by_cmp (slice_cmp nat_cmp) name a_key) (eq_by_cmp (slice_cmp nat_cmp) name A_key) []);
      stars_are = no-names chained chained-valid 21 refl refl;
    },
    nothing-named chained chained-valid _ 23 refl refl,
    vector-of chained chained-valid _ 24 [] [] refl refl tt,
    vector-of chained chained-valid _ 25 [] [] refl refl tt,
    tt,
  ),
  refl,
)
