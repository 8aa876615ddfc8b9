-- What stands for a workspace is of its kind.
use Rattle.std.proofs.Common.{◌≡◌, ℕ, zero, suc, ◌+◌, ◌<◌, ◌≤◌, Bool, true, ◌&&◌, List, [], ◌∷◌, Option, Some, None, length, get_or, refl, ap, subst, ◌∙◌, arith}
use Rattle.std.specs.List.{All, list_all}
use Rattle.std.specs.Ordering.{nat_cmp}
use Rattle.std.specs.Cmp.Lexicographic.{slice_cmp}
use Rattle.std.proofs.lemmas.Bool.{and_from}
use Rattle.std.proofs.lemmas.List.Sums.{list_all-from_AllPass}
use Rattle.elem_core.specs.Naming.{is_name}
use Rattle.elem_core.proofs.NamingLemmas.{is_name-yes}
use Rattle.node_heap.specs.Links.{count, LeadsDown}
use Rattle.node_heap.specs.Forms.{Form, Forms, node, trie, links_in}
use Rattle.rrb_core.specs.Seq.{height_in, seq_at, seq, IsWell, IsWellShaped}
use Rattle.rrb_core.proofs.LinkCounts.{all-counted}
use Rattle.champ_chain.specs.Entry.{Entry}
use Rattle.champ_trie.specs.Trie.{IsTrie, code_by}
use Rattle.pool_order.proofs.Places.{flat_map-has}
use Rattle.pool_text.specs.Rules.{Rules}
use Rattle.pool_check.specs.Tries.{entries_below}
use Rattle.pool_check.specs.Kinds.{is_vector_root, is_trie_root, is_pair_of, is_state_of, is_cell_of, elements_pass, is_vector_of, is_trie_of, is_name_cell, is_lines_vector, is_buffer_map, is_stars_set, is_state, is_versions_map, is_history, are_roots}
use Rattle.pool_check.proofs.RootLemmas.{root_by_root, roots-one_by_one}
use Rattle.shell_terms.specs.Edit.{Bytes}
use Rattle.plain_space.specs.Workspace.{Named, Names, State, Workspace}
use Rattle.state_rows.specs.Reading.{IsVectorOver, IsText, AreLines, IsTrieOfNamesBy, IsNamedBy, AreNamesBy, IsStateBy}
use Rattle.state_rows.specs.Standing.{IsBase, StandForBy}
use Rattle.state_rows.proofs.CoverSpace.{entries-bound, zip-at}
use Rattle.state_rows.proofs.PassesLists.{most-test}
use Rattle.state_rows.proofs.PassesTries.{each-below}

counted-pass : (test : ℕ → Bool) (ks : List ℕ) → ((k : ℕ) → 0 < count k ks → test k ≡ true) → list_all test ks ≡ true
counted-pass test ks each = list_all-from_AllPass test ks (all-counted (λ k. test k ≡ true) ks each)

-- a trie row, by its form
pub trie-form : (F : Forms Bytes) (code : Bytes → ℕ) (left depth l : ℕ) (E : List (Entry Bytes)) → IsTrie (slice_cmp nat_cmp) code F (suc left) depth l E → (e : ℕ) × (m : ℕ) × (links : List ℕ) × (F l ≡ Some (node (trie depth e m) links))
unfolding IsTrie
trie-form F code left depth l E is = (is.entries, is.nodes, is.links, is.row.row)

-- each row that is there has a link below n
module _ (F : Forms Bytes) (falls : LeadsDown (λ l. l) (links_in F)) (n : ℕ) (there : (l : ℕ) (r : Form Bytes) → F l ≡ Some r → l < n) (bits : ℕ) where
  vector-root-is : (height l : ℕ) → height_in F l ≡ height → IsWell F height l → (1 ≤ height → 2 ≤ length (links_in F l)) → is_vector_root (F l) ≡ true
  unfolding IsWell
  vector-root-is zero l high well two = ap is_vector_root well.kind
  vector-root-is (suc height) l high well two = ap is_vector_root well.kind ∙ most-test 2 (length (links_in F l)) (two (omega arith))

  elements-pass : (test : ℕ → Bool) (height l : ℕ) → ((k : ℕ) → 0 < count k (seq_at F height l) → test k ≡ true) → elements_pass F test height l ≡ true
  unfolding elements_pass seq_at
  elements-pass test zero l each = counted-pass test (links_in F l) each
  elements-pass test (suc height) l each =
      counted-pass (elements_pass F test height) (links_in F l) (λ k has. elements-pass test height k (λ j some. each j (flat_map-has (seq_at F height) (links_in F l) k j has some)))

  vector-is : {X : Type 0} (IsValue : ℕ → X → Type 0) (test : ℕ → Bool) → ((k : ℕ) (x : X) → IsValue k x → test k ≡ true) → (l : ℕ) (xs : List X) → IsVectorOver F (IsWellShaped F) bits IsValue l xs → is_vector_of F test l ≡ true
  vector-is IsValue test each l xs is =
      and_from (is_vector_root (F l)) (elements_pass F test (height_in F l) l) (vector-root-is (height_in F l) l refl is.vector.well is.vector.two)
      (elements-pass test (height_in F l) l (λ k some. let with = zip-at IsValue (seq F l) xs is.values k some in each k with.0 with.1))

  lines-are : (l : ℕ) (xs : List Bytes) → AreLines F (IsWellShaped F) bits l xs → is_lines_vector n F l ≡ true
  lines-are = vector-is (IsText F (IsWellShaped F) bits) (λ k. is_cell_of (λ _. true) (F k)) (λ k text is. ap (is_cell_of (λ _. true)) is.row)

  module _ {rules : Rules} where
    trie-is : (test : ℕ → Bool) (l : ℕ) (E : List (Entry Bytes)) → IsTrieOfNamesBy rules F (IsWellShaped F) bits l E → All (λ e. test e.link ≡ true) E → is_trie_of n F test l ≡ true
    trie-is test l E is all =
        let one_more : rules.deepest + 1 ≡ suc rules.deepest = omega arith in
        let row = trie-form F (code_by rules.code_of bits) rules.deepest 0 l E (subst (λ n. IsTrie (slice_cmp nat_cmp) (code_by rules.code_of bits) F n 0 l E) one_more is.trie.trie) in
        and_from (is_trie_root (F l)) (list_all (λ e. test e.link) (entries_below n F l)) (ap is_trie_root row.3)
        (each-below F falls n (code_by rules.code_of bits) rules.deepest (λ e. test e.link) (rules.deepest + 1) 0 l E (there l _ row.3) is.trie.trie all)

    named-is : {X : Type 0} (IsValue : ℕ → X → Type 0) (test : ℕ → Bool) → ((k : ℕ) (x : X) → IsValue k x → test k ≡ true) → (l : ℕ) (m : Named X) → IsNamedBy rules F (IsWellShaped F) bits IsValue l m
        → is_trie_of n F (λ e. is_pair_of (is_name_cell n F) test (F e)) l ≡ true
    named-is IsValue test each l m is =
        trie-is (λ e. is_pair_of (is_name_cell n F) test (F e)) l is.entries is.trie
        (λ i d low.
        let bound = entries-bound F (IsWellShaped F) bits IsValue l m is i d low in
        ap (is_pair_of (is_name_cell n F) test) bound.row
        ∙ and_from (is_name_cell n F bound.key_cell) (test bound.value) (ap (is_cell_of is_name) bound.cell_row ∙ is_name-yes (get_or is.entries i d).key bound.name) (each bound.value bound.thing bound.is))

    stars-are : (l : ℕ) (names : Names) → AreNamesBy rules F (IsWellShaped F) bits l names → is_stars_set n F l ≡ true
    stars-are l names is =
        trie-is (is_name_cell n F) l is.entries is.trie (λ i d low. ap (is_cell_of is_name) (is.cells i d low) ∙ is_name-yes (get_or is.entries i d).key (is.trie.names i d low))

    state-is : (l : ℕ) (now : State) → IsStateBy rules F (IsWellShaped F) bits l now → is_state n F l ≡ true
    state-is l now is =
        ap (is_state_of (is_buffer_map n F) (is_stars_set n F)) is.row
        ∙ and_from (is_buffer_map n F is.buffers) (is_stars_set n F is.stars) (named-is (AreLines F (IsWellShaped F) bits) (is_lines_vector n F) lines-are is.buffers now.buffers is.buffers_are) (stars-are is.stars now.stars is.stars_are)

  pub roots-are : (rules : Rules) (roots : List ℕ) (W : Workspace) → StandForBy rules F (IsWellShaped F) bits roots W → are_roots n F roots ≡ true
  roots-are rules [] W is = absurd is
  roots-are rules (c ∷ []) W is = absurd is
  roots-are rules (c ∷ v ∷ []) W is = absurd is
  roots-are rules (c ∷ v ∷ u ∷ []) W is = absurd is
  roots-are rules (c ∷ v ∷ u ∷ r ∷ base) W is = roots-one_by_one n F (c ∷ v ∷ u ∷ r ∷ base) ∙ by_base base W.base is.4
    where
      four : (is_state n F c && is_versions_map n F v && is_history n F u && is_history n F r) ≡ true
      four =
          and_from (is_state n F c && is_versions_map n F v && is_history n F u) (is_history n F r)
          (and_from (is_state n F c && is_versions_map n F v) (is_history n F u)
          (and_from (is_state n F c) (is_versions_map n F v) (state-is c W.current is.0) (named-is (IsStateBy rules F (IsWellShaped F) bits) (is_state n F) state-is v W.versions is.1))
          (vector-is (IsStateBy rules F (IsWellShaped F) bits) (is_state n F) state-is u W.undo is.2))
          (vector-is (IsStateBy rules F (IsWellShaped F) bits) (is_state n F) state-is r W.redo is.3)

      by_base : (base : List ℕ) (now : Option State) → IsBase (IsStateBy rules F (IsWellShaped F) bits) base now → root_by_root n F (c ∷ v ∷ u ∷ r ∷ base) ≡ true
      by_base [] None is = four
      by_base [] (Some now) is = absurd is
      by_base (l ∷ []) None is = absurd is
      by_base (l ∷ []) (Some now) is = and_from (is_state n F c && is_versions_map n F v && is_history n F u && is_history n F r) (is_state n F l) four (state-is l now is)
      by_base (l ∷ m ∷ ls) None is = absurd is
      by_base (l ∷ m ∷ ls) (Some now) is = absurd is
