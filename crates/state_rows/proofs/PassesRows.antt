-- Known rows pass the tests of single rows, of vectors and of tries.
use Rattle.std.proofs.Common.{◌≡◌, ℕ, zero, suc, ◌+◌, ◌-◌, ◌*◌, ◌^◌, ◌<◌, ◌≤◌, Bool, true, false, ◌&&◌, ◌||◌, not, List, [], ◌∷◌, Option, Some, None, length, take, get_or, refl, ap, sym, ◌∙◌, arith}
use Rattle.std.specs.Prelude.{nat_le, nat_lt, nat_eq, ◌==◌, sum_by, option_to_list}
use Rattle.std.specs.List.{All, list_all, list_any, Contains}
use Rattle.std.specs.Ordering.{nat_cmp}
use Rattle.std.specs.Cmp.Lexicographic.{slice_cmp}
use Rattle.std.proofs.Math.Nat.{mod-eq_of_lt}
use Rattle.std.proofs.lemmas.Bool.{and_from, eq-eqb, eqb-true}
use Rattle.std.proofs.lemmas.List.Sums.{list_all-from_AllPass}
use Rattle.elem_core.specs.Cell.{IsCell}
use Rattle.elem_core.specs.declared.TheConstants.{MAX_LINE, NEWLINE}
use Rattle.node_heap.specs.Links.{LeadsDown}
use Rattle.node_heap.specs.Forms.{Form, Forms, cell, node, leaf, inner, trie, chain, pair, state, links_in}
use Rattle.rrb_core.specs.Seq.{seq_at, IsThick, IsWell}
use Rattle.champ_chain.specs.Entry.{Entry}
use Rattle.champ_chain.specs.Chain.{AreChainRows}
use Rattle.champ_trie.specs.Trie.{IsTrie}
use Rattle.champ_trie.proofs.PlaceLemmas.{sets-short}
use Rattle.pool_text.specs.Rows.{is_between, is_in_range_to}
use Rattle.pool_check.specs.Rows.{is_line_or_node}
use Rattle.pool_check.specs.Vectors.{has_height, is_thick, length_at, are_children, keeps_fill_rule}
use Rattle.pool_check.specs.Tries.{is_canonical}
use Rattle.pool_check.proofs.PoolPasses.{less-test}
use Rattle.pool_check.proofs.VectorLaw.{length_at-is}
use Rattle.shell_terms.specs.Edit.{Bytes}
use Rattle.state_rows.proofs.CoverRows.{IsKnown, known_cell, known_vector, known_trie, known_chain, known_pair, known_state}
use Rattle.state_rows.proofs.PassesLists.{most-test}
use Rattle.state_rows.proofs.PassesTries.{trie-passes, chain-passes}

between-test : (a b n : ℕ) → a ≤ n → n ≤ b → is_between a b n ≡ true
between-test a b n low high = and_from (nat_le a n) (nat_le n b) (most-test a n low) (most-test n b high)

-- what is passed one by one is passed by all
list-pass : (test : ℕ → Bool) (P : ℕ → Type 0) → ((k : ℕ) → P k → test k ≡ true) → (ks : List ℕ) → All P ks → list_all test ks ≡ true
list-pass test P each ks all = list_all-from_AllPass test ks (λ i d low. each (get_or ks i d) (all i d low))

-- a text without a newline has none in the words of the test
unbroken-test : (text : Bytes) → (Contains text NEWLINE → ⊥) → not (list_any (λ b. b == NEWLINE) text) ≡ true
unbroken-test [] none = refl
unbroken-test (x ∷ xs) none = by_first (nat_eq x NEWLINE) refl (unbroken-test xs (λ there. none (suc there.0, omega (arith, there.1), there.2)))
  where
    by_first : (b : Bool) → nat_eq x NEWLINE ≡ b → not (list_any (λ y. y == NEWLINE) xs) ≡ true → not (b || list_any (λ y. y == NEWLINE) xs) ≡ true
    by_first true e rest = absurd (none (0, omega arith, eqb-true x NEWLINE e))
    by_first false e rest = rest

line-test : (text : Bytes) → IsCell text → is_line_or_node (cell text) ≡ true
line-test text is = and_from (not (list_any (λ b. b == NEWLINE) text)) (nat_le (length text) MAX_LINE) (unbroken-test text is.unbroken) (most-test (length text) MAX_LINE is.short)

module _ (F : Forms Bytes) where
  high-test : (n k : ℕ) → IsWell F n k → has_height n (F k) ≡ true
  unfolding IsWell
  high-test zero k well = ap (has_height 0) well.kind
  high-test (suc n) k well = ap (has_height (suc n)) well.kind ∙ eq-eqb (suc n) (suc n) refl

  thick-test : (n k : ℕ) → IsThick F n k → is_thick F n k ≡ true
  unfolding IsThick is_thick
  thick-test zero k thick = most-test 16 (length (links_in F k)) thick
  thick-test (suc n) k thick =
      and_from (nat_le 16 (length (links_in F k))) (list_all (is_thick F n) (links_in F k)) (most-test 16 (length (links_in F k)) thick.0) (list-pass (is_thick F n) (IsThick F n) (thick-test n) (links_in F k) thick.1)

  sum-is : (n l : ℕ) → sum_by (length_at F n) (links_in F l) ≡ length (seq_at F (suc n) l)
  unfolding length_at
  sum-is n l = length_at-is F (suc n) l

  children-test : (n l : ℕ) → IsWell F (suc n) l → length (seq_at F (suc n) l) < 2 ^ 32 → are_children F n (links_in F l) ≡ true
  unfolding IsWell are_children
  children-test n l well short =
      let ks : List ℕ = links_in F l in
      let a : Bool = list_all (λ k. has_height n (F k)) ks in
      let b : Bool = list_all (is_thick F n) (take (length ks - 1) ks) in
      let c : Bool = list_all (λ k. nat_le 1 (length (links_in F k))) ks in
      let d : Bool = nat_lt (sum_by (length_at F n) ks) (2 ^ 32) in
      and_from (a && b && c) d
      (and_from (a && b) c
      (and_from a b (list-pass (λ k. has_height n (F k)) (IsWell F n) (high-test n) ks well.children) (list-pass (is_thick F n) (IsThick F n) (thick-test n) (take (length ks - 1) ks) well.thick))
      (list-pass (λ k. nat_le 1 (length (links_in F k))) (λ k. 1 ≤ length (links_in F k)) (λ k some. most-test 1 (length (links_in F k)) some) ks well.not_empty))
      (less-test (sum_by (length_at F n) ks) (2 ^ 32) (omega (arith, short, sum-is n l)))

module _ (F : Forms Bytes) (falls : LeadsDown (λ l. l) (links_in F)) (n : ℕ) (code : Bytes → ℕ) (deepest : ℕ) where
  -- the row of a link passes the tests of rows, of vectors and of tries
  pub record Passes (l : ℕ) : Type 0 where
    pub in_range : (r : Form Bytes) → F l ≡ Some r → is_in_range_to deepest r ≡ true
    pub line : (r : Form Bytes) → F l ≡ Some r → is_line_or_node r ≡ true
    pub filled : (r : Form Bytes) → F l ≡ Some r → keeps_fill_rule F r ≡ true
    pub canonical : is_canonical n F code deepest l (F l) ≡ true

  -- what a row's own form passes
  by-form : (l : ℕ) (form : Form Bytes) → F l ≡ Some form → (test : Form Bytes → Bool) → test form ≡ true → (r : Form Bytes) → F l ≡ Some r → test r ≡ true
  by-form l form is test passed r at = let same : r ≡ form = (let both : Some r ≡ Some form = sym at ∙ is in cc) in ap test same ∙ passed

  passes-as : (l : ℕ) (form : Form Bytes) → F l ≡ Some form → is_in_range_to deepest form ≡ true → is_line_or_node form ≡ true → keeps_fill_rule F form ≡ true → is_canonical n F code deepest l (F l) ≡ true → Passes l
  passes-as l form is ranged line filled canonical = record { in_range = by-form l form is (is_in_range_to deepest) ranged; line = by-form l form is is_line_or_node line; filled = by-form l form is (keeps_fill_rule F) filled; canonical = canonical }

  vector-passes : (height l : ℕ) → height ≤ 7 → IsWell F height l → length (seq_at F height l) < 2 ^ 32 → Passes l
  unfolding IsWell
  vector-passes zero l low well short = passes-as l (node leaf (links_in F l)) well.kind (most-test (length (links_in F l)) 32 well.most) refl refl (ap (is_canonical n F code deepest l) well.kind)
  vector-passes (suc height) l low well short =
      let one : suc height - 1 ≡ height = omega arith in
      passes-as l (node (inner (suc height)) (links_in F l)) well.kind
      (and_from (is_between 1 7 (suc height)) (is_between 1 32 (length (links_in F l))) (between-test 1 7 (suc height) (omega arith) low) (between-test 1 32 (length (links_in F l)) well.some well.most))
      refl (ap (λ k. are_children F k (links_in F l)) one ∙ children-test F height l well short) (ap (is_canonical n F code deepest l) well.kind)

  trie-row-passes : (left depth l c : ℕ) (E : List (Entry Bytes)) → l < n → depth + suc left ≡ deepest + 1 → IsTrie (slice_cmp nat_cmp) code F (suc left) depth l E → is_canonical n F code deepest l (F l) ≡ true → Passes l
  unfolding IsTrie
  trie-row-passes left depth l c E low levels is canonical =
      passes-as l (node (trie depth is.entries is.nodes) is.links) is.row.row
      (and_from (nat_le depth deepest && nat_lt is.entries (2 ^ 32) && nat_lt is.nodes (2 ^ 32)) (nat_le (length is.links) 32)
      (and_from (nat_le depth deepest && nat_lt is.entries (2 ^ 32)) (nat_lt is.nodes (2 ^ 32))
      (and_from (nat_le depth deepest) (nat_lt is.entries (2 ^ 32)) (most-test depth deepest (omega (arith, levels))) (less-test is.entries (2 ^ 32) is.row.sets.entries_small)) (less-test is.nodes (2 ^ 32) is.row.sets.nodes_small))
      (most-test (length is.links) 32 (sets-short is.entries is.nodes is.links is.row.sets)))
      refl refl canonical

  one-or-two : (x : ℕ) (next : Option ℕ) → is_between 1 2 (length (x ∷ option_to_list next)) ≡ true
  one-or-two x None = refl
  one-or-two x (Some m) = refl

  chain-row-passes : (l : ℕ) (es : List (Entry Bytes)) → AreChainRows F (Some l) es → is_canonical n F code deepest l (F l) ≡ true → Passes l
  unfolding AreChainRows
  chain-row-passes l [] rows canonical = absurd (let none : Some l ≡ None = rows in cc)
  chain-row-passes l (e ∷ es) rows canonical =
      let same : rows.link ≡ l = (let both : Some rows.link ≡ Some l = sym rows.here in cc) in
      passes-as l (node chain (e.link ∷ option_to_list rows.next)) (ap F (sym same) ∙ rows.row) (one-or-two e.link rows.next) refl refl canonical

  -- whose codes have no bits behind their last digit
  pub known-passes : ((key : Bytes) → code key < 2 ^ (5 * (deepest + 1))) → (l : ℕ) → l < n → IsKnown F code deepest l → Passes l
  known-passes small l low (known_cell text is line) = passes-as l (cell text) is refl (line-test text line) refl (ap (is_canonical n F code deepest l) is)
  known-passes small l low (known_vector h few well short whole) = vector-passes h l few well short
  known-passes small l low (known_trie left depth c E levels is agree many) = trie-row-passes left depth l c E low levels is (trie-passes F falls n code deepest left depth l c E low levels is agree many)
  known-passes small l low (known_chain c es rows rising agree) =
      chain-row-passes l es rows (chain-passes F falls n code deepest l c es low rows rising (λ i d there. sym (mod-eq_of_lt (small (get_or es i d).key)) ∙ agree i d there))
  known-passes small l low (known_pair k m is first second) = passes-as l (node pair (k ∷ m ∷ [])) is refl refl refl (ap (is_canonical n F code deepest l) is)
  known-passes small l low (known_state k m is first second) = passes-as l (node state (k ∷ m ∷ [])) is refl refl refl (ap (is_canonical n F code deepest l) is)
