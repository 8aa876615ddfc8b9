-- A pool in its order whose rows are known passes all tests.
use Rattle.std.proofs.Common.{◌≡◌, ℕ, zero, suc, ◌+◌, ◌*◌, ◌%◌, ◌^◌, ◌<◌, ◌≤◌, true, List, None, refl, ap, sym, subst, arith, inl, inr}
use Rattle.std.specs.List.{list_all, range_with_len}
use Rattle.std.proofs.Math.Pow.{pow_mono}
use Rattle.std.proofs.lemmas.Bool.{cases_eq}
use Rattle.std.proofs.lemmas.Nat.{pow_pos}
use Rattle.std.proofs.lemmas.Slice.Eq.{bytes_eq-Decides}
use Rattle.elem_core.specs.Codes.{text_code, masked_code}
use Rattle.elem_core.specs.declared.codes.TheConstants.{CODE_BITS, DEEPEST}
use Rattle.node_heap.specs.Links.{count, Reaches}
use Rattle.node_heap.specs.Forms.{links_in}
use Rattle.node_heap.proofs.Counts.{test_same, count-cons}
use Rattle.champ_trie.specs.Trie.{code_by}
use Rattle.pool_order.proofs.Places.{order-is}
use Rattle.pool_text.specs.Rows.{is_in_range}
use Rattle.pool_text.specs.Rules.{present_rules}
use Rattle.pool_text.specs.Pool.{forms_in, row_count, order_in}
use Rattle.pool_text.specs.declared.pool.Pool.{Pool}
use Rattle.pool_check.specs.Rows.{is_line_or_node, links_lead_back, texts_are_lines}
use Rattle.pool_check.specs.Vectors.{keeps_fill_rule, vectors_stand}
use Rattle.pool_check.specs.Tries.{is_canonical, tries_stand_by}
use Rattle.pool_check.specs.Roots.{roots_are_of}
use Rattle.pool_check.specs.declared.root.RootKind.{RootKind}
use Rattle.pool_check.specs.Damages.{rows_in_order, damage_with_roots}
use Rattle.pool_check.proofs.PoolLaws.{get-low}
use Rattle.pool_check.proofs.TestLemmas.{leads-down, roots-low}
use Rattle.state_rows.proofs.CoverRows.{IsKnown}
use Rattle.state_rows.proofs.PassesLists.{rows-pass, range-pass}
use Rattle.state_rows.proofs.PassesRows.{Passes, known-passes}

count-range : (a m p : ℕ) → a ≤ p → p < a + m → 0 < count p (range_with_len a m)
count-range a zero p from to = absurd (omega (arith, from, to))
count-range a (suc m) p from to = elim (cases_eq a p) as (λ _. 0 < count p (range_with_len a (suc m))) [
  | inl same ↦ omega (arith, count-cons p a (range_with_len (a + 1) m), test_same a p same)
  | inr other ↦ omega (arith, count-cons p a (range_with_len (a + 1) m), count-range (a + 1) m p (omega (arith, from, other)) (omega (arith, to)))
]

-- a code that keeps so many bits has no more
masked-low : (n bits most : ℕ) → bits ≤ most → masked_code n bits < 2 ^ most
masked-low n bits most le =
    let some : 0 < 2 ^ bits = pow_pos bits in
    let wide : 2 ^ bits ≤ 2 ^ most = pow_mono le in
    let less : n % 2 ^ bits < 2 ^ bits = omega (arith, some) in
    omega (arith, less, wide)

module _ (P : Pool) (back : links_lead_back P ≡ true) (ordered : rows_in_order P ≡ true) where
  -- each row is reached
  pub reached : (l : ℕ) → l < row_count P → (r : ℕ) × (0 < count r P.roots) × Reaches (links_in (forms_in P)) r l
  unfolding rows_in_order
  reached l low =
      let order_is : order_in P ≡ range_with_len 0 (row_count P) = (bytes_eq-Decides (order_in P) (range_with_len 0 (row_count P))).0 ordered in
      (order-is (λ k. k) (links_in (forms_in P)) (leads-down P back) (row_count P) P.roots (roots-low P back)).reached l (omega (arith, count-range 0 (row_count P) l (omega arith) (omega (arith, low)), ap (count l) order_is))

  module _ (bits : P.bits ≡ CODE_BITS) (known : (r l : ℕ) → 0 < count r P.roots → Reaches (links_in (forms_in P)) r l → IsKnown (forms_in P) (code_by text_code CODE_BITS) DEEPEST l) where
    each-passes : (l : ℕ) → l < row_count P → Passes (forms_in P) (leads-down P back) (row_count P) (code_by present_rules.code_of P.bits) present_rules.deepest l
    each-passes l low =
        let from = reached l low in
        subst (λ b. Passes (forms_in P) (leads-down P back) (row_count P) (code_by present_rules.code_of b) present_rules.deepest l) (sym bits)
        (known-passes (forms_in P) (leads-down P back) (row_count P) (code_by text_code CODE_BITS) DEEPEST (λ key. masked-low (text_code key) CODE_BITS (5 * (DEEPEST + 1)) (omega arith)) l low (known from.0 l from.1 from.2))

    pub all-in-range : list_all is_in_range P.rows ≡ true
    all-in-range = rows-pass is_in_range P.rows (λ i r is. (each-passes i (get-low P.rows i r is)).in_range r is)

    all-lines : texts_are_lines P ≡ true
    unfolding texts_are_lines
    all-lines = rows-pass is_line_or_node P.rows (λ i r is. (each-passes i (get-low P.rows i r is)).line r is)

    all-vectors : vectors_stand P ≡ true
    unfolding vectors_stand
    all-vectors = rows-pass (keeps_fill_rule (forms_in P)) P.rows (λ i r is. (each-passes i (get-low P.rows i r is)).filled r is)

    all-tries : tries_stand_by present_rules P ≡ true
    unfolding tries_stand_by
    all-tries =
        range-pass (λ l. is_canonical (row_count P) (forms_in P) (code_by present_rules.code_of P.bits) present_rules.deepest l (forms_in P l)) 0 (row_count P) (λ l from to. (each-passes l (omega (arith, to))).canonical)

    pub all-passed : (kinds : List RootKind) → roots_are_of kinds P ≡ true → damage_with_roots present_rules kinds P ≡ None
    unfolding damage_with_roots
    all-passed kinds are = rw (back, all-lines, all-vectors, all-tries, are, ordered) refl
