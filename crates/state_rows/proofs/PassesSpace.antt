-- A pool that stands for a workspace, leads back and stands in its order is valid.
use Rattle.std.proofs.Common.{◌≡◌, ℕ, zero, suc, ◌+◌, ◌*◌, ◌%◌, ◌^◌, ◌<◌, ◌≤◌, true, List, [], ◌∷◌, length, ap, arith, inl, inr}
use Rattle.std.specs.List.{range_with_len}
use Rattle.std.proofs.lemmas.Bool.{cases_eq, le-leb}
use Rattle.std.proofs.lemmas.Slice.Zip.{AllZip-long}
use Rattle.std.proofs.lemmas.Nat.{pow_pos}
use Rattle.std.proofs.Math.Pow.{pow_mono}
use Rattle.std.proofs.lemmas.Slice.Eq.{bytes_eq-Decides}
use Rattle.elem_core.specs.Codes.{masked_code}
use Rattle.node_heap.specs.Links.{count, Reaches}
use Rattle.node_heap.specs.Forms.{Forms, links_in}
use Rattle.node_heap.proofs.Counts.{test_same, count-cons}
use Rattle.champ_trie.specs.Trie.{code_by}
use Rattle.pool_order.proofs.Places.{order-is}
use Rattle.rrb_core.specs.Seq.{height_in, seq, IsWellShaped}
use Rattle.pool_text.specs.Rows.{Bytes, is_in_range_to}
use Rattle.pool_text.specs.Rules.{Rules}
use Rattle.pool_text.specs.Pool.{forms_in, row_count, order_in}
use Rattle.pool_text.specs.declared.pool.Pool.{Pool}
use Rattle.pool_check.specs.Rows.{rows_in_range_by, links_lead_back, is_line_or_node, texts_are_lines}
use Rattle.pool_check.specs.Vectors.{length_at, keeps_fill_rule, vectors_stand}
use Rattle.pool_check.specs.Tries.{is_canonical, tries_stand_by}
use Rattle.pool_check.specs.Kinds.{roots_are_of_kind, undo_is_within, undo_fits}
use Rattle.pool_check.specs.Damages.{rows_in_order, IsValidBy}
use Rattle.pool_check.proofs.PoolLaws.{get-low}
use Rattle.pool_check.proofs.TestLemmas.{leads-down, roots-low}
use Rattle.pool_check.proofs.VectorLaw.{length_at-is}
use Rattle.pool_check.proofs.VectorReadings.{all-at}
use Rattle.plain_space.specs.Workspace.{Workspace, most, HasBoundedUndo}
use Rattle.state_rows.specs.Reading.{IsStateBy}
use Rattle.state_rows.specs.Standing.{StandForBy, StandsForBy}
use Rattle.state_rows.proofs.CoverRows.{IsKnown}
use Rattle.state_rows.proofs.CoverSpace.{Covered, roots-known}
use Rattle.state_rows.proofs.PassesLists.{rows-pass, range-pass}
use Rattle.state_rows.proofs.PassesRows.{Passes, known-passes}
use Rattle.state_rows.proofs.PassesKinds.{roots-are}

-- a range has each number in it
count-range : (a m p : ℕ) → a ≤ p → p < a + m → 0 < count p (range_with_len a m)
count-range a zero p from to = absurd (omega (arith, from, to))
count-range a (suc m) p from to = elim (cases_eq a p) as (λ _. 0 < count p (range_with_len a (suc m))) [
  | inl same ↦ omega (arith, count-cons p a (range_with_len (a + 1) m), test_same a p same)
  | inr other ↦ omega (arith, count-cons p a (range_with_len (a + 1) m), count-range (a + 1) m p (omega (arith, from, other)) (omega (arith, to)))
]

-- a code that keeps so many bits has no more
masked-low : (n bits most : ℕ) → bits ≤ most → masked_code n bits < 2 ^ most
masked-low n bits most le =
    let some : 0 < 2 ^ bits = pow_pos bits in
    let wide : 2 ^ bits ≤ 2 ^ most = pow_mono le in
    let less : n % 2 ^ bits < 2 ^ bits = omega (arith, some) in
    omega (arith, less, wide)

-- each row of a pool in its order is reached
pub row-reached : (P : Pool) → links_lead_back P ≡ true → rows_in_order P ≡ true → (l : ℕ) → l < row_count P → (r : ℕ) × (0 < count r P.roots) × Reaches (links_in (forms_in P)) r l
unfolding rows_in_order
row-reached P back ordered l low =
    let order_is : order_in P ≡ range_with_len 0 (row_count P) = (bytes_eq-Decides (order_in P) (range_with_len 0 (row_count P))).0 ordered in
    (order-is (λ k. k) (links_in (forms_in P)) (leads-down P back) (row_count P) P.roots (roots-low P back)).reached l (omega (arith, count-range 0 (row_count P) l (omega arith) (omega (arith, low)), ap (count l) order_is))

module _ (rules : Rules) (P : Pool) (W : Workspace) (stands : StandsForBy rules P W) (back : links_lead_back P ≡ true) (ordered : rows_in_order P ≡ true) where
  -- and is known
  pub row-known : (l : ℕ) → l < row_count P → IsKnown (forms_in P) (code_by rules.code_of P.bits) rules.deepest l
  row-known l low =
      let from = row-reached P back ordered l low in
      (all-at (Covered rules (forms_in P) P.bits) P.roots (roots-known rules (forms_in P) P.bits P.roots W stands.0) from.0 from.1).1 l from.2

-- undo is within the bound of what the roots stand for
undo-within : (rules : Rules) (F : Forms Bytes) (bits bound : ℕ) (roots : List ℕ) (W : Workspace) → StandForBy rules F (IsWellShaped F) bits roots W → length W.undo ≤ bound → undo_is_within F bound roots ≡ true
undo-within rules F bits bound [] W is few = absurd is
undo-within rules F bits bound (c ∷ []) W is few = absurd is
undo-within rules F bits bound (c ∷ v ∷ []) W is few = absurd is
undo-within rules F bits bound (c ∷ v ∷ u ∷ []) W is few = absurd is
undo-within rules F bits bound (c ∷ v ∷ u ∷ r ∷ base) W is few =
    let many = AllZip-long (IsStateBy rules F (IsWellShaped F) bits) (seq F u) W.undo is.2.values in
    le-leb (length_at F (height_in F u) u) bound (omega (arith, few, many, length_at-is F (height_in F u) u))

-- and in any case within the greatest bound
pub undo-short : (rules : Rules) (F : Forms Bytes) (bits : ℕ) (roots : List ℕ) (W : Workspace) → StandForBy rules F (IsWellShaped F) bits roots W → length W.undo ≤ most
undo-short rules F bits [] W is = absurd is
undo-short rules F bits (c ∷ []) W is = absurd is
undo-short rules F bits (c ∷ v ∷ []) W is = absurd is
undo-short rules F bits (c ∷ v ∷ u ∷ []) W is = absurd is
undo-short rules F bits (c ∷ v ∷ u ∷ r ∷ base) W is =
    let many = AllZip-long (IsStateBy rules F (IsWellShaped F) bits) (seq F u) W.undo is.2.values in
    omega (arith, is.2.vector.short, many)

-- roots that stand for a workspace stand for it by any other bound
pub by-any-bound : (rules : Rules) (F : Forms Bytes) (V : ℕ → Type 0) (bits bound : ℕ) (roots : List ℕ) (W : Workspace) → StandForBy rules F V bits roots W → StandForBy rules F V bits roots (record W { history = bound })
by-any-bound rules F V bits bound [] W is = absurd is
by-any-bound rules F V bits bound (c ∷ []) W is = absurd is
by-any-bound rules F V bits bound (c ∷ v ∷ []) W is = absurd is
by-any-bound rules F V bits bound (c ∷ v ∷ u ∷ []) W is = absurd is
by-any-bound rules F V bits bound (c ∷ v ∷ u ∷ r ∷ base) W is = is

module _ (rules : Rules) (P : Pool) (W : Workspace) (few : P.bits ≤ 5 * (rules.deepest + 1)) (stands : StandsForBy rules P W) (fits : HasBoundedUndo W) (back : links_lead_back P ≡ true) (ordered : rows_in_order P ≡ true) where
  row-passes : (l : ℕ) → l < row_count P → Passes (forms_in P) (leads-down P back) (row_count P) (code_by rules.code_of P.bits) rules.deepest l
  row-passes l low =
      known-passes (forms_in P) (leads-down P back) (row_count P) (code_by rules.code_of P.bits) rules.deepest (λ key. masked-low (rules.code_of key) P.bits (5 * (rules.deepest + 1)) few) l low
      (row-known rules P W stands back ordered l low)

  pub standing-valid : IsValidBy rules P
  unfolding rows_in_range_by texts_are_lines vectors_stand tries_stand_by roots_are_of_kind undo_fits
  standing-valid = record {
    in_range = rows-pass (is_in_range_to rules.deepest) P.rows (λ i r is. (row-passes i (get-low P.rows i r is)).in_range r is);
    lead_back = back;
    lines = rows-pass is_line_or_node P.rows (λ i r is. (row-passes i (get-low P.rows i r is)).line r is);
    vectors = rows-pass (keeps_fill_rule (forms_in P)) P.rows (λ i r is. (row-passes i (get-low P.rows i r is)).filled r is);
    tries = range-pass (λ l. is_canonical (row_count P) (forms_in P) (code_by rules.code_of P.bits) rules.deepest l (forms_in P l)) 0 (row_count P) (λ l from to. (row-passes l (omega (arith, to))).canonical);
    kinds = roots-are (forms_in P) (leads-down P back) (row_count P) (get-low P.rows) P.bits rules P.roots W stands.0;
    fits = undo-within rules (forms_in P) P.bits P.history P.roots W stands.0 (omega (arith, fits, stands.1));
    in_order = ordered;
  }
