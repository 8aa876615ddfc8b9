-- Where the rows of new tries stand, after the rows before them, and that none stands twice.
use Rattle.std.proofs.Common.{◌≡◌, ℕ, ◌+◌, ◌-◌, ◌<◌, ◌≤◌, refl, ap, sym, ◌∙◌, arith, inl, inr, true, false, List, [], ◌∷◌, ◌++◌, length, map, get_or, Some, None, option_map}
use Rattle.std.specs.Prelude.{slice_get}
use Rattle.std.specs.List.{position_or_len}
use Rattle.std.proofs.lemmas.Bool.{cases_lt}
use Rattle.std.proofs.lemmas.List.{length-map, length-append}
use Rattle.std.proofs.lemmas.Option.{slice_get-map, slice_get_past, slice_get-get_or}
use Rattle.node_heap.specs.Forms.{Form, Forms}
use Rattle.pool_text.specs.Rows.{Bytes}
use Rattle.pool_text.proofs.Behind.{get-before, get-after}
use Rattle.pool_check.proofs.TestLemmas.{not-both}
use Rattle.pool_carry.specs.Carried.{is_of_trie}
use Rattle.pool_carry.specs.Computed.{TrieRow, same_row, form_of_row}
use Rattle.pool_carry.proofs.CanonRows.{AreNamed}
use Rattle.pool_carry.proofs.FirstRows.{AreAll, all-at, AreApart, position-passes}
use Rattle.pool_carry.proofs.NewRows.{IsNewRow}
use Rattle.pool_carry.proofs.RowsBelow.{IsIn, name_in, HasBelow}
use Rattle.pool_carry.proofs.ToldByForm.{row-told, form-told}

-- N rows that are none of tries, and then these of tries
module _ (deepest : ℕ) (code : Bytes → ℕ) (N : ℕ) (R : List TrieRow) (F : Forms Bytes) (own : List (Form Bytes)) (many : length own ≡ N)
    (new : AreAll (IsNewRow F N) R) where
  abbrev pub form_at : TrieRow → Form Bytes
  form_at r = form_of_row deepest code (name_in N R) r

  abbrev pub all_rows : List (Form Bytes)
  all_rows = own ++ map form_at R

  pub all-many : length all_rows ≡ N + length R
  all-many = length-append own (map form_at R) ∙ omega (arith, many, length-map R form_at)

  row-at : (i k : ℕ) (d : TrieRow) → k ≡ N + i → i < length R → slice_get all_rows k ≡ Some (form_at (get_or R i d))
  row-at i k d is low = get-after own (map form_at R) i k (omega (arith, is, many)) ∙ slice_get-map form_at R i ∙ ap (option_map form_at) (slice_get-get_or R i d low)

  -- a row among these stands under its name
  pub row-named : (r : TrieRow) → IsIn R r → IsNewRow F N r → slice_get all_rows (name_in N R r) ≡ Some (form_at r)
  row-named r is new_row =
      let there = position-passes (same_row r) R is in
      let q : TrieRow = get_or R (position_or_len (same_row r) R) r in
      row-at (position_or_len (same_row r) R) (name_in N R r) r refl there.0
      ∙ ap (λ s. Some (form_at s)) (sym (row-told deepest code N R F r q new_row (all-at (IsNewRow F N) R new (position_or_len (same_row r) R) r there.0) (there.1 r)))

  pub rows-named : (S : List TrieRow) → AreAll (IsIn R) S → AreAll (IsNewRow F N) S → AreNamed deepest code (name_in N R) (slice_get all_rows) S
  rows-named [] are new_rows = tt
  rows-named (r ∷ S) are new_rows = (row-named r are.0 new_rows.0, rows-named S are.1 new_rows.1)

  -- what stands at a place: one of the first rows, or one of these
  pub record IsRowAt (k i : ℕ) : Type 0 where
    pub low : i < length R
    pub place : k ≡ N + i
    pub row : (d : TrieRow) → slice_get all_rows k ≡ Some (form_at (get_or R i d))

  pub at-own : (k : ℕ) → k < N → slice_get all_rows k ≡ slice_get own k
  at-own k low = get-before own (map form_at R) k (omega (arith, low, many))

  pub at-rest : (k : ℕ) → N ≤ k → (slice_get all_rows k ≡ None → ⊥) → (i : ℕ) × IsRowAt k i
  at-rest k past some = elim (cases_lt (k - N) (length R)) as (λ _. (i : ℕ) × IsRowAt k i) [
    | inl low ↦ (k - N, record { low = low; place = omega (arith, past); row = λ d. row-at (k - N) k d (omega (arith, past)) low })
    | inr end ↦ absurd (some (slice_get_past all_rows k (omega (arith, end, past, all-many))))
  ]

  module _ (none : (k : ℕ) → is_of_trie (slice_get own k) ≡ false) where
    of-trie : (k : ℕ) → is_of_trie (slice_get all_rows k) ≡ true → (i : ℕ) × IsRowAt k i
    of-trie k is = elim (cases_lt k N) as (λ _. (i : ℕ) × IsRowAt k i) [
      | inl low ↦ absurd (not-both (sym (ap is_of_trie (at-own k low) ∙ none k) ∙ is))
      | inr past ↦ at-rest k past (λ nothing. not-both (sym (ap is_of_trie nothing) ∙ is))
    ]

    -- no row of a trie stands twice
    pub rows-once : AreAll (HasBelow deepest code R) R → AreApart R → (k l : ℕ) → is_of_trie (slice_get all_rows k) ≡ true → slice_get all_rows k ≡ slice_get all_rows l → k ≡ l
    rows-once has apart k l is same = by_places (of-trie k is) (of-trie l (ap is_of_trie (sym same) ∙ is))
      where
        by_places : (i : ℕ) × IsRowAt k i → (j : ℕ) × IsRowAt l j → k ≡ l
        by_places here there =
            let d : TrieRow = record { depth = 0; entries = [] } in
            let r : TrieRow = get_or R here.0 d in
            let s : TrieRow = get_or R there.0 d in
            let both : Some (form_at r) ≡ Some (form_at s) = sym (here.1.row d) ∙ same ∙ there.1.row d in
            let forms : form_at r ≡ form_at s = cc in
            let rows : same_row r s ≡ true =
            form-told deepest code N R F r s (all-at (IsNewRow F N) R new here.0 d here.1.low) (all-at (IsNewRow F N) R new there.0 d there.1.low)
            (all-at (HasBelow deepest code R) R has here.0 d here.1.low) (all-at (HasBelow deepest code R) R has there.0 d there.1.low) forms in
            let places : here.0 ≡ there.0 = apart here.0 there.0 d here.1.low there.1.low rows in
            omega (arith, here.1.place, there.1.place, places)
