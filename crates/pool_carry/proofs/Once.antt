-- The keys of a trie's entries are different, at whatever depth it begins.
use Rattle.std.proofs.Common.{◌≡◌, ℕ, zero, suc, ◌<◌, ◌≤◌, refl, ap, sym, subst, ◌∙◌, arith, inl, inr, Bool, true, false, ◌&&◌, cond, Ordering, List, [], ◌∷◌, length, Some}
use Rattle.std.specs.Prelude.{count_by, nat_eq, nat_le, slice_index, ◌==◌, ◌||◌}
use Rattle.std.specs.Ordering.{nat_cmp, is_eq}
use Rattle.std.specs.declared.cmp.Ordering.TheVariants.{Less, Equal, Greater}
use Rattle.std.specs.Cmp.Lexicographic.{slice_cmp}
use Rattle.std.specs.FinMap.{nat_cmp-IsAntisymmetric, slice_cmp-IsAntisymmetric}
use Rattle.std.proofs.Math.Nat.{mod-lt}
use Rattle.std.proofs.lemmas.Bool.{cases_Bool, eq-eqb, leb-true}
use Rattle.std.proofs.lemmas.Cmp.{nat_list_cmp_total}
use Rattle.elem_core.specs.Codes.{digit_at}
use Rattle.node_heap.specs.Forms.{Forms, node, trie}
use Rattle.champ_chain.specs.Entry.{Entry, entry, has_key, AreDistinct}
use Rattle.champ_chain.proofs.SetLemmas.{same-count, count-cons}
use Rattle.champ_chain.proofs.RisingLemmas.{rising-distinct}
use Rattle.champ_trie.specs.Bits.{has, rank}
use Rattle.champ_trie.specs.Trie.{IsPlace, IsTrie, code_by, part}
use Rattle.champ_trie.proofs.PlaceLemmas.{place-entry, place-node, place-empty}
use Rattle.pool_text.specs.Rows.{Bytes, is_in_range_to}
use Rattle.pool_text.specs.Rules.{Rules}
use Rattle.pool_text.specs.Pool.{forms_in, row_count}
use Rattle.pool_text.specs.declared.pool.Pool.{Pool}
use Rattle.pool_check.specs.Tries.{agree_above, are_branches, entries_below, is_canonical}
use Rattle.pool_check.specs.Rows.{rows_in_range_by}
use Rattle.pool_check.specs.Damages.{IsValidBy}
use Rattle.pool_check.proofs.PoolLaws.{canonical-at}
use Rattle.pool_check.proofs.TestLemmas.{all-at, and-second, leads-down, not-both}
use Rattle.pool_check.proofs.TrieLaw.{trie-at}

abbrev one_if : Bool → ℕ
one_if b = cond b 1 0

equal-is : (r : Ordering) → is_eq r ≡ true → r ≡ Equal
equal-is Less h = absurd (not-both h)
equal-is Equal h = refl
equal-is Greater h = absurd (not-both h)

key-is : (key : Bytes) (e : Entry Bytes) → has_key (slice_cmp nat_cmp) key e ≡ true → key ≡ e.key
key-is key e h = slice_cmp-IsAntisymmetric nat_cmp-IsAntisymmetric key e.key (equal-is (slice_cmp nat_cmp key e.key) h)

one-at-most : (key : Bytes) (e : Entry Bytes) → count_by (has_key (slice_cmp nat_cmp) key) (e ∷ []) ≤ 1
one-at-most key e = elim (cases_Bool (has_key (slice_cmp nat_cmp) key e)) as (λ _. count_by (has_key (slice_cmp nat_cmp) key) (e ∷ []) ≤ 1) [
  | inl there ↦ omega (arith, ap one_if there, count-cons (has_key (slice_cmp nat_cmp) key) e [])
  | inr none ↦ omega (arith, ap one_if none, count-cons (has_key (slice_cmp nat_cmp) key) e [])
]

module _ (F : Forms Bytes) (code : Bytes → ℕ) where
  -- all entries with a key have its digit
  count-part : (key : Bytes) (depth : ℕ) (E : List (Entry Bytes))
      → count_by (has_key (slice_cmp nat_cmp) key) E ≡ count_by (has_key (slice_cmp nat_cmp) key) (part (slice_cmp nat_cmp) code depth (digit_at (code key) depth) E)
  count-part key depth [] = refl
  count-part key depth (e ∷ E) = by_digit (nat_eq (digit_at (code e.key) depth) p) refl (count-part key depth E)
    where
      p : ℕ
      p = digit_at (code key) depth

      test : Entry Bytes → Bool
      test = has_key (slice_cmp nat_cmp) key

      by_digit : (b : Bool) → nat_eq (digit_at (code e.key) depth) p ≡ b → count_by test E ≡ count_by test (part (slice_cmp nat_cmp) code depth p E)
          → count_by test (e ∷ E) ≡ count_by test (cond b (e ∷ part (slice_cmp nat_cmp) code depth p E) (part (slice_cmp nat_cmp) code depth p E))
      by_digit true h rest = omega (arith, rest, count-cons test e E, count-cons test e (part (slice_cmp nat_cmp) code depth p E))
      by_digit false h rest = elim (cases_Bool (test e)) as (λ _. count_by test (e ∷ E) ≡ count_by test (part (slice_cmp nat_cmp) code depth p E)) [
        | inl same ↦ absurd (not-both (sym h ∙ eq-eqb (digit_at (code e.key) depth) p (ap (λ k. digit_at (code k) depth) (sym (key-is key e same)))))
        | inr other ↦ let none : one_if (test e) ≡ 0 = ap one_if other in omega (arith, rest, count-cons test e E, none)
      ]

  trie-once : (left depth l : ℕ) (E : List (Entry Bytes)) → IsTrie (slice_cmp nat_cmp) code F left depth l E → (key : Bytes) → count_by (has_key (slice_cmp nat_cmp) key) E ≤ 1
  unfolding IsTrie
  trie-once zero depth l E chained key =
      let same = same-count (has_key (slice_cmp nat_cmp) key) chained.entries E chained.same in
      let once = (rising-distinct (slice_cmp nat_cmp) nat_list_cmp_total chained.entries chained.rising).once key in
      omega (arith, same, once)
  trie-once (suc left) depth l E row key = by_place (trie-once left)
    where
      p : ℕ
      p = digit_at (code key) depth

      P : List (Entry Bytes)
      P = part (slice_cmp nat_cmp) code depth p E

      by_place : ((depth l : ℕ) (E : List (Entry Bytes)) → IsTrie (slice_cmp nat_cmp) code F left depth l E → (key : Bytes) → count_by (has_key (slice_cmp nat_cmp) key) E ≤ 1) → count_by (has_key (slice_cmp nat_cmp) key) E ≤ 1
      by_place below =
          let here = row.places p (mod-lt _ (omega arith)) in
          let split = count-part key depth E in
          elim (cases_Bool (has row.entries p)) as (λ _. count_by (has_key (slice_cmp nat_cmp) key) E ≤ 1) [
            | inl there ↦
                let one = subst (λ place. IsPlace F (λ k Q. IsTrie (slice_cmp nat_cmp) code F left (suc depth) k Q) place P) (place-entry row.entries row.nodes row.links p there) here in
                omega (arith, split, ap (count_by (has_key (slice_cmp nat_cmp) key)) one.1, one-at-most key (entry one.0 (slice_index row.links (rank row.entries p))))
            | inr absent ↦ elim (cases_Bool (has row.nodes p)) as (λ _. count_by (has_key (slice_cmp nat_cmp) key) E ≤ 1) [
              | inl there ↦
                  let node_is = subst (λ place. IsPlace F (λ k Q. IsTrie (slice_cmp nat_cmp) code F left (suc depth) k Q) place P) (place-node row.entries row.nodes row.links p absent there) here in
                  omega (arith, split, below (suc depth) _ P node_is.1 key)
              | inr none ↦
                  let empty : P ≡ [] = subst (λ place. IsPlace F (λ k Q. IsTrie (slice_cmp nat_cmp) code F left (suc depth) k Q) place P) (place-empty row.entries row.nodes row.links p absent none) here in
                  omega (arith, split, ap (count_by (has_key (slice_cmp nat_cmp) key)) empty)
            ]
          ]

-- a trie row of depth 1 of a valid pool has two entries or more, whose keys are different
module _ (from : Rules) (P : Pool) (valid : IsValidBy from P) (l : ℕ) (low : l < row_count P) (e d : ℕ) (ks : List ℕ) (is : forms_in P l ≡ Some (node (trie 1 e d) ks)) where
  abbrev E : List (Entry Bytes)
  E = entries_below (row_count P) (forms_in P) l

  abbrev code : Bytes → ℕ
  code = code_by from.code_of P.bits

  pub below-distinct : AreDistinct (slice_cmp nat_cmp) (entries_below (row_count P) (forms_in P) l)
  unfolding rows_in_range_by
  below-distinct =
      let trie_is =
      trie-at (forms_in P) (leads-down P valid.lead_back) (row_count P) code from.deepest (canonical-at from P valid.tries) (all-at (is_in_range_to from.deepest) P.rows valid.in_range) from.deepest 1 e d l ks (omega arith) low is in
      record { once = trie-once (forms_in P) code from.deepest 1 l E trie_is }

  pub below-two : 2 ≤ length (entries_below (row_count P) (forms_in P) l)
  below-two =
      let canonical : is_canonical (row_count P) (forms_in P) code from.deepest l (Some (node (trie 1 e d) ks)) ≡ true = ap (is_canonical (row_count P) (forms_in P) code from.deepest l) (sym is) ∙ canonical-at from P valid.tries l in
      leb-true 2 (length E) (and-second (are_branches (row_count P) (forms_in P) code from.deepest 1 e d ks && agree_above (row_count P) (forms_in P) code 1 l) ((1 == 0) || nat_le 2 (length E)) canonical)
