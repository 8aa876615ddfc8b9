-- A pool has no more line cells than rows.
use Rattle.std.proofs.Common.{◌≡◌, ℕ, zero, suc, ◌<◌, ◌≤◌, List, [], ◌∷◌, length, refl, subst, arith, inl, inr}
use Rattle.std.specs.List.{flat_map}
use Rattle.std.proofs.lemmas.Bool.{cases_eq}
use Rattle.std.proofs.lemmas.Option.{slice_get_within}
use Rattle.node_heap.specs.Links.{count}
use Rattle.node_heap.specs.Forms.{cell}
use Rattle.node_heap.proofs.Counts.{count-cons, test_same, test_other}
use Rattle.pool_order.proofs.Firsts.{with_all-once}
use Rattle.pool_text.specs.Pool.{forms_in, row_count}
use Rattle.pool_text.specs.declared.pool.Pool.{Pool}
use Rattle.pool_map.specs.Lines.{text_in, leaf_links, cells_in, line_cells}
use Rattle.pool_map.proofs.MappedRows.{listed-cell}
use Rattle.pool_map.proofs.LineTexts.{cell-text}

-- a list without this number, which it has once at most
record Without (m : ℕ) (xs : List ℕ) : Type 0 where
  pub rest : List ℕ
  pub number : length xs ≤ suc (length rest)
  pub fewer : (k : ℕ) → count k rest ≤ count k xs
  pub none : count m rest ≡ 0

without : (m : ℕ) (xs : List ℕ) → count m xs ≤ 1 → Without m xs
without m [] once = record { rest = []; number = omega arith; fewer = λ k. omega arith; none = omega arith }
without m (x ∷ xs) once = elim (cases_eq x m) as (λ _. Without m (x ∷ xs)) [
  | inl same ↦ record { rest = xs; number = omega arith; fewer = λ k. omega (arith, count-cons k x xs); none = omega (arith, once, count-cons m x xs, test_same x m same) }
  | inr other ↦
      let less = without m xs (omega (arith, once, count-cons m x xs)) in
      record {
        rest = x ∷ less.rest;
        number = omega (arith, less.number);
        fewer = λ k. omega (arith, count-cons k x xs, count-cons k x less.rest, less.fewer k);
        none = omega (arith, count-cons m x less.rest, test_other x m other, less.none);
      }
]

-- different numbers below n are n at most
few-below : (n : ℕ) (xs : List ℕ) → ((k : ℕ) → count k xs ≤ 1) → ((k : ℕ) → 0 < count k xs → k < n) → length xs ≤ n
few-below zero [] once low = omega arith
few-below zero (x ∷ xs) once low = absurd (omega (arith, low x (omega (arith, count-cons x x xs, test_same x x refl))))
few-below (suc n) xs once low =
    let less = without n xs (once n) in
    omega (arith, less.number, few-below n less.rest (λ k. omega (arith, less.fewer k, once k)) (λ k some. below k less.rest some less.none (low k (omega (arith, some, less.fewer k)))))
  where
    below : (k : ℕ) (rest : List ℕ) → 0 < count k rest → count n rest ≡ 0 → k < suc n → k < n
    below k rest some none within = elim (cases_eq k n) as (λ _. k < n) [
      | inl same ↦ absurd (omega (arith, none, subst (λ j. 0 < count j rest) same some))
      | inr other ↦ omega (arith, within, other)
    ]

pub few-cells : (P : Pool) → length (line_cells P) ≤ row_count P
unfolding line_cells
few-cells P =
    few-below (row_count P) (line_cells P)
    (with_all-once [] (flat_map (λ row. cells_in (forms_in P) (leaf_links row)) P.rows) (λ k. omega arith))
    (λ k some. slice_get_within P.rows k (cell (text_in (forms_in P k))) (cell-text (forms_in P k) (listed-cell (λ t. t) P k some)))
