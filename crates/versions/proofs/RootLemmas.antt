-- The roots of a store: the value of each number, and how often a root is held.
use Rattle.std.proofs.Common.{◌≡◌, ◌≢◌, ℕ, zero, suc, ◌+◌, ◌<◌, ◌≤◌, List, [], ◌∷◌, get_or, Option, Some, None, refl, ap, sym, ◌∙◌, arith, cond, true, false, inl, inr}
use Rattle.std.specs.Prelude.{option_map, sum_by, ◌==◌}
use Rattle.std.specs.Ordering.{nat_cmp, eq_by_cmp}
use Rattle.std.specs.Cmp.{nat_cmp_total, unsigned_tied}
use Rattle.std.specs.FinMap.{find, get, get-from_entries}
use Rattle.std.proofs.lemmas.Bool.Decides.{eqb_tells}
use Rattle.std.proofs.lemmas.List.Sums.{sum_by-cons}
use Rattle.node_heap.specs.Heap.{Heap, one_at}
use Rattle.node_heap.proofs.CallerLemmas.{test_same}
use Rattle.versions.specs.Roots.{root_at, values_from, values_in}

pub tied-same : (a : ℕ) → eq_by_cmp nat_cmp a a ≡ true
tied-same a = unsigned_tied a a ∙ elim (eqb_tells a a) as (λ _. (a == a) ≡ true) [ inl p ↦ p.0 | inr p ↦ absurd (p.1 refl) ]

pub tied-other : (a b : ℕ) → a ≢ b → eq_by_cmp nat_cmp a b ≡ false
tied-other a b apart = unsigned_tied a b ∙ elim (eqb_tells a b) as (λ _. (a == b) ≡ false) [ inl p ↦ absurd (apart p.1) | inr p ↦ p.0 ]

module _ {T V : Type 0} (read : Heap T → ℕ → V) (h : Heap T) where
  find-low : (roots : List (Option ℕ)) (v q : ℕ) → q < v → find nat_cmp q (values_from read h v roots) ≡ None
  find-low [] v q low = refl
  find-low (None ∷ roots) v q low = find-low roots (suc v) q (omega (arith, low))
  find-low (Some l ∷ roots) v q low = ap (λ b. cond b (Some (read h l)) (find nat_cmp q (values_from read h (suc v) roots))) (tied-other q v (λ e. absurd (omega (arith, low, e)))) ∙ find-low roots (suc v) q (omega (arith, low))

  find-at : (roots : List (Option ℕ)) (v i q : ℕ) → q ≡ v + i → find nat_cmp q (values_from read h v roots) ≡ option_map (read h) (get_or roots i None)
  find-at [] v i q is = refl
  find-at (None ∷ roots) v zero q is = find-low roots (suc v) q (omega (arith, is))
  find-at (None ∷ roots) v (suc i) q is = find-at roots (suc v) i q (omega (arith, is))
  find-at (Some l ∷ roots) v zero q is = ap (λ b. cond b (Some (read h l)) (find nat_cmp q (values_from read h (suc v) roots))) (ap (λ x. eq_by_cmp nat_cmp x v) (is ∙ omega arith) ∙ tied-same v)
  find-at (Some l ∷ roots) v (suc i) q is = ap (λ b. cond b (Some (read h l)) (find nat_cmp q (values_from read h (suc v) roots))) (tied-other q v (λ e. absurd (omega (arith, e, is)))) ∙ find-at roots (suc v) i q (omega (arith, is))

  -- the value of a number is that of its root
  pub listed-at : (roots : List (Option ℕ)) (q : ℕ) → get (values_in read h roots) q ≡ option_map (read h) (get_or roots q None)
  listed-at roots q = get-from_entries nat_cmp_total (values_from read h 0 roots) q ∙ find-at roots 0 q q (omega arith)

-- how often a root stands among those of two stores that have the same at each number
sum-same : (k : ℕ) (xs ys : List (Option ℕ)) → ((i : ℕ) → get_or ys i None ≡ get_or xs i None) → sum_by (root_at k) ys ≡ sum_by (root_at k) xs
sum-same k [] [] is = refl
sum-same k [] (y ∷ ys) is =
    let first : root_at k y ≡ 0 = ap (root_at k) (is 0) in
    let rest : sum_by (root_at k) ys ≡ 0 = sum-same k [] ys (λ i. is (suc i)) in
    sum_by-cons (root_at k) y ys ∙ omega (arith, first, rest)
sum-same k (x ∷ xs) [] is =
    let first : 0 ≡ root_at k x = ap (root_at k) (is 0) in
    let rest : 0 ≡ sum_by (root_at k) xs = sum-same k xs [] (λ i. is (suc i)) in
    sym (sum_by-cons (root_at k) x xs ∙ omega (arith, first, rest))
sum-same k (x ∷ xs) (y ∷ ys) is =
    let first : root_at k y ≡ root_at k x = ap (root_at k) (is 0) in
    omega (arith, first, sum-same k xs ys (λ i. is (suc i)), sum_by-cons (root_at k) x xs, sum_by-cons (root_at k) y ys)

pub sum-none : (k : ℕ) (xs : List (Option ℕ)) → ((i : ℕ) → get_or xs i None ≡ None) → sum_by (root_at k) xs ≡ 0
sum-none k xs none = sum-same k [] xs none

apart-later : (i : ℕ) → suc i ≢ zero
apart-later i e = absurd (omega (arith, e))

-- and where one has a root more
pub sum-more : (k l key : ℕ) (xs ys : List (Option ℕ)) → get_or xs key None ≡ None → get_or ys key None ≡ Some l → ((i : ℕ) → i ≢ key → get_or ys i None ≡ get_or xs i None) → sum_by (root_at k) ys ≡ sum_by (root_at k) xs + one_at l k
sum-more k l key xs [] none some others = absurd (let h = some in cc)
sum-more k l zero [] (y ∷ ys) none some others =
    let first : root_at k y ≡ one_at l k = ap (root_at k) some in
    let rest : sum_by (root_at k) ys ≡ 0 = sum-same k [] ys (λ i. others (suc i) (apart-later i)) in
    sum_by-cons (root_at k) y ys ∙ omega (arith, first, rest)
sum-more k l zero (x ∷ xs) (y ∷ ys) none some others =
    let first : root_at k y ≡ one_at l k = ap (root_at k) some in
    let nothing : root_at k x ≡ 0 = ap (root_at k) none in
    omega (arith, first, nothing, sum-same k xs ys (λ i. others (suc i) (apart-later i)), sum_by-cons (root_at k) x xs, sum_by-cons (root_at k) y ys)
sum-more k l (suc key) [] (y ∷ ys) none some others =
    let first : root_at k y ≡ 0 = ap (root_at k) (others 0 (λ e. absurd (omega (arith, e)))) in
    let rest : sum_by (root_at k) ys ≡ 0 + one_at l k = sum-more k l key [] ys none some (λ i off. others (suc i) (λ e. off (omega (arith, e)))) in
    sum_by-cons (root_at k) y ys ∙ omega (arith, first, rest)
sum-more k l (suc key) (x ∷ xs) (y ∷ ys) none some others =
    let first : root_at k y ≡ root_at k x = ap (root_at k) (others 0 (λ e. absurd (omega (arith, e)))) in
    omega (arith, first, sum-more k l key xs ys none some (λ i off. others (suc i) (λ e. off (omega (arith, e)))), sum_by-cons (root_at k) x xs, sum_by-cons (root_at k) y ys)

-- a root that stands somewhere
pub sum-has : (k key : ℕ) (xs : List (Option ℕ)) → get_or xs key None ≡ Some k → 1 ≤ sum_by (root_at k) xs
sum-has k key [] some = absurd (let h = some in cc)
sum-has k zero (x ∷ xs) some =
    let first : root_at k x ≡ one_at k k = ap (root_at k) some in
    omega (arith, first, test_same k k refl, sum_by-cons (root_at k) x xs)
sum-has k (suc key) (x ∷ xs) some = omega (arith, sum-has k key xs some, sum_by-cons (root_at k) x xs)
