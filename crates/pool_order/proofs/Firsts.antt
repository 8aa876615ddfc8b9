-- What is in a list whose repeats are left out.
use Rattle.std.proofs.Common.{◌≡◌, ◌≢◌, ◌⊎◌, ℕ, ◌+◌, ◌<◌, ◌≤◌, true, false, cond, eqb, List, [], ◌∷◌, ◌++◌, refl, ap, sym, ◌∙◌, arith, inl, inr}
use Rattle.std.specs.List.{list_any}
use Rattle.std.proofs.lemmas.Bool.{cases_eq}
use Rattle.std.proofs.lemmas.Bool.Decides.{nat_tests}
use Rattle.std.proofs.lemmas.List.Sums.{sum_by-append, fold-append}
use Rattle.node_heap.specs.Links.{count}
use Rattle.node_heap.specs.Heap.{one_at}
use Rattle.node_heap.proofs.Counts.{test_same, test_other, count-cons}
use Rattle.pool_order.specs.Order.{with_new, with_all_new}

pub count-append : (j : ℕ) (xs ys : List ℕ) → count j (xs ++ ys) ≡ count j xs + count j ys
count-append j xs ys = sum_by-append (λ k. cond (eqb k j) 1 0) xs ys

pub count-one : (j k : ℕ) → count j (k ∷ []) ≡ one_at j k
count-one j k = omega (arith, count-cons j k [])

eqb-same : (l m : ℕ) → l ≡ m → eqb l m ≡ true
eqb-same l m h = grind (arith, nat_tests)

eqb-other : (l m : ℕ) → l ≢ m → eqb l m ≡ false
eqb-other l m h = grind (arith, nat_tests)

pub any_is : (k : ℕ) (ks : List ℕ) → ((list_any (eqb k) ks ≡ true) × (0 < count k ks)) ⊎ ((list_any (eqb k) ks ≡ false) × (count k ks ≡ 0))
any_is k [] = inr (refl, refl)
any_is k (x ∷ xs) =
    elim (cases_eq k x) as (λ _. ((list_any (eqb k) (x ∷ xs) ≡ true) × (0 < count k (x ∷ xs))) ⊎ ((list_any (eqb k) (x ∷ xs) ≡ false) × (count k (x ∷ xs) ≡ 0))) [
      | inl same ↦ inl (rw (eqb-same k x same) refl, omega (arith, count-cons k x xs, test_same x k (sym same)))
      | inr other ↦
          let no : count k (x ∷ xs) ≡ count k xs = omega (arith, count-cons k x xs, test_other x k (λ e. other (sym e))) in
          elim (any_is k xs) as (λ _. ((list_any (eqb k) (x ∷ xs) ≡ true) × (0 < count k (x ∷ xs))) ⊎ ((list_any (eqb k) (x ∷ xs) ≡ false) × (count k (x ∷ xs) ≡ 0))) [
            | inl there ↦ inl (rw (eqb-other k x other) there.0, omega (arith, no, there.1))
            | inr none ↦ inr (rw (eqb-other k x other) none.0, omega (arith, no, none.1))
          ]
    ]

-- a new link goes last, and one that is there changes nothing
pub with_new-cases : (ks : List ℕ) (k : ℕ) → ((with_new ks k ≡ ks) × (0 < count k ks)) ⊎ ((with_new ks k ≡ ks ++ k ∷ []) × (count k ks ≡ 0))
with_new-cases ks k = elim (any_is k ks) as (λ _. ((with_new ks k ≡ ks) × (0 < count k ks)) ⊎ ((with_new ks k ≡ ks ++ k ∷ []) × (count k ks ≡ 0))) [
  | inl there ↦ inl (rw there.0 refl, there.1)
  | inr none ↦ inr (rw none.0 refl, none.1)
]

pub count-with_new : (j : ℕ) (ks : List ℕ) (k : ℕ) → ((count j (with_new ks k) ≡ count j ks) × (0 < count k ks)) ⊎ ((count j (with_new ks k) ≡ count j ks + one_at j k) × (count k ks ≡ 0))
count-with_new j ks k = elim (with_new-cases ks k) as (λ _. ((count j (with_new ks k) ≡ count j ks) × (0 < count k ks)) ⊎ ((count j (with_new ks k) ≡ count j ks + one_at j k) × (count k ks ≡ 0))) [
  | inl old ↦ inl (ap (count j) old.0, old.1)
  | inr new ↦ inr (ap (count j) new.0 ∙ count-append j ks (k ∷ []) ∙ ap (λ n. count j ks + n) (count-one j k), new.1)
]

pub with_new-keeps : (j : ℕ) (ks : List ℕ) (k : ℕ) → 0 < count j ks → 0 < count j (with_new ks k)
with_new-keeps j ks k some = elim (count-with_new j ks k) as (λ _. 0 < count j (with_new ks k)) [ inl old ↦ omega (arith, old.0, some) | inr new ↦ omega (arith, new.0, some) ]

pub with_new-has : (ks : List ℕ) (k : ℕ) → 0 < count k (with_new ks k)
with_new-has ks k = elim (count-with_new k ks k) as (λ _. 0 < count k (with_new ks k)) [ inl old ↦ omega (arith, old.0, old.1) | inr new ↦ omega (arith, new.0, test_same k k refl) ]

pub with_new-from : (j : ℕ) (ks : List ℕ) (k : ℕ) → 0 < count j (with_new ks k) → (0 < count j ks) ⊎ (j ≡ k)
with_new-from j ks k some = elim (count-with_new j ks k) as (λ _. (0 < count j ks) ⊎ (j ≡ k)) [
  | inl old ↦ inl (omega (arith, old.0, some))
  | inr new ↦ elim (cases_eq j k) as (λ _. (0 < count j ks) ⊎ (j ≡ k)) [
    | inl same ↦ inr same
    | inr other ↦ inl (omega (arith, new.0, some, test_other k j (λ e. other (sym e))))
  ]
]

pub with_new-once : (ks : List ℕ) (k : ℕ) → ((j : ℕ) → count j ks ≤ 1) → (j : ℕ) → count j (with_new ks k) ≤ 1
with_new-once ks k once j = elim (count-with_new j ks k) as (λ _. count j (with_new ks k) ≤ 1) [
  | inl old ↦ omega (arith, old.0, once j)
  | inr new ↦ elim (cases_eq j k) as (λ _. count j (with_new ks k) ≤ 1) [
    | inl same ↦ omega (arith, new.0, new.1, ap (λ n. count n ks) same, one_at-le j k)
    | inr other ↦ omega (arith, new.0, once j, test_other k j (λ e. other (sym e)))
  ]
]
  where
    one_at-le : (j k : ℕ) → one_at j k ≤ 1
    one_at-le j k = elim (cases_eq k j) as (λ _. one_at j k ≤ 1) [ inl same ↦ omega (arith, test_same k j same) | inr other ↦ omega (arith, test_other k j other) ]

pub with_all-keeps : (j : ℕ) (ks xs : List ℕ) → 0 < count j ks → 0 < count j (with_all_new ks xs)
with_all-keeps j ks [] some = some
with_all-keeps j ks (x ∷ xs) some = with_all-keeps j (with_new ks x) xs (with_new-keeps j ks x some)

pub with_all-has : (j : ℕ) (ks xs : List ℕ) → 0 < count j xs → 0 < count j (with_all_new ks xs)
with_all-has j ks [] some = absurd (omega arith)
with_all-has j ks (x ∷ xs) some = elim (cases_eq x j) as (λ _. 0 < count j (with_all_new (with_new ks x) xs)) [
  | inl same ↦ with_all-keeps j (with_new ks x) xs (omega (arith, with_new-has ks x, ap (λ n. count n (with_new ks x)) same))
  | inr other ↦ with_all-has j (with_new ks x) xs (omega (arith, count-cons j x xs, test_other x j other, some))
]

pub with_all-from : (j : ℕ) (ks xs : List ℕ) → 0 < count j (with_all_new ks xs) → (0 < count j ks) ⊎ (0 < count j xs)
with_all-from j ks [] some = inl some
with_all-from j ks (x ∷ xs) some = elim (with_all-from j (with_new ks x) xs some) as (λ _. (0 < count j ks) ⊎ (0 < count j (x ∷ xs))) [
  | inl first ↦ elim (with_new-from j ks x first) as (λ _. (0 < count j ks) ⊎ (0 < count j (x ∷ xs))) [
    | inl old ↦ inl old
    | inr same ↦ inr (omega (arith, count-cons j x xs, test_same x j (sym same)))
  ]
  | inr later ↦ inr (omega (arith, count-cons j x xs, later))
]

pub with_all-once : (ks xs : List ℕ) → ((j : ℕ) → count j ks ≤ 1) → (j : ℕ) → count j (with_all_new ks xs) ≤ 1
with_all-once ks [] once = once
with_all-once ks (x ∷ xs) once = with_all-once (with_new ks x) xs (with_new-once ks x once)

pub with_new-absorbs : (ks : List ℕ) (k : ℕ) → 0 < count k ks → with_new ks k ≡ ks
with_new-absorbs ks k some = elim (with_new-cases ks k) as (λ _. with_new ks k ≡ ks) [ inl old ↦ old.0 | inr new ↦ absurd (omega (arith, new.1, some)) ]

-- links that are there already change nothing
pub with_all-absorbs : (ks xs : List ℕ) → ((j : ℕ) → 0 < count j xs → 0 < count j ks) → with_all_new ks xs ≡ ks
with_all-absorbs ks [] all = refl
with_all-absorbs ks (x ∷ xs) all =
    let here : with_new ks x ≡ ks = with_new-absorbs ks x (all x (omega (arith, count-cons x x xs, test_same x x refl))) in
    ap (λ ys. with_all_new ys xs) here ∙ with_all-absorbs ks xs (λ j some. all j (omega (arith, count-cons j x xs, some)))

pub with_all-append : (ks xs ys : List ℕ) → with_all_new ks (xs ++ ys) ≡ with_all_new (with_all_new ks xs) ys
with_all-append ks xs ys = fold-append with_new ks xs ys

pub count-from_any : (k : ℕ) (ks : List ℕ) → true ≡ list_any (eqb k) ks → 0 < count k ks
count-from_any k ks h = elim (any_is k ks) as (λ _. 0 < count k ks) [ inl there ↦ there.1 | inr none ↦ absurd (let e : true ≡ false = h ∙ none.0 in cc) ]
