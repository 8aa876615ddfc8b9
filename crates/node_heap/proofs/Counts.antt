-- Sums over lists that agree at all places but one.
use Rattle.std.proofs.Common.{◌≡◌, ◌≢◌, ℕ, zero, suc, ◌+◌, ◌-◌, ◌<◌, ◌≤◌, List, [], ◌∷◌, map, get_or, refl, sym, ap, ◌∙◌, arith}
use Rattle.std.specs.Prelude.{sum_by, sum}
use Rattle.std.proofs.Common.{set, length}
use Rattle.std.proofs.lemmas.List.{get_or-set_same, get_or-set_other}
use Rattle.std.proofs.lemmas.List.Sums.{sum_by-cons}
use Rattle.node_heap.specs.Layout.{less}
use Rattle.node_heap.specs.Links.{count}
use Rattle.node_heap.specs.Heap.{one_at}
use Rattle.std.proofs.Common.{cond, eqb, inl, inr}
use Rattle.std.proofs.lemmas.Bool.{cases_eq}
use Rattle.std.proofs.lemmas.Bool.Decides.{nat_tests}

pub get_or-map_default : {X Y : Type 0} (f : X → Y) (xs : List X) (k : ℕ) (d : X) → get_or (map f xs) k (f d) ≡ f (get_or xs k d)
get_or-map_default f [] k d = refl
get_or-map_default f (x ∷ xs) zero d = refl
get_or-map_default f (x ∷ xs) (suc k) d = get_or-map_default f xs k d

pub get_or-less : (f : ℕ → ℕ) (i : ℕ) (xs : List ℕ) (k : ℕ) → get_or (less f i xs) k 0 ≡ get_or xs k 0 - f (i + k)
get_or-less f i [] k = omega arith
get_or-less f i (x ∷ xs) zero = ap (λ j. x - f j) (omega arith)
get_or-less f i (x ∷ xs) (suc k) = get_or-less f (suc i) xs k ∙ ap (λ j. get_or xs k 0 - f j) (omega arith)

pub sum_by-blank : {X : Type 0} (f : X → ℕ) (d : X) → f d ≡ 0 → (ys : List X) → ((k : ℕ) → get_or ys k d ≡ d) → sum_by f ys ≡ 0
sum_by-blank f d none [] same = refl
sum_by-blank f d none (y ∷ ys) same =
    let first : f y ≡ 0 = ap f (same 0) ∙ none in
    let rest = sum_by-blank f d none ys (λ k. same (suc k)) in
    omega (arith, sum_by-cons f y ys)

pub sum_by-same : {X : Type 0} (f : X → ℕ) (d : X) → f d ≡ 0 → (xs ys : List X) → ((k : ℕ) → get_or ys k d ≡ get_or xs k d) → sum_by f ys ≡ sum_by f xs
sum_by-same f d none [] ys same = sum_by-blank f d none ys same
sum_by-same f d none (x ∷ xs) [] same = sym (sum_by-blank f d none (x ∷ xs) (λ k. sym (same k)))
sum_by-same f d none (x ∷ xs) (y ∷ ys) same =
    let first : f y ≡ f x = ap f (same 0) in
    let rest = sum_by-same f d none xs ys (λ k. same (suc k)) in
    omega (arith, sum_by-cons f y ys, sum_by-cons f x xs)

-- the lists agree but at the key
pub sum_by-apart : {X : Type 0} (f : X → ℕ) (d : X) → f d ≡ 0 → (xs ys : List X) (key : ℕ) → ((k : ℕ) → k ≢ key → get_or ys k d ≡ get_or xs k d) → sum_by f ys + f (get_or xs key d) ≡ sum_by f xs + f (get_or ys key d)
sum_by-apart f d none [] [] key same = refl
sum_by-apart f d none [] (y ∷ ys) zero same =
    let rest = sum_by-blank f d none ys (λ k. same (suc k) (λ e. absurd (omega arith))) in
    omega (arith, sum_by-cons f y ys)
sum_by-apart f d none [] (y ∷ ys) (suc key) same =
    let first : f y ≡ 0 = ap f (same 0 (λ e. absurd (omega arith))) ∙ none in
    let rest = sum_by-apart f d none [] ys key (λ k apart. same (suc k) (λ e. apart (omega arith))) in
    omega (arith, sum_by-cons f y ys)
sum_by-apart f d none (x ∷ xs) [] zero same =
    let rest = sum_by-blank f d none xs (λ k. sym (same (suc k) (λ e. absurd (omega arith)))) in
    omega (arith, sum_by-cons f x xs)
sum_by-apart f d none (x ∷ xs) [] (suc key) same =
    let first : f x ≡ 0 = ap f (sym (same 0 (λ e. absurd (omega arith)))) ∙ none in
    let rest = sum_by-apart f d none xs [] key (λ k apart. same (suc k) (λ e. apart (omega arith))) in
    omega (arith, sum_by-cons f x xs)
sum_by-apart f d none (x ∷ xs) (y ∷ ys) zero same =
    let rest = sum_by-same f d none xs ys (λ k. same (suc k) (λ e. absurd (omega arith))) in
    omega (arith, sum_by-cons f x xs, sum_by-cons f y ys)
sum_by-apart f d none (x ∷ xs) (y ∷ ys) (suc key) same =
    let first : f y ≡ f x = ap f (same 0 (λ e. absurd (omega arith))) in
    let rest = sum_by-apart f d none xs ys key (λ k apart. same (suc k) (λ e. apart (omega arith))) in
    omega (arith, sum_by-cons f x xs, sum_by-cons f y ys)

pub le-sum_by : {X : Type 0} (f : X → ℕ) (d : X) → f d ≡ 0 → (xs : List X) (k : ℕ) → f (get_or xs k d) ≤ sum_by f xs
le-sum_by f d none [] k = omega arith
le-sum_by f d none (x ∷ xs) zero = omega (arith, sum_by-cons f x xs)
le-sum_by f d none (x ∷ xs) (suc k) = omega (arith, sum_by-cons f x xs, le-sum_by f d none xs k)

-- where each term is at most another's, so is the sum
pub sum_by-fewer : {X : Type 0} (f : X → ℕ) (d : X) → f d ≡ 0 → (xs ys : List X) → ((k : ℕ) → f (get_or ys k d) ≤ f (get_or xs k d)) → sum_by f ys ≤ sum_by f xs
sum_by-fewer f d none xs [] each = omega arith
sum_by-fewer f d none [] (y ∷ ys) each = omega (arith, none, each 0, sum_by-cons f y ys, sum_by-fewer f d none [] ys (λ k. each (suc k)))
sum_by-fewer f d none (x ∷ xs) (y ∷ ys) each = omega (arith, each 0, sum_by-cons f x xs, sum_by-cons f y ys, sum_by-fewer f d none xs ys (λ k. each (suc k)))

-- a test of equality, as 1 or 0
pub test_same : (x k : ℕ) → x ≡ k → one_at k x ≡ 1
test_same x k same = grind (arith, nat_tests)

pub test_other : (x k : ℕ) → x ≢ k → one_at k x ≡ 0
test_other x k other = grind (arith, nat_tests)

pub one_at-flip : (x k : ℕ) → one_at x k ≡ one_at k x
one_at-flip x k = elim (cases_eq x k) as (λ _. one_at x k ≡ one_at k x) [
  | inl same ↦ test_same k x (sym same) ∙ sym (test_same x k same)
  | inr other ↦ test_other k x (λ e. other (sym e)) ∙ sym (test_other x k other)
]

pub count-cons : (l x : ℕ) (xs : List ℕ) → count l (x ∷ xs) ≡ one_at l x + count l xs
count-cons l x xs = sum_by-cons (λ k. cond (eqb k l) 1 0) x xs ∙ ap (λ n. n + count l xs) (one_at-flip x l)

-- an element that is counted has a term in the sum
pub term-le-sum_by : (f : ℕ → ℕ) (k : ℕ) (xs : List ℕ) → 0 < count k xs → f k ≤ sum_by f xs
term-le-sum_by f k [] h = absurd (omega arith)
term-le-sum_by f k (x ∷ xs) h =
    let counted = sum_by-cons (λ y. cond (eqb y k) 1 0) x xs in
    elim (cases_eq x k) as (λ _. f k ≤ sum_by f (x ∷ xs)) [
      | inl same ↦ let first : f x ≡ f k = ap f same in omega (arith, sum_by-cons f x xs)
      | inr other ↦
          let rest : 0 < count k xs = omega (arith, counted, test_other k x (λ e. other (sym e))) in
          omega (arith, sum_by-cons f x xs, term-le-sum_by f k xs rest)
    ]

-- one number rises by one
pub sum-more : (xs ys : List ℕ) (key : ℕ) → ((k : ℕ) → get_or ys k 0 ≡ get_or xs k 0 + one_at key k) → sum ys ≡ sum xs + 1
sum-more xs ys key more =
    let same : (k : ℕ) → k ≢ key → get_or ys k 0 ≡ get_or xs k 0 = λ k other. omega (arith, more k, test_other k key other) in
    let sums = sum_by-apart (λ x. x) 0 refl xs ys key same in
    omega (arith, sums, more key, test_same key key refl)

-- a number in the list is at most the sum
pub le-sum : (xs : List ℕ) (k : ℕ) → get_or xs k 0 ≤ sum xs
le-sum xs k = le-sum_by (λ x. x) 0 refl xs k

index_within : (xs : List ℕ) (k : ℕ) → 0 < get_or xs k 0 → k < length xs
index_within [] k h = absurd (omega arith)
index_within (x ∷ xs) zero h = omega arith
index_within (x ∷ xs) (suc k) h = omega (arith, index_within xs k h)

-- the list with one number lower by one
pub lowered : (xs : List ℕ) (x : ℕ) → 0 < get_or xs x 0 → (less : List ℕ) × ((k : ℕ) → get_or xs k 0 ≡ get_or less k 0 + one_at x k)
lowered xs x positive =
    let within : x < length xs = index_within xs x positive in
    let less : List ℕ = set xs x (get_or xs x 0 - 1) in (
      less,
      λ k. elim (cases_eq k x) as (λ _. get_or xs k 0 ≡ get_or less k 0 + one_at x k) [
        | inl is ↦ omega (arith, ap (λ j. get_or xs j 0) is, ap (λ j. get_or less j 0) is, get_or-set_same xs x (get_or xs x 0 - 1) 0 within, test_same k x is, positive)
        | inr other ↦ omega (arith, get_or-set_other xs x k (get_or xs x 0 - 1) 0 other, test_other k x other)
      ],
    )

-- each link lowers its number by one
pub sum-spent : (links xs ys : List ℕ) → ((k : ℕ) → get_or ys k 0 + count k links ≡ get_or xs k 0) → sum ys + length links ≡ sum xs
sum-spent [] xs ys same = omega (arith, sum_by-same (λ x. x) 0 refl xs ys (λ k. omega (arith, same k)))
sum-spent (x ∷ rest) xs ys same =
    let counted : (k : ℕ) → count k (x ∷ rest) ≡ one_at x k + count k rest = λ k. sum_by-cons (λ y. cond (eqb y k) 1 0) x rest in
    let positive : 0 < get_or xs x 0 = omega (arith, same x, counted x, test_same x x refl) in
    let low = lowered xs x positive in
    omega (arith, sum-more low.0 xs x low.1, sum-spent rest low.0 ys (λ k. omega (arith, same k, counted k, low.1 k)))

-- the links lower theirs, and one number rises
pub sum-moved : (links xs ys : List ℕ) (key : ℕ) → count key links ≤ get_or xs key 0 → ((k : ℕ) → get_or ys k 0 + count k links ≡ get_or xs k 0 + one_at key k) → sum ys + length links ≡ sum xs + 1
sum-moved links xs ys key held moved =
    let low = lowered ys key (omega (arith, moved key, held, test_same key key refl)) in
    omega (arith, sum-more low.0 ys key low.1, sum-spent links xs low.0 (λ k. omega (arith, moved k, low.1 k)))

-- the list with one number higher by one
raise : List ℕ → ℕ → List ℕ
raise [] zero = 1 ∷ []
raise [] (suc i) = 0 ∷ raise [] i
raise (x ∷ xs) zero = (x + 1) ∷ xs
raise (x ∷ xs) (suc i) = x ∷ raise xs i

one_at-suc : (i k : ℕ) → one_at (suc i) (suc k) ≡ one_at i k
one_at-suc i k = elim (cases_eq k i) as (λ _. one_at (suc i) (suc k) ≡ one_at i k) [
  | inl same ↦ test_same (suc k) (suc i) (ap suc same) ∙ sym (test_same k i same)
  | inr other ↦ test_other (suc k) (suc i) (λ e. other (omega (arith, e))) ∙ sym (test_other k i other)
]

get_or-raise : (xs : List ℕ) (i k : ℕ) → get_or (raise xs i) k 0 ≡ get_or xs k 0 + one_at i k
unfolding raise
get_or-raise [] zero zero = omega (arith, test_same 0 0 refl)
get_or-raise [] zero (suc k) = omega (arith, test_other (suc k) 0 (λ e. absurd (omega (arith, e))))
get_or-raise [] (suc i) zero = omega (arith, test_other 0 (suc i) (λ e. absurd (omega (arith, e))))
get_or-raise [] (suc i) (suc k) = omega (arith, get_or-raise [] i k, one_at-suc i k)
get_or-raise (x ∷ xs) zero zero = omega (arith, test_same 0 0 refl)
get_or-raise (x ∷ xs) zero (suc k) = omega (arith, test_other (suc k) 0 (λ e. absurd (omega (arith, e))))
get_or-raise (x ∷ xs) (suc i) zero = omega (arith, test_other 0 (suc i) (λ e. absurd (omega (arith, e))))
get_or-raise (x ∷ xs) (suc i) (suc k) = omega (arith, get_or-raise xs i k, one_at-suc i k)

-- the links of one list lower their numbers, and those of another raise theirs
pub sum-exchanged : (spent gained xs ys : List ℕ) → ((k : ℕ) → get_or ys k 0 + count k spent ≡ get_or xs k 0 + count k gained) → sum ys + length spent ≡ sum xs + length gained
sum-exchanged spent [] xs ys same = omega (arith, sum-spent spent xs ys (λ k. omega (arith, same k)))
sum-exchanged spent (x ∷ rest) xs ys same =
    omega (arith, sum-more xs (raise xs x) x (get_or-raise xs x), sum-exchanged spent rest (raise xs x) ys (λ k. omega (arith, same k, get_or-raise xs x k, count-cons k x rest, one_at-flip x k)))
