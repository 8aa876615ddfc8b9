-- Lists that count up from 0, and how they go on.
use Rattle.std.proofs.Common.{◌≡◌, ◌≢◌, ℕ, zero, suc, ◌+◌, ◌<◌, ◌≤◌, Bool, true, false, ◌&&◌, List, [], ◌∷◌, ◌++◌, length, refl, ap, sym, ◌∙◌, add-one, arith, inl, inr, Decides}
use Rattle.std.specs.Prelude.{nat_eq}
use Rattle.std.specs.List.{range_with_len}
use Rattle.std.specs.Str.{bytes_eq}
use Rattle.std.proofs.lemmas.Bool.{cases_eq}
use Rattle.std.proofs.lemmas.Bool.Decides.{nat_tests}
use Rattle.std.proofs.lemmas.Slice.Eq.{bytes_eq-Decides}
use Rattle.node_heap.specs.Links.{count}
use Rattle.node_heap.proofs.Counts.{test_same, test_other, count-cons}
use Rattle.pool_order.specs.Order.{with_new, with_all_new}
use Rattle.pool_order.proofs.Firsts.{with_new-cases}
use Rattle.pool_order.proofs.Walked.{with_all-before}
use Rattle.pool_check.specs.Counted.{CountsUp}

counts-from : (a n k : ℕ) → 0 < count k (range_with_len a n) → (a ≤ k) × (k < a + n)
counts-from a zero k some = absurd (omega arith)
counts-from a (suc n) k some = elim (cases_eq a k) as (λ _. (a ≤ k) × (k < a + suc n)) [
  | inl same ↦ (omega (arith, same), omega (arith, same))
  | inr other ↦ let later = counts-from (a + 1) n k (omega (arith, some, count-cons k a (range_with_len (a + 1) n), test_other a k other)) in (omega (arith, later.0), omega (arith, later.1))
]

counts-to : (a n k : ℕ) → a ≤ k → k < a + n → 0 < count k (range_with_len a n)
counts-to a zero k low high = absurd (omega arith)
counts-to a (suc n) k low high = elim (cases_eq a k) as (λ _. 0 < count k (range_with_len a (suc n))) [
  | inl same ↦ omega (arith, count-cons k a (range_with_len (a + 1) n), test_same a k same)
  | inr other ↦ omega (arith, count-cons k a (range_with_len (a + 1) n), counts-to (a + 1) n k (omega (arith, low, other)) (omega (arith, high)))
]

pub is-listed : (n k : ℕ) → k < n → 0 < count k (range_with_len 0 n)
is-listed n k low = counts-to 0 n k (omega arith) (omega (arith, low))

pub listed-is : (n k : ℕ) → 0 < count k (range_with_len 0 n) → k < n
listed-is n k some = omega (arith, (counts-from 0 n k some).1)

counts-more : (a n k : ℕ) → k ≡ a + n → range_with_len a (suc n) ≡ range_with_len a n ++ k ∷ []
counts-more a zero k e = let same : a ≡ k = omega (arith, e) in ap (λ j. j ∷ []) same
counts-more a (suc n) k e = ap (λ ks. a ∷ ks) (counts-more (a + 1) n k (omega (arith, e)))

-- the next number goes last, and any other greater one too
pub next-listed : (next k : ℕ) → next ≤ k → with_new (range_with_len 0 next) k ≡ range_with_len 0 next ++ k ∷ []
next-listed next k high = elim (with_new-cases (range_with_len 0 next) k) as (λ _. with_new (range_with_len 0 next) k ≡ range_with_len 0 next ++ k ∷ []) [
  | inl old ↦ absurd (omega (arith, listed-is next k old.1, high))
  | inr new ↦ new.0
]

pub one-more : (next k : ℕ) → k ≡ next → with_new (range_with_len 0 next) k ≡ range_with_len 0 (next + 1)
one-more next k e = next-listed next k (omega (arith, e)) ∙ sym (counts-more 0 next k (omega (arith, e))) ∙ ap (range_with_len 0) (sym (add-one next))

-- what goes after the numbers from a on, where they count on, is the next
counted-last : (a n k c : ℕ) → range_with_len a n ++ k ∷ [] ≡ range_with_len a c → k ≡ a + n
counted-last a zero k zero e = absurd cc
counted-last a zero k (suc c) e = let same : k ≡ a = cc in omega (arith, same)
counted-last a (suc n) k zero e = absurd cc
counted-last a (suc n) k (suc c) e = let rest : range_with_len (a + 1) n ++ k ∷ [] ≡ range_with_len (a + 1) c = cc in omega (arith, counted-last (a + 1) n k c rest)

pub other-last : (next k : ℕ) → next ≤ k → k ≢ next → ¬ CountsUp (with_new (range_with_len 0 next) k)
other-last next k high other counted =
    other (omega (arith, counted-last 0 next k (length (with_new (range_with_len 0 next) k)) (sym (next-listed next k high) ∙ counted)))

counted-front : (a c : ℕ) (ks more : List ℕ) → ks ++ more ≡ range_with_len a c → ks ≡ range_with_len a (length ks)
counted-front a c [] more e = refl
counted-front a zero (k ∷ ks) more e = absurd cc
counted-front a (suc c) (k ∷ ks) more e =
    let same : k ≡ a = cc in
    let rest : ks ++ more ≡ range_with_len (a + 1) c = cc in
    ap (λ j. j ∷ ks) same ∙ ap (λ js. a ∷ js) (counted-front (a + 1) c ks more rest)

-- what a list that counts up began with counts up
pub counted-before : (ks xs : List ℕ) (c : ℕ) → with_all_new ks xs ≡ range_with_len 0 c → CountsUp ks
counted-before ks xs c e = let before = with_all-before ks xs in counted-front 0 c ks before.0 (sym before.1 ∙ e)

test-none : (b : Bool) (P : Type 0) → Decides b P → ¬ P → false ≡ b
test-none true P decides none = absurd (none (decides.0 refl))
test-none false P decides none = refl

pub not-counted : (ks : List ℕ) (c : ℕ) → ks ≢ range_with_len 0 c → false ≡ bytes_eq ks (range_with_len 0 c)
not-counted ks c other = test-none (bytes_eq ks (range_with_len 0 c)) (ks ≡ range_with_len 0 c) (bytes_eq-Decides ks (range_with_len 0 c)) other

same-suc : (n m : ℕ) → nat_eq (suc n) (suc m) ≡ nat_eq n m
same-suc n m = grind (arith, nat_tests)

zero-other : (n : ℕ) → nat_eq 0 (suc n) ≡ false
zero-other n = grind (arith, nat_tests)

other-zero : (n : ℕ) → nat_eq (suc n) 0 ≡ false
other-zero n = grind (arith, nat_tests)

same-itself : (a : ℕ) → nat_eq a a ≡ true
same-itself a = grind (arith, nat_tests)

counted-same : (a n m : ℕ) → bytes_eq (range_with_len a n) (range_with_len a m) ≡ nat_eq n m
counted-same a zero zero = refl
counted-same a zero (suc m) = sym (zero-other m)
counted-same a (suc n) zero = sym (other-zero n)
counted-same a (suc n) (suc m) =
    ap (λ b. b && bytes_eq (range_with_len (a + 1) n) (range_with_len (a + 1) m)) (same-itself a) ∙ counted-same (a + 1) n m ∙ sym (same-suc n m)

pub counted-test : (ks : List ℕ) (n c : ℕ) → ks ≡ range_with_len 0 n → nat_eq n c ≡ bytes_eq ks (range_with_len 0 c)
counted-test ks n c is = sym (ap (λ js. bytes_eq js (range_with_len 0 c)) is ∙ counted-same 0 n c)
