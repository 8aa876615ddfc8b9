-- Places of links in a list.
use Rattle.std.proofs.Common.{◌≡◌, ◌≢◌, ℕ, zero, suc, ◌+◌, ◌<◌, ◌≤◌, true, false, eqb, ltb, Some, None, slice_get, List, [], ◌∷◌, ◌++◌, length, get_or, take, refl, ap, sym, ◌∙◌, arith, inl, inr}
use Rattle.std.specs.List.{position}
use Rattle.std.proofs.lemmas.Bool.{cases_eq}
use Rattle.std.proofs.lemmas.Bool.Decides.{nat_tests}
use Rattle.node_heap.specs.Links.{count}
use Rattle.node_heap.proofs.Counts.{test_same, test_other, count-cons}
use Rattle.pool_text.specs.Pool.{place_in}

test-same : (l m : ℕ) → l ≡ m → eqb l m ≡ true
test-same l m h = grind (arith, nat_tests)

test-other : (l m : ℕ) → l ≢ m → eqb l m ≡ false
test-other l m h = grind (arith, nat_tests)

test-less : (a b : ℕ) → a < b → ltb a b ≡ true
test-less a b h = grind (arith, nat_tests)

pub place-first : (l k : ℕ) (ks : List ℕ) → l ≡ k → place_in (k ∷ ks) l ≡ 0
place-first l k ks e = rw (test-same l k e) refl

pub place-later : (l k : ℕ) (ks : List ℕ) → l ≢ k → place_in (k ∷ ks) l ≡ 1 + place_in ks l
place-later l k ks e = rw (test-other l k e) refl

-- a link stands at its place
pub place-is : (ks : List ℕ) (l : ℕ) → 0 < count l ks → (place_in ks l < length ks) × (get_or ks (place_in ks l) 0 ≡ l)
place-is [] l some = absurd (omega arith)
place-is (k ∷ ks) l some = elim (cases_eq l k) as (λ _. (place_in (k ∷ ks) l < length (k ∷ ks)) × (get_or (k ∷ ks) (place_in (k ∷ ks) l) 0 ≡ l)) [
  | inl same ↦ (omega (arith, place-first l k ks same), ap (λ i. get_or (k ∷ ks) i 0) (place-first l k ks same) ∙ sym same)
  | inr other ↦
      let later = place-is ks l (omega (arith, some, count-cons l k ks, test_other k l (λ e. other (sym e)))) in
      (omega (arith, later.0, place-later l k ks other), ap (λ i. get_or (k ∷ ks) i 0) (place-later l k ks other ∙ one_more (place_in ks l)) ∙ later.1)
]
  where
    one_more : (n : ℕ) → 1 + n ≡ suc n
    one_more n = omega arith

-- what is put behind a list has its length for a place, and what stands in it keeps its own
pub place-after : (front back : List ℕ) (x : ℕ) → count x front ≡ 0 → place_in (front ++ x ∷ back) x ≡ length front
place-after [] back x none = place-first x x back refl
place-after (k ∷ front) back x none = elim (cases_eq x k) as (λ _. place_in (k ∷ (front ++ x ∷ back)) x ≡ suc (length front)) [
  | inl same ↦ absurd (omega (arith, none, count-cons x k front, test_same k x (sym same)))
  | inr other ↦ omega (arith, place-later x k (front ++ x ∷ back) other, place-after front back x (omega (arith, none, count-cons x k front)))
]

pub place-kept : (ks more : List ℕ) (l : ℕ) → 0 < count l ks → place_in (ks ++ more) l ≡ place_in ks l
place-kept [] more l some = absurd (omega arith)
place-kept (k ∷ ks) more l some = elim (cases_eq l k) as (λ _. place_in (k ∷ (ks ++ more)) l ≡ place_in (k ∷ ks) l) [
  | inl same ↦ place-first l k (ks ++ more) same ∙ sym (place-first l k ks same)
  | inr other ↦
      place-later l k (ks ++ more) other ∙ ap (λ i. 1 + i) (place-kept ks more l (omega (arith, some, count-cons l k ks, test_other k l (λ e. other (sym e)))))
      ∙ sym (place-later l k ks other)
]

-- a link among the first i has a place below i
pub place-low : (ks : List ℕ) (l i : ℕ) → 0 < count l (take i ks) → place_in ks l < i
place-low ks l zero some = absurd (omega arith)
place-low [] l (suc i) some = absurd (omega arith)
place-low (k ∷ ks) l (suc i) some = elim (cases_eq l k) as (λ _. place_in (k ∷ ks) l < suc i) [
  | inl same ↦ omega (arith, place-first l k ks same)
  | inr other ↦ omega (arith, place-later l k ks other, place-low ks l i (omega (arith, some, count-cons l k (take i ks), test_other k l (λ e. other (sym e)))))
]

pub position-is : (ks : List ℕ) (l : ℕ) → 0 < count l ks → position (eqb l) ks ≡ Some (place_in ks l)
position-is ks l some = rw (test-less (place_in ks l) (length ks) (place-is ks l some).0) refl

-- what stands at a place is in the list
pub item_in : (xs : List ℕ) (i r : ℕ) → i < length xs → r ≡ get_or xs i r → 0 < count r xs
item_in [] i r low is = absurd (omega arith)
item_in (x ∷ xs) zero r low is = omega (arith, count-cons r x xs, test_same x r (sym is))
item_in (x ∷ xs) (suc i) r low is = omega (arith, count-cons r x xs, item_in xs i r (omega arith) is)

pub get-some : (xs : List ℕ) (i r : ℕ) → Some r ≡ slice_get xs i → (i < length xs) × (get_or xs i r ≡ r)
get-some [] i r e = absurd cc
get-some (x ∷ xs) zero r e = (omega arith, let f : Some r ≡ Some x = e in cc)
get-some (x ∷ xs) (suc i) r e = let later = get-some xs i r e in (omega (arith, later.0), later.1)

pub get-none : (xs : List ℕ) (i : ℕ) → None ≡ slice_get xs i → length xs ≤ i
get-none [] i e = omega arith
get-none (x ∷ xs) zero e = absurd (let f : None ≡ Some x = e in cc)
get-none (x ∷ xs) (suc i) e = omega (arith, get-none xs i e)
