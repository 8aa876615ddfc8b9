-- How often a link stands in a list.
use Rattle.std.proofs.Common.{◌≡◌, ◌≢◌, ℕ, suc, zero, ◌+◌, ◌<◌, ◌≤◌, List, [], ◌∷◌, length, take, drop, get_or, refl, ap, sym, ◌∙◌, arith, inl, inr, take-append-drop}
use Rattle.std.specs.List.{All}
use Rattle.std.proofs.lemmas.Bool.{cases_eq}
use Rattle.std.proofs.lemmas.Bool.Decides.{nat_tests}
use Rattle.node_heap.specs.Links.{count}
use Rattle.node_heap.specs.Heap.{one_at}
pub use Rattle.node_heap.proofs.BuildLemmas.{count-cons, count-one, count-append}

pub one-same : (x k : ℕ) → x ≡ k → one_at k x ≡ 1
one-same x k same = grind (arith, nat_tests)

pub one-other : (x k : ℕ) → x ≢ k → one_at k x ≡ 0
one-other x k other = grind (arith, nat_tests)

pub count-split : (k n : ℕ) (xs : List ℕ) → count k xs ≡ count k (take n xs) + count k (drop n xs)
count-split k n xs = ap (count k) (sym (take-append-drop n xs)) ∙ count-append k (take n xs) (drop n xs)

-- a part has no more of a link than the whole
pub count-part : (k i n : ℕ) (xs : List ℕ) → count k (take n (drop i xs)) ≤ count k xs
count-part k i n xs = omega (arith, count-split k i xs, count-split k n (drop i xs))

-- a link at a place is counted
pub count-at : (xs : List ℕ) (i d : ℕ) → i < length xs → 0 < count (get_or xs i d) xs
count-at [] i d b = absurd (omega arith)
count-at (x ∷ xs) zero d b = omega (arith, count-cons x x xs, one-same x x refl)
count-at (x ∷ xs) (suc i) d b = omega (arith, count-cons (get_or xs i d) x xs, count-at xs i d (omega arith))

-- what holds of each link that is counted holds of all
pub all-counted : (P : ℕ → Type 0) (xs : List ℕ) → ((k : ℕ) → 0 < count k xs → P k) → All P xs
all-counted P xs each = λ i d b. each (get_or xs i d) (count-at xs i d b)

-- a link of which there is one is no more often in its own list
pub one-held : (x n : ℕ) (holds : ℕ → ℕ) → 1 ≤ holds x → (k : ℕ) → count k (x ∷ []) ≤ holds k
one-held x n holds some k = elim (cases_eq k x) as (λ _. count k (x ∷ []) ≤ holds k) [
  | inl same ↦ omega (arith, count-one k x, one-same k x same, ap holds same)
  | inr other ↦ omega (arith, count-one k x, one-other k x other)
]
