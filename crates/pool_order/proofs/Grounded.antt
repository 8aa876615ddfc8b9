-- Rows that lead down have ranks below the number of their places.
use Rattle.std.proofs.Common.{◌≡◌, ℕ, zero, suc, ◌+◌, ◌<◌, ◌≤◌, cond, ltb, IsSome, Option, None, List, [], ◌∷◌, length, get_or, ap, arith, inl, inr}
use Rattle.std.proofs.lemmas.Bool.{cases_eq}
use Rattle.std.proofs.lemmas.Bool.Decides.{nat_tests}
use Rattle.node_heap.specs.Links.{Links, HasLink, LeadsDown}
use Rattle.node_heap.specs.Forms.{Row}
use Rattle.node_heap.specs.Heap.{Heap, row_at, links_at, IsGraph}
use Rattle.pool_order.specs.Laws.{AreLinkedBelow}

-- links lead down to rows that are there, from ranks below n
pub record IsGrounded (n : ℕ) (L : Links) (Is : ℕ → Type 0) : Type 0 where
  pub rank : ℕ → ℕ
  pub falls : LeadsDown rank L
  pub low : (l : ℕ) → Is l → rank l < n
  pub closed : (l k : ℕ) → HasLink L l k → Is k

abbrev one_below : ℕ → ℕ → ℕ
one_below a b = cond (ltb a b) 1 0

-- how many numbers below n have a lower rank
abbrev lower : (ℕ → ℕ) → ℕ → ℕ → ℕ
lower rank zero r = 0
lower rank (suc n) r = lower rank n r + one_below (rank n) r

one_if : (a b : ℕ) → one_below a b ≤ 1
one_if a b = grind (arith, nat_tests)

one_if-yes : (a b : ℕ) → a < b → one_below a b ≡ 1
one_if-yes a b h = grind (arith, nat_tests)

one_if-no : (a b : ℕ) → b ≤ a → one_below a b ≡ 0
one_if-no a b h = grind (arith, nat_tests)

one_if-more : (a b c : ℕ) → b ≤ c → one_below a b ≤ one_below a c
one_if-more a b c h = grind (arith, nat_tests)

lower-le : (rank : ℕ → ℕ) (n r : ℕ) → lower rank n r ≤ n
lower-le rank zero r = omega arith
lower-le rank (suc n) r = omega (arith, lower-le rank n r, one_if (rank n) r)

lower-lt : (rank : ℕ → ℕ) (n l : ℕ) → l < n → lower rank n (rank l) < n
lower-lt rank zero l h = absurd (omega arith)
lower-lt rank (suc n) l h = elim (cases_eq l n) as (λ _. lower rank (suc n) (rank l) < suc n) [
  | inl same ↦ omega (arith, lower-le rank n (rank l), one_if-no (rank n) (rank l) (omega (arith, ap rank same)))
  | inr other ↦ omega (arith, lower-lt rank n l (omega (arith, h, other)), one_if (rank n) (rank l))
]

lower-more : (rank : ℕ → ℕ) (n r s : ℕ) → r ≤ s → lower rank n r ≤ lower rank n s
lower-more rank zero r s h = omega arith
lower-more rank (suc n) r s h = omega (arith, lower-more rank n r s h, one_if-more (rank n) r s h)

lower-falls : (rank : ℕ → ℕ) (n k s : ℕ) → k < n → rank k < s → lower rank n (rank k) < lower rank n s
lower-falls rank zero k s h low = absurd (omega arith)
lower-falls rank (suc n) k s h low = elim (cases_eq k n) as (λ _. lower rank (suc n) (rank k) < lower rank (suc n) s) [
  | inl same ↦ omega (arith, lower-more rank n (rank k) s (omega (arith, low)), one_if-no (rank n) (rank k) (omega (arith, ap rank same)), one_if-yes (rank n) s (omega (arith, low, ap rank same)))
  | inr other ↦ omega (arith, lower-falls rank n k s (omega (arith, h, other)) low, one_if-more (rank n) (rank k) s (omega (arith, low)))
]

-- whatever the ranks are by which the links fall
grounded-by : (n : ℕ) (L : Links) (Is : ℕ → Type 0) (rank : ℕ → ℕ) → LeadsDown rank L → ((l : ℕ) → Is l → l < n) → ((l k : ℕ) → HasLink L l k → Is k) → IsGrounded n L Is
grounded-by n L Is rank falls low closed = record {
  rank = λ l. lower rank n (rank l);
  falls = λ l k has. lower-falls rank n k (rank l) (low k (closed l k has)) (falls l k has);
  low = λ l there. lower-lt rank n l (low l there);
  closed = closed;
}

-- rows in a list
pub grounded-below : (n : ℕ) (L : Links) → AreLinkedBelow n L → IsGrounded n L (λ k. k < n)
grounded-below n L linked = grounded-by n L (λ k. k < n) linked.rank linked.falls (λ l low. low) linked.inside

module _ {T : Type 0} where
  within : (rows : List (Option (Row T))) (l : ℕ) → IsSome (get_or rows l None) → l < length rows
  within [] l live = absurd cc
  within (r ∷ rs) zero live = omega arith
  within (r ∷ rs) (suc l) live = omega (arith, within rs l live)

  -- rows of a heap
  pub grounded : (h : Heap T) → IsGraph h → IsGrounded (length h.rows) (links_at h) (λ l. IsSome (row_at h l))
  grounded h graph = grounded-by (length h.rows) (links_at h) (λ l. IsSome (row_at h l)) graph.rank graph.falls (within h.rows) graph.closed
