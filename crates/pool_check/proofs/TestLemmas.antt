-- What tests that were passed say.
use Rattle.std.proofs.Common.{◌≡◌, ℕ, zero, suc, ◌+◌, ◌<◌, Bool, true, false, ◌&&◌, List, [], ◌∷◌, refl, ap, sym, ◌∙◌, arith, inl, inr}
use Rattle.std.specs.Prelude.{Some, None, slice_get, nat_lt}
use Rattle.std.specs.List.{list_all, All}
use Rattle.std.proofs.lemmas.Bool.{cases_eq, both_ways, ltb-true}
use Rattle.std.proofs.lemmas.List.Elements.{All-nil, All-cons}
use Rattle.node_heap.specs.Links.{count, LeadsDown}
use Rattle.node_heap.specs.Forms.{Form, links_of, links_in}
use Rattle.node_heap.proofs.Counts.{test_other, count-cons}
use Rattle.pool_text.specs.Pool.{forms_in, row_count}
use Rattle.pool_text.specs.declared.pool.Pool.{Pool}
use Rattle.pool_check.specs.Rows.{rows_lead_back, links_lead_back}

pub and-first : (a b : Bool) → (a && b) ≡ true → a ≡ true
and-first true b h = refl
and-first false b h = h

pub and-second : (a b : Bool) → (a && b) ≡ true → b ≡ true
and-second true b h = h
and-second false b h = absurd (both_ways false refl h)

pub not-both : false ≡ true → ⊥
not-both h = both_ways false refl h

-- a row of a list that passes a test passes it
pub all-at : {X : Type 0} (p : X → Bool) (xs : List X) → list_all p xs ≡ true → (i : ℕ) (x : X) → slice_get xs i ≡ Some x → p x ≡ true
all-at p [] h i x is = absurd (let e : None ≡ Some x = is in cc)
all-at p (y ∷ ys) h zero x is = let e : Some y ≡ Some x = is in let same : y ≡ x = cc in ap p (sym same) ∙ and-first (p y) (list_all p ys) h
all-at p (y ∷ ys) h (suc i) x is = all-at p ys (and-second (p y) (list_all p ys) h) i x is

-- what follows from a test for each element
pub all-from : {X : Type 0} (p : X → Bool) (P : X → Type 0) → ((x : X) → p x ≡ true → P x) → (xs : List X) → list_all p xs ≡ true → All P xs
all-from p P each [] h = All-nil P
all-from p P each (x ∷ xs) h = All-cons P x xs (each x (and-first (p x) (list_all p xs) h)) (all-from p P each xs (and-second (p x) (list_all p xs) h))

pub all-counted : (p : ℕ → Bool) (xs : List ℕ) → list_all p xs ≡ true → (k : ℕ) → 0 < count k xs → p k ≡ true
all-counted p [] h k some = absurd (omega arith)
all-counted p (x ∷ xs) h k some = elim (cases_eq x k) as (λ _. p k ≡ true) [
  | inl same ↦ ap p (sym same) ∙ and-first (p x) (list_all p xs) h
  | inr other ↦ all-counted p xs (and-second (p x) (list_all p xs) h) k (omega (arith, some, count-cons k x xs, test_other x k other))
]

pub lead-back-at : {K : Type 0} (place : ℕ) (rows : List (Form K)) → rows_lead_back place rows ≡ true → (i k : ℕ) → 0 < count k (links_of (slice_get rows i)) → k < place + i
lead-back-at place [] h i k some = absurd (omega arith)
lead-back-at place (row ∷ rows) h zero k some =
    omega (arith, ltb-true k place (all-counted (λ j. nat_lt j place) (links_of (Some row)) (and-first (list_all (λ j. nat_lt j place) (links_of (Some row))) (rows_lead_back (suc place) rows) h) k some))
lead-back-at place (row ∷ rows) h (suc i) k some =
    omega (arith, lead-back-at (suc place) rows (and-second (list_all (λ j. nat_lt j place) (links_of (Some row))) (rows_lead_back (suc place) rows) h) i k some)

-- links of a pool that passes the test lead to smaller places
pub leads-down : (P : Pool) → links_lead_back P ≡ true → LeadsDown (λ l. l) (links_in (forms_in P))
unfolding links_lead_back
leads-down P h l k some = omega (arith, lead-back-at 0 P.rows (and-first (rows_lead_back 0 P.rows) (list_all (λ j. nat_lt j (row_count P)) P.roots) h) l k some)

pub roots-low : (P : Pool) → links_lead_back P ≡ true → (r : ℕ) → 0 < count r P.roots → r < row_count P
unfolding links_lead_back
roots-low P h r some = ltb-true r (row_count P) (all-counted (λ j. nat_lt j (row_count P)) P.roots (and-second (rows_lead_back 0 P.rows) (list_all (λ j. nat_lt j (row_count P)) P.roots) h) r some)
