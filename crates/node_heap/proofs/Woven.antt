-- Two lists of slots as one: the first at the even places, the second at the odd ones.
use Rattle.std.proofs.Common.{◌≡◌, ◌≢◌, ◌⊎◌, ℕ, zero, suc, ◌+◌, ◌*◌, ◌<◌, ◌/◌, ◌%◌, List, [], ◌∷◌, get_or, set, length, refl, sym, ap, subst, ◌∙◌, arith, Option, None, IsSome, inl, inr}
use Rattle.std.specs.Prelude.{sum_by}
use Rattle.std.proofs.lemmas.List.Sums.{sum_by-cons}
use Rattle.node_heap.specs.Inside.{spread, woven}
use Rattle.node_heap.specs.Nodes.{SameBut}

abbrev pub double : ℕ → ℕ
double zero = zero
double (suc n) = suc (suc (double n))

pub double-is : (n : ℕ) → double n ≡ 2 * n
double-is zero = refl
double-is (suc n) = omega (arith, double-is n)

pub even : (place : ℕ) → place % 2 ≡ 0 → place ≡ double (place / 2)
even place e = omega (arith, e, double-is (place / 2))

pub odd : (place : ℕ) → place % 2 ≢ 0 → place ≡ suc (double (place / 2))
odd place e = omega (arith, e, double-is (place / 2))

pub parity : (k : ℕ) → (i : ℕ) × ((k ≡ double i) ⊎ (k ≡ suc (double i)))
parity zero = (0, inl refl)
parity (suc zero) = (0, inr refl)
parity (suc (suc k)) =
    let p = parity k in (
      suc p.0,
      elim p.1 as (λ _. (suc (suc k) ≡ double (suc p.0)) ⊎ (suc (suc k) ≡ suc (double (suc p.0)))) [
        | inl e ↦ inl (ap (λ n. suc (suc n)) e)
        | inr e ↦ inr (ap (λ n. suc (suc n)) e)
      ],
    )

module _ {X : Type 0} where
  spread-even : (ys : List (Option X)) (i : ℕ) → get_or (spread ys) (double i) None ≡ None
  spread-even [] i = refl
  spread-even (y ∷ ys) zero = refl
  spread-even (y ∷ ys) (suc i) = spread-even ys i

  spread-odd : (ys : List (Option X)) (i : ℕ) → get_or (spread ys) (suc (double i)) None ≡ get_or ys i None
  spread-odd [] i = refl
  spread-odd (y ∷ ys) zero = refl
  spread-odd (y ∷ ys) (suc i) = spread-odd ys i

  pub at-even : (xs ys : List (Option X)) (i : ℕ) → get_or (woven xs ys) (double i) None ≡ get_or xs i None
  at-even [] ys i = spread-even ys i
  at-even (x ∷ xs) [] zero = refl
  at-even (x ∷ xs) [] (suc i) = at-even xs [] i
  at-even (x ∷ xs) (y ∷ ys) zero = refl
  at-even (x ∷ xs) (y ∷ ys) (suc i) = at-even xs ys i

  pub at-odd : (xs ys : List (Option X)) (i : ℕ) → get_or (woven xs ys) (suc (double i)) None ≡ get_or ys i None
  at-odd [] ys i = spread-odd ys i
  at-odd (x ∷ xs) [] zero = refl
  at-odd (x ∷ xs) [] (suc i) = at-odd xs [] i
  at-odd (x ∷ xs) (y ∷ ys) zero = refl
  at-odd (x ∷ xs) (y ∷ ys) (suc i) = at-odd xs ys i

  sum-spread : (f : Option X → ℕ) → f None ≡ 0 → (ys : List (Option X)) → sum_by f (spread ys) ≡ sum_by f ys
  sum-spread f none [] = refl
  sum-spread f none (y ∷ ys) =
      omega (arith, none, sum_by-cons f None (y ∷ spread ys), sum_by-cons f y (spread ys), sum_by-cons f y ys, sum-spread f none ys)

  -- a sum over both is the sum of the sums
  pub sum-woven : (f : Option X → ℕ) → f None ≡ 0 → (xs ys : List (Option X)) → sum_by f (woven xs ys) ≡ sum_by f xs + sum_by f ys
  sum-woven f none [] ys = omega (arith, sum-spread f none ys)
  sum-woven f none (x ∷ xs) [] =
      omega (arith, none, sum_by-cons f x (None ∷ woven xs []), sum_by-cons f None (woven xs []), sum_by-cons f x xs, sum-woven f none xs [])
  sum-woven f none (x ∷ xs) (y ∷ ys) =
      omega (arith, none, sum_by-cons f x (y ∷ woven xs ys), sum_by-cons f y (woven xs ys), sum_by-cons f x xs, sum_by-cons f y ys, sum-woven f none xs ys)

  pub apart-even : (xs xs' ys : List (Option X)) (i : ℕ) → SameBut xs xs' i → SameBut (woven xs ys) (woven xs' ys) (double i)
  apart-even xs xs' ys i same k other =
      let p = parity k in
      elim p.1 as (λ _. get_or (woven xs' ys) k None ≡ get_or (woven xs ys) k None) [
        | inl e ↦ subst (λ n. get_or (woven xs' ys) n None ≡ get_or (woven xs ys) n None) (sym e) (at-even xs' ys p.0 ∙ same p.0 (λ s. other (e ∙ ap double s)) ∙ sym (at-even xs ys p.0))
        | inr e ↦ subst (λ n. get_or (woven xs' ys) n None ≡ get_or (woven xs ys) n None) (sym e) (at-odd xs' ys p.0 ∙ sym (at-odd xs ys p.0))
      ]

  pub apart-odd : (xs ys ys' : List (Option X)) (i : ℕ) → SameBut ys ys' i → SameBut (woven xs ys) (woven xs ys') (suc (double i))
  apart-odd xs ys ys' i same k other =
      let p = parity k in
      elim p.1 as (λ _. get_or (woven xs ys') k None ≡ get_or (woven xs ys) k None) [
        | inl e ↦ subst (λ n. get_or (woven xs ys') n None ≡ get_or (woven xs ys) n None) (sym e) (at-even xs ys' p.0 ∙ sym (at-even xs ys p.0))
        | inr e ↦ subst (λ n. get_or (woven xs ys') n None ≡ get_or (woven xs ys) n None) (sym e) (at-odd xs ys' p.0 ∙ same p.0 (λ s. other (e ∙ ap (λ n. suc (double n)) s)) ∙ sym (at-odd xs ys p.0))
      ]

  spread-set : (ys : List (Option X)) (i : ℕ) (y : Option X) → spread (set ys i y) ≡ set (spread ys) (suc (double i)) y
  spread-set [] i y = refl
  spread-set (z ∷ ys) zero y = refl
  spread-set (z ∷ ys) (suc i) y = ap (λ zs. None ∷ z ∷ zs) (spread-set ys i y)

  -- a write in either list is one in both
  pub set-even : (xs ys : List (Option X)) (i : ℕ) (x : Option X) → i < length xs → woven (set xs i x) ys ≡ set (woven xs ys) (double i) x
  set-even [] ys i x within = absurd (omega (arith, within))
  set-even (z ∷ xs) [] zero x within = refl
  set-even (z ∷ xs) [] (suc i) x within = ap (λ zs. z ∷ None ∷ zs) (set-even xs [] i x (omega (arith, within)))
  set-even (z ∷ xs) (y ∷ ys) zero x within = refl
  set-even (z ∷ xs) (y ∷ ys) (suc i) x within = ap (λ zs. z ∷ y ∷ zs) (set-even xs ys i x (omega (arith, within)))

  pub set-odd : (xs ys : List (Option X)) (i : ℕ) (y : Option X) → i < length ys → woven xs (set ys i y) ≡ set (woven xs ys) (suc (double i)) y
  set-odd [] ys i y within = spread-set ys i y
  set-odd (x ∷ xs) [] i y within = absurd (omega (arith, within))
  set-odd (x ∷ xs) (z ∷ ys) zero y within = refl
  set-odd (x ∷ xs) (z ∷ ys) (suc i) y within = ap (λ zs. x ∷ z ∷ zs) (set-odd xs ys i y (omega (arith, within)))

  pub slot-inside : (xs : List (Option X)) (i : ℕ) → IsSome (get_or xs i None) → i < length xs
  slot-inside [] i live = absurd cc
  slot-inside (x ∷ xs) zero live = omega arith
  slot-inside (x ∷ xs) (suc i) live = omega (arith, slot-inside xs i live)
