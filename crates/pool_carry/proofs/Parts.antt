-- Entries put into lists by their digits.
use Rattle.std.proofs.Common.{◌≡◌, ℕ, zero, suc, ◌+◌, ◌<◌, refl, ap, sym, subst, ◌∙◌, Bool, true, false, cond, List, [], ◌∷◌, ◌++◌, append-nil, take, set, get_or, length, Option, Some, None}
use Rattle.std.specs.Prelude.{slice_get, IfSome, nat_eq}
use Rattle.std.proofs.lemmas.Bool.{eqb-true, eq-eqb}
use Rattle.std.proofs.lemmas.List.Elements.{filter_more}
use Rattle.elem_core.specs.Codes.{digit_at}
use Rattle.pool_carry.specs.Making.{with_digit}
use Rattle.pool_carry.specs.declared.entries.Entry.{Entry}

module _ {X : Type 0} where
  pub get-set-same : (xs : List X) (k : ℕ) (x y : X) → slice_get xs k ≡ Some x → slice_get (set xs k y) k ≡ Some y
  get-set-same [] k x y at = absurd cc
  get-set-same (z ∷ xs) zero x y at = refl
  get-set-same (z ∷ xs) (suc k) x y at = get-set-same xs k x y at

  pub get-set-other : (xs : List X) (k p : ℕ) (y : X) → (k ≡ p → ⊥) → slice_get (set xs k y) p ≡ slice_get xs p
  get-set-other [] k p y apart = refl
  get-set-other (z ∷ xs) zero zero y apart = absurd (apart refl)
  get-set-other (z ∷ xs) zero (suc p) y apart = refl
  get-set-other (z ∷ xs) (suc k) zero y apart = refl
  get-set-other (z ∷ xs) (suc k) (suc p) y apart = get-set-other xs k p y (λ same. apart (ap suc same))

  -- what holds of all elements holds of one
  pub holds-at : (xs : List X) (P : ℕ → X → Type 0) → ((p : ℕ) → IfSome (slice_get xs p) (P p)) → (k : ℕ) (x : X) → slice_get xs k ≡ Some x → P k x
  holds-at xs P each k x at = subst (λ o. IfSome o (P k)) at (each k)

  -- and of the list where one is set
  pub holds-set : (xs : List X) (P Q : ℕ → X → Type 0) (k : ℕ) (x y : X) → slice_get xs k ≡ Some x → Q k y → ((p : ℕ) (z : X) → (k ≡ p → ⊥) → P p z → Q p z) → ((p : ℕ) → IfSome (slice_get xs p) (P p))
      → (p : ℕ) → IfSome (slice_get (set xs k y) p) (Q p)
  holds-set xs P Q k x y at here others each p = by_place (nat_eq k p) refl
    where
      by_rest : (o : Option X) → (k ≡ p → ⊥) → IfSome o (P p) → IfSome o (Q p)
      by_rest None apart holds = tt
      by_rest (Some z) apart holds = others p z apart holds

      by_place : (b : Bool) → nat_eq k p ≡ b → IfSome (slice_get (set xs k y) p) (Q p)
      by_place true is = subst (λ i. IfSome (slice_get (set xs k y) i) (Q i)) (eqb-true k p is) (subst (λ o. IfSome o (Q k)) (sym (get-set-same xs k x y at)) here)
      by_place false is = let apart = λ (same : k ≡ p). absurd (let both : true ≡ false = sym (eq-eqb k p same) ∙ is in cc) in
          subst (λ o. IfSome o (Q p)) (sym (get-set-other xs k p y apart)) (by_rest (slice_get xs p) apart (each p))

  pub holds-none : (xs : List X) (P : X → Type 0) → xs ≡ [] → (p : ℕ) → IfSome (slice_get xs p) P
  holds-none xs P none p = subst (λ ys. IfSome (slice_get ys p) P) (sym none) tt

  -- and of the list with one more
  pub holds-end : (xs : List X) (P : X → Type 0) (y : X) → P y → ((p : ℕ) → IfSome (slice_get xs p) P) → (p : ℕ) → IfSome (slice_get (xs ++ y ∷ []) p) P
  holds-end [] P y here each zero = here
  holds-end [] P y here each (suc p) = tt
  holds-end (x ∷ xs) P y here each zero = each zero
  holds-end (x ∷ xs) P y here each (suc p) = holds-end xs P y here (λ i. each (suc i)) p

module _ (depth : ℕ) (es : List Entry) (i : ℕ) (low : i < length es) where
  -- one entry more has its digit
  pub part-same : (d : Entry) (k : ℕ) (old new : List Entry) → k ≡ digit_at (get_or es i d).code depth → old ≡ with_digit depth k (take i es) → new ≡ old ++ get_or es i d ∷ [] → new ≡ with_digit depth k (take (i + 1) es)
  part-same d k old new is before after =
      after ∙ ap (λ xs. xs ++ get_or es i d ∷ []) before
      ∙ sym (filter_more (λ e. nat_eq (digit_at e.code depth) k) es i d low ∙ ap (λ b. with_digit depth k (take i es) ++ cond b (get_or es i d ∷ []) []) (eq-eqb (digit_at (get_or es i d).code depth) k (sym is)))

  -- and no other
  pub part-other : (d : Entry) (k p : ℕ) → k ≡ digit_at (get_or es i d).code depth → (k ≡ p → ⊥) → with_digit depth p (take (i + 1) es) ≡ with_digit depth p (take i es)
  part-other d k p is apart =
      filter_more (λ e. nat_eq (digit_at e.code depth) p) es i d low ∙ by_test (nat_eq (digit_at (get_or es i d).code depth) p) refl
    where
      by_test : (b : Bool) → nat_eq (digit_at (get_or es i d).code depth) p ≡ b → with_digit depth p (take i es) ++ cond b (get_or es i d ∷ []) [] ≡ with_digit depth p (take i es)
      by_test true same = absurd (apart (is ∙ eqb-true (digit_at (get_or es i d).code depth) p same))
      by_test false other = append-nil (with_digit depth p (take i es))
