-- The same elements in another order.
use Rattle.std.proofs.Common.{◌≡◌, ℕ, suc, ◌+◌, ◌≤◌, Bool, true, false, cond, List, [], ◌∷◌, ◌++◌, length, refl, ap, ◌∙◌, arith, inl, inr, ◌⊎◌, Some}
use Rattle.std.specs.Prelude.{count_by}
use Rattle.std.specs.List.{filter, find}
use Rattle.std.proofs.lemmas.List.Sums.{sum_by-cons}
use Rattle.champ_chain.specs.Entry.{SameSet, same_none, same_first, same_turned, same_through}

module _ {X : Type 0} where
  pub same-refl : (xs : List X) → SameSet xs xs
  same-refl [] = same_none
  same-refl (x ∷ xs) = same_first x xs xs (same-refl xs)

  pub same-sym : (xs ys : List X) → SameSet xs ys → SameSet ys xs
  same-sym _ _ same_none = same_none
  same-sym _ _ (same_first x xs ys s) = same_first x ys xs (same-sym xs ys s)
  same-sym _ _ (same_turned x y xs) = same_turned y x xs
  same-sym _ _ (same_through xs ys zs s t) = same_through zs ys xs (same-sym ys zs t) (same-sym xs ys s)

  pub same-length : (xs ys : List X) → SameSet xs ys → length xs ≡ length ys
  same-length _ _ same_none = refl
  same-length _ _ (same_first x xs ys s) = ap suc (same-length xs ys s)
  same-length _ _ (same_turned x y xs) = refl
  same-length _ _ (same_through xs ys zs s t) = same-length xs ys s ∙ same-length ys zs t

  -- an element to the end of a front
  pub same-middle : (x : X) (xs ys : List X) → SameSet (xs ++ x ∷ ys) (x ∷ (xs ++ ys))
  same-middle x [] ys = same-refl (x ∷ ys)
  same-middle x (z ∷ xs) ys = same_through _ (z ∷ x ∷ (xs ++ ys)) _ (same_first z _ _ (same-middle x xs ys)) (same_turned z x (xs ++ ys))

  pub same-filter : (p : X → Bool) (xs ys : List X) → SameSet xs ys → SameSet (filter p xs) (filter p ys)
  same-filter p _ _ same_none = same_none
  same-filter p _ _ (same_first x xs ys s) = first (p x) (same-filter p xs ys s)
    where
      first : (b : Bool) → SameSet (filter p xs) (filter p ys) → SameSet (cond b (x ∷ filter p xs) (filter p xs)) (cond b (x ∷ filter p ys) (filter p ys))
      first true rest = same_first x _ _ rest
      first false rest = rest
  same-filter p _ _ (same_turned x y xs) = turned (p x) (p y)
    where
      turned : (a b : Bool) → SameSet (cond a (x ∷ cond b (y ∷ filter p xs) (filter p xs)) (cond b (y ∷ filter p xs) (filter p xs))) (cond b (y ∷ cond a (x ∷ filter p xs) (filter p xs)) (cond a (x ∷ filter p xs) (filter p xs)))
      turned true true = same_turned x y _
      turned true false = same-refl _
      turned false true = same-refl _
      turned false false = same-refl _
  same-filter p _ _ (same_through xs ys zs s t) = same_through _ _ _ (same-filter p xs ys s) (same-filter p ys zs t)

  pub count-cons : (p : X → Bool) (x : X) (xs : List X) → count_by p (x ∷ xs) ≡ cond (p x) 1 0 + count_by p xs
  count-cons p x xs = sum_by-cons (λ y. cond (p y) 1 0) x xs

  pub same-count : (p : X → Bool) (xs ys : List X) → SameSet xs ys → count_by p xs ≡ count_by p ys
  same-count p _ _ same_none = refl
  same-count p _ _ (same_first x xs ys s) = omega (arith, count-cons p x xs, count-cons p x ys, same-count p xs ys s)
  same-count p _ _ (same_turned x y xs) = omega (arith, count-cons p x (y ∷ xs), count-cons p y (x ∷ xs), count-cons p x xs, count-cons p y xs)
  same-count p _ _ (same_through xs ys zs s t) = same-count p xs ys s ∙ same-count p ys zs t

  -- a look-up that at most one element meets depends on the set alone
  pub same-find : (p : X → Bool) (xs ys : List X) → SameSet xs ys → count_by p xs ≤ 1 → find p xs ≡ find p ys
  same-find p _ _ same_none once = refl
  same-find p _ _ (same_first x xs ys s) once = ap (λ r. cond (p x) (Some x) r) (same-find p xs ys s (omega (arith, once, count-cons p x xs)))
  same-find p _ _ (same_turned x y xs) once = turned (p x) (p y) refl refl
    where
      turned : (a b : Bool) → p x ≡ a → p y ≡ b → cond a (Some x) (cond b (Some y) (find p xs)) ≡ cond b (Some y) (cond a (Some x) (find p xs))
      turned true true e f = let one : Bool → ℕ = λ c. cond c 1 0 in absurd (omega (arith, once, count-cons p x (y ∷ xs), count-cons p y xs, ap one e, ap one f))
      turned true false e f = refl
      turned false true e f = refl
      turned false false e f = refl
  same-find p _ _ (same_through xs ys zs s t) once = same-find p xs ys s once ∙ same-find p ys zs t (omega (arith, once, same-count p xs ys s))

  -- the element stands in the list
  abbrev pub Among : X → List X → Type 0
  Among x [] = ⊥
  Among x (y ∷ ys) = (y ≡ x) ⊎ Among x ys

  pub same-among : (x : X) (xs ys : List X) → SameSet xs ys → Among x xs → Among x ys
  same-among x _ _ same_none i = i
  same-among x _ _ (same_first z xs ys s) (inl same) = inl same
  same-among x _ _ (same_first z xs ys s) (inr i) = inr (same-among x xs ys s i)
  same-among x _ _ (same_turned z y xs) (inl same) = inr (inl same)
  same-among x _ _ (same_turned z y xs) (inr (inl same)) = inl same
  same-among x _ _ (same_turned z y xs) (inr (inr i)) = inr (inr i)
  same-among x _ _ (same_through xs ys zs s t) i = same-among x ys zs t (same-among x xs ys s i)

  -- a set of one element has one list
  pub same-one : (x : X) (ys : List X) → SameSet (x ∷ []) ys → ys ≡ x ∷ []
  same-one x ys s = by_list ys s (same-length _ _ s) (same-among x (x ∷ []) ys s (inl refl))
    where
      by_list : (ys : List X) → SameSet (x ∷ []) ys → 1 ≡ length ys → Among x ys → ys ≡ x ∷ []
      by_list [] s e i = absurd (omega (arith, e))
      by_list (y ∷ []) s e (inl same) = ap (λ z. z ∷ []) same
      by_list (y ∷ []) s e (inr nowhere) = absurd nowhere
      by_list (y ∷ z ∷ zs) s e i = absurd (omega (arith, e))
