-- Entries with different keys that are sorted rise.
use Rattle.std.proofs.Common.{◌≡◌, ℕ, zero, suc, ◌+◌, ◌<◌, refl, ap, sym, subst, ◌∙◌, arith, false, cond, Ordering, List, [], ◌∷◌, length, get_or}
use Rattle.std.specs.Prelude.{slice_set, count_by}
use Rattle.std.specs.List.{swap}
use Rattle.std.specs.List.Sorted.{IsPermutation, apply_swaps, SwapsInRange}
use Rattle.std.specs.Ordering.{is_lt, is_eq}
use Rattle.std.specs.Cmp.{IsTotalOrder, tied_itself}
use Rattle.std.specs.declared.cmp.Ordering.TheVariants.{Less, Equal, Greater}
use Rattle.champ_chain.specs.Entry.{Entry, SameSet, same_first, same_turned, same_through, has_key, AreDistinct}
use Rattle.champ_chain.specs.Chain.{IsRising}
use Rattle.champ_chain.proofs.SetLemmas.{same-refl, same-length, count-cons}
use Rattle.champ_chain.proofs.RisingLemmas.{less_flip, above-less}

module _ {X : Type 0} where
  -- an element put in the place of another, and that one in front
  set-turned : (xs : List X) (k : ℕ) (x d : X) → k < length xs → SameSet (get_or xs k d ∷ slice_set xs k x) (x ∷ xs)
  set-turned [] k x d low = absurd (omega (arith, low))
  set-turned (y ∷ ys) zero x d low = same_turned y x ys
  set-turned (y ∷ ys) (suc k) x d low =
      same_through _ (y ∷ get_or ys k d ∷ slice_set ys k x) _ (same_turned (get_or ys k d) y (slice_set ys k x))
      (same_through _ (y ∷ x ∷ ys) _ (same_first y _ _ (set-turned ys k x d (omega (arith, low)))) (same_turned y x ys))

  -- two elements in each other's place
  set-both : (xs : List X) (i j : ℕ) (a b d : X) → i < length xs → j < length xs → get_or xs i d ≡ a → get_or xs j d ≡ b → SameSet (slice_set (slice_set xs i b) j a) xs
  set-both [] i j a b d low low' is is' = absurd (omega (arith, low))
  set-both (x ∷ xs) zero zero a b d low low' is is' = subst (λ y. SameSet (y ∷ xs) (x ∷ xs)) is (same-refl (x ∷ xs))
  set-both (x ∷ xs) zero (suc k) a b d low low' is is' =
      subst (λ y. SameSet (b ∷ slice_set xs k y) (x ∷ xs)) is (subst (λ y. SameSet (y ∷ slice_set xs k x) (x ∷ xs)) is' (set-turned xs k x d (omega (arith, low'))))
  set-both (x ∷ xs) (suc k) zero a b d low low' is is' =
      subst (λ y. SameSet (a ∷ slice_set xs k y) (x ∷ xs)) is' (subst (λ y. SameSet (y ∷ slice_set xs k x) (x ∷ xs)) is (set-turned xs k x d (omega (arith, low))))
  set-both (x ∷ xs) (suc i) (suc j) a b d low low' is is' = same_first x _ _ (set-both xs i j a b d (omega (arith, low)) (omega (arith, low')) is is')

  swap-same : (xs : List X) (i j : ℕ) → i < length xs → j < length xs → SameSet (swap xs i j) xs
  swap-same [] i j low low' = absurd (omega (arith, low))
  swap-same (x ∷ xs) i j low low' = set-both (x ∷ xs) i j (get_or (x ∷ xs) i x) (get_or (x ∷ xs) j x) x low low' refl refl

  swaps-same : (xs : List X) (moves : List (ℕ × ℕ)) → SwapsInRange (length xs) moves → SameSet (apply_swaps xs moves) xs
  swaps-same xs [] low = same-refl xs
  swaps-same xs (p ∷ ps) low =
      let before : SameSet (apply_swaps xs ps) xs = swaps-same xs ps low.2 in
      let long : length (apply_swaps xs ps) ≡ length xs = same-length (apply_swaps xs ps) xs before in
      same_through _ (apply_swaps xs ps) _ (swap-same (apply_swaps xs ps) p.0 p.1 (omega (arith, long, low.0)) (omega (arith, long, low.1))) before

  -- what was put in another order has the same elements
  pub permuted-same : (xs ys : List X) → IsPermutation xs ys → SameSet ys xs
  permuted-same xs ys is = subst (λ zs. SameSet zs xs) (sym is.is) (swaps-same xs is.moves is.below)

module _ {K : Type 0} (cmp : K → K → Ordering) (total : IsTotalOrder cmp) where
  pub tail-distinct : (x : Entry K) (xs : List (Entry K)) → AreDistinct cmp (x ∷ xs) → AreDistinct cmp xs
  tail-distinct x xs distinct = record { once = λ key. omega (arith, distinct.once key, count-cons (has_key cmp key) x xs) }

  -- no key stands twice
  pub never-twice : (e d : Entry K) (es : List (Entry K)) → AreDistinct cmp (e ∷ d ∷ es) → cmp d.key e.key ≡ Equal → ⊥
  never-twice e d es distinct equal =
      let first : count_by (has_key cmp d.key) (e ∷ d ∷ es) ≡ 1 + count_by (has_key cmp d.key) (d ∷ es) = count-cons (has_key cmp d.key) e (d ∷ es) ∙ ap (λ b. cond b 1 0 + count_by (has_key cmp d.key) (d ∷ es)) (ap is_eq equal) in
      let second : count_by (has_key cmp d.key) (d ∷ es) ≡ 1 + count_by (has_key cmp d.key) es = count-cons (has_key cmp d.key) d es ∙ ap (λ b. cond b 1 0 + count_by (has_key cmp d.key) es) (ap is_eq (tied_itself total d.key)) in
      absurd (omega (arith, distinct.once d.key, first, second))

  -- where no key is less than the one before it, and no two are equal, they rise
  pub sorted-rises : (E : List (Entry K)) → AreDistinct cmp E → ((k : ℕ) (d : Entry K) → k + 1 < length E → is_lt (cmp (get_or E (k + 1) d).key (get_or E k d).key) ≡ false) → IsRising cmp E
  sorted-rises [] distinct sorted = tt
  sorted-rises (e ∷ []) distinct sorted = (tt, tt)
  sorted-rises (e ∷ d ∷ es) distinct sorted =
      let rest : IsRising cmp (d ∷ es) =
      sorted-rises (d ∷ es) (tail-distinct e (d ∷ es) distinct)
      (λ k x low. let next : suc k + 1 ≡ suc (k + 1) = omega arith in subst (λ i. is_lt (cmp (get_or (e ∷ d ∷ es) i x).key (get_or (d ∷ es) k x).key) ≡ false) next (sorted (suc k) x (omega (arith, low)))) in
      let less : cmp e.key d.key ≡ Less = first-less (cmp d.key e.key) refl (sorted 0 e (omega arith)) in
      ((less, above-less cmp total e.key d.key less es rest.0), rest)
    where
      first-less : (r : Ordering) → cmp d.key e.key ≡ r → is_lt r ≡ false → cmp e.key d.key ≡ Less
      first-less Less is not_less = absurd cc
      first-less Equal is not_less = absurd (never-twice e d es distinct is)
      first-less Greater is not_less = less_flip cmp total d.key e.key is
