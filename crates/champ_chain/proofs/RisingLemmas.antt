-- Lists of entries in rising order.
use Rattle.std.proofs.Common.{◌≡◌, ℕ, zero, suc, ◌≤◌, drop, Bool, true, false, not, cond, List, [], ◌∷◌, ◌++◌, refl, ap, sym, ◌∙◌, arith, inl, inr, ◌⊎◌, Some, None, subst}
use Rattle.std.specs.Prelude.{count_by}
use Rattle.std.specs.List.{find}
use Rattle.std.specs.Cmp.{IsTotalOrder, tied_itself}
use Rattle.std.specs.Ordering.{is_eq, ordering_reverse}
use Rattle.std.specs.declared.cmp.Ordering.{Ordering}
use Rattle.std.specs.declared.cmp.Ordering.TheVariants.{Less, Equal, Greater}
use Rattle.champ_chain.specs.Entry.{Entry, SameSet, has_key, others, put, AreDistinct, same_first}
use Rattle.champ_chain.specs.Chain.{AreAbove, AreBelow, IsRising}
use Rattle.champ_chain.proofs.SetLemmas.{same-sym, same-length, same-filter, count-cons, same-count, Among, same-among}

pub cases_Ordering : (r : Ordering) → (r ≡ Less) ⊎ (r ≡ Equal) ⊎ (r ≡ Greater)
cases_Ordering Less = inl refl
cases_Ordering Equal = inr (inl refl)
cases_Ordering Greater = inr (inr refl)

module _ {K : Type 0} (cmp : K → K → Ordering) (o : IsTotalOrder cmp) where
  pub greater_flip : (x y : K) → cmp x y ≡ Less → cmp y x ≡ Greater
  greater_flip x y e = o.antisymm y x ∙ ap ordering_reverse e

  pub less_flip : (x y : K) → cmp x y ≡ Greater → cmp y x ≡ Less
  less_flip x y e = o.antisymm y x ∙ ap ordering_reverse e

  pub less_irrefl : (x : K) → cmp x x ≡ Less → ⊥
  less_irrefl x e = let t : cmp x x ≡ Equal = tied_itself o x in let no : Less ≡ Equal = sym e ∙ t in cc

  pub other_less : (x y : K) → cmp x y ≡ Less → is_eq (cmp y x) ≡ false
  other_less x y e = ap is_eq (greater_flip x y e)

  pub other_greater : (x y : K) → cmp x y ≡ Less → is_eq (cmp x y) ≡ false
  other_greater x y e = ap is_eq e

  -- what is above stays above a smaller key, and a key that is the same
  pub above-less : (x k : K) → cmp x k ≡ Less → (es : List (Entry K)) → AreAbove cmp k es → AreAbove cmp x es
  above-less x k lt [] a = tt
  above-less x k lt (e ∷ es) a = (o.trans x k e.key lt a.0, above-less x k lt es a.1)

  pub above-same : (x k : K) → cmp x k ≡ Equal → (es : List (Entry K)) → AreAbove cmp k es → AreAbove cmp x es
  above-same x k e [] a = tt
  above-same x k e (d ∷ es) a = (o.congr x k d.key e ∙ a.0, above-same x k e es a.1)

  above-left : (k : K) (xs ys : List (Entry K)) → AreAbove cmp k (xs ++ ys) → AreAbove cmp k xs
  above-left k [] ys a = tt
  above-left k (x ∷ xs) ys a = (a.0, above-left k xs ys a.1)

  above-right : (k : K) (xs ys : List (Entry K)) → AreAbove cmp k (xs ++ ys) → AreAbove cmp k ys
  above-right k [] ys a = a
  above-right k (x ∷ xs) ys a = above-right k xs ys a.1

  above-both : (k : K) (xs ys : List (Entry K)) → AreAbove cmp k xs → AreAbove cmp k ys → AreAbove cmp k (xs ++ ys)
  above-both k [] ys a b = b
  above-both k (x ∷ xs) ys a b = (a.0, above-both k xs ys a.1 b)

  pub below-push : (k : K) (xs : List (Entry K)) (e : Entry K) → AreBelow cmp k xs → cmp e.key k ≡ Less → AreBelow cmp k (xs ++ e ∷ [])
  below-push k [] e b lt = (lt, tt)
  below-push k (x ∷ xs) e b lt = (b.0, below-push k xs e b.1 lt)

  pub rising-left : (xs ys : List (Entry K)) → IsRising cmp (xs ++ ys) → IsRising cmp xs
  rising-left [] ys r = tt
  rising-left (x ∷ xs) ys r = (above-left x.key xs ys r.0, rising-left xs ys r.1)

  pub rising-right : (xs ys : List (Entry K)) → IsRising cmp (xs ++ ys) → IsRising cmp ys
  rising-right [] ys r = r
  rising-right (x ∷ xs) ys r = rising-right xs ys r.1

  -- rising lists one after the other, with a key between them
  pub rising-both : (k : K) (xs ys : List (Entry K)) → IsRising cmp xs → AreBelow cmp k xs → IsRising cmp ys → ((x : K) → cmp x k ≡ Less → AreAbove cmp x ys) → IsRising cmp (xs ++ ys)
  rising-both k [] ys r b s h = s
  rising-both k (x ∷ xs) ys r b s h = (above-both x.key xs ys r.0 (h x.key b.0), rising-both k xs ys r.1 b.1 s h)

  -- all other keys
  pub others-below : (k : K) (xs : List (Entry K)) → AreBelow cmp k xs → others cmp k xs ≡ xs
  others-below k [] b = refl
  others-below k (x ∷ xs) b = rw (other_less x.key k b.0) (ap (λ ys. x ∷ ys) (others-below k xs b.1))

  pub others-above : (k : K) (xs : List (Entry K)) → AreAbove cmp k xs → others cmp k xs ≡ xs
  others-above k [] b = refl
  others-above k (x ∷ xs) b = rw (other_greater k x.key b.0) (ap (λ ys. x ∷ ys) (others-above k xs b.1))

  pub none-below : (k : K) (xs : List (Entry K)) → AreBelow cmp k xs → count_by (has_key cmp k) xs ≡ 0
  none-below k [] b = refl
  none-below k (x ∷ xs) b = let one : Bool → ℕ = λ c. cond c 1 0 in omega (arith, count-cons (has_key cmp k) x xs, ap one (other_less x.key k b.0), none-below k xs b.1)

  pub none-above : (k : K) (xs : List (Entry K)) → AreAbove cmp k xs → count_by (has_key cmp k) xs ≡ 0
  none-above k [] b = refl
  none-above k (x ∷ xs) b = let one : Bool → ℕ = λ c. cond c 1 0 in omega (arith, count-cons (has_key cmp k) x xs, ap one (other_greater k x.key b.0), none-above k xs b.1)

  pub find-none : (k : K) (xs : List (Entry K)) → count_by (has_key cmp k) xs ≡ 0 → find (has_key cmp k) xs ≡ None
  find-none k [] b = refl
  find-none k (x ∷ xs) none = by_test (has_key cmp k x) refl (find-none k xs)
    where
      by_test : (b : Bool) → has_key cmp k x ≡ b → (count_by (has_key cmp k) xs ≡ 0 → find (has_key cmp k) xs ≡ None) → cond b (Some x) (find (has_key cmp k) xs) ≡ None
      by_test true e rest = absurd (let one : Bool → ℕ = λ c. cond c 1 0 in omega (arith, none, count-cons (has_key cmp k) x xs, ap one e))
      by_test false e rest = rest (omega (arith, none, count-cons (has_key cmp k) x xs))

  pub rising-distinct : (es : List (Entry K)) → IsRising cmp es → AreDistinct cmp es
  rising-distinct [] r = record { once = λ k. omega arith }
  rising-distinct (e ∷ es) r = record { once = λ k. by_order (rising-distinct es r.1) k (cases_Ordering (cmp k e.key)) }
    where
      by_order : (rest : AreDistinct cmp es) (k : K) → (cmp k e.key ≡ Less) ⊎ (cmp k e.key ≡ Equal) ⊎ (cmp k e.key ≡ Greater) → count_by (has_key cmp k) (e ∷ es) ≤ 1
      by_order rest k (inl less) = let one : Bool → ℕ = λ c. cond c 1 0 in omega (arith, count-cons (has_key cmp k) e es, ap one (ap is_eq less), rest.once k)
      by_order rest k (inr (inl equal)) = let one : Bool → ℕ = λ c. cond c 1 0 in omega (arith, count-cons (has_key cmp k) e es, ap one (ap is_eq equal), none-above k es (above-same k e.key equal es r.0))
      by_order rest k (inr (inr greater)) = let one : Bool → ℕ = λ c. cond c 1 0 in omega (arith, count-cons (has_key cmp k) e es, ap one (ap is_eq greater), rest.once k)

  pub same-distinct : (xs ys : List (Entry K)) → SameSet xs ys → AreDistinct cmp xs → AreDistinct cmp ys
  same-distinct xs ys s d = record { once = λ k. omega (arith, d.once k, same-count (has_key cmp k) xs ys s) }

  above-among : (k : K) (xs : List (Entry K)) (x : Entry K) → AreAbove cmp k xs → Among x xs → cmp k x.key ≡ Less
  above-among k [] x a nowhere = absurd nowhere
  above-among k (y ∷ xs) x a (inl same) = subst (λ (e : Entry K). cmp k e.key ≡ Less) same a.0
  above-among k (y ∷ xs) x a (inr i) = above-among k xs x a.1 i

  drop-first : (x : Entry K) (xs : List (Entry K)) → AreAbove cmp x.key xs → others cmp x.key (x ∷ xs) ≡ xs
  drop-first x xs a = rw (ap is_eq (tied_itself o x.key)) (others-above x.key xs a)

  -- a set has one rising list
  pub rising-unique : (xs ys : List (Entry K)) → IsRising cmp xs → IsRising cmp ys → SameSet xs ys → xs ≡ ys
  rising-unique [] [] r q s = refl
  rising-unique [] (y ∷ ys) r q s = absurd (omega (arith, same-length _ _ s))
  rising-unique (x ∷ xs) [] r q s = absurd (omega (arith, same-length _ _ s))
  rising-unique (x ∷ xs) (y ∷ ys) r q s =
      let here : x ≡ y = heads (same-among x _ _ s (inl refl)) (same-among y _ _ (same-sym _ _ s) (inl refl)) in
      let rest : SameSet xs ys = tails here in
      ap (λ e. e ∷ xs) here ∙ ap (λ zs. y ∷ zs) (rising-unique xs ys r.1 q.1 rest)
    where
      heads : Among x (y ∷ ys) → Among y (x ∷ xs) → x ≡ y
      heads (inl same) j = sym same
      heads (inr i) (inl same) = same
      heads (inr i) (inr j) = absurd (less_irrefl x.key (o.trans x.key y.key x.key (above-among x.key xs y r.0 j) (above-among y.key ys x q.0 i)))

      tails : x ≡ y → SameSet xs ys
      tails e =
          let s' : SameSet (others cmp x.key (x ∷ xs)) (others cmp x.key (y ∷ ys)) = same-filter (λ d. not (has_key cmp x.key d)) _ _ s in
          let a' : AreAbove cmp x.key ys = subst (λ (d : Entry K). AreAbove cmp d.key ys) (sym e) q.0 in
          let left = drop-first x xs r.0 in
          let right : others cmp x.key (y ∷ ys) ≡ ys = subst (λ (d : Entry K). others cmp x.key (d ∷ ys) ≡ ys) e (drop-first x ys a') in
          subst (λ zs. SameSet zs ys) left (subst (λ zs. SameSet (others cmp x.key (x ∷ xs)) zs) right s')

  -- putting an entry into the same set
  pub same-put : (xs ys : List (Entry K)) (e : Entry K) → SameSet xs ys → SameSet (put cmp xs e) (put cmp ys e)
  same-put xs ys e s = same_first e _ _ (same-filter (λ d. not (has_key cmp e.key d)) xs ys s)

  -- what stands further on in a list above a key is above it
  pub above-drop : (k : K) (es : List (Entry K)) (n : ℕ) (d : Entry K) (ds : List (Entry K)) → AreAbove cmp k es → drop n es ≡ d ∷ ds → cmp k d.key ≡ Less
  above-drop k [] zero d ds above is = absurd cc
  above-drop k [] (suc n) d ds above is = absurd cc
  above-drop k (e ∷ es) zero d ds above is = let same : e ≡ d = cc in subst (λ (x : Entry K). cmp k x.key ≡ Less) same above.0
  above-drop k (e ∷ es) (suc n) d ds above is = above-drop k es n d ds above.1 is

  -- equal keys stand at one place of a rising list
  pub rising-once : (es : List (Entry K)) (i j : ℕ) (e d : Entry K) (us vs : List (Entry K)) → IsRising cmp es → drop i es ≡ e ∷ us → drop j es ≡ d ∷ vs → cmp e.key d.key ≡ Equal → i ≡ j
  rising-once [] zero j e d us vs rising first second equal = absurd cc
  rising-once [] (suc i) j e d us vs rising first second equal = absurd cc
  rising-once (x ∷ xs) zero zero e d us vs rising first second equal = refl
  rising-once (x ∷ xs) zero (suc j) e d us vs rising first second equal =
      let less = above-drop x.key xs j d vs rising.0 second in
      let same : x ≡ e = cc in
      let less' : cmp e.key d.key ≡ Less = subst (λ (y : Entry K). cmp y.key d.key ≡ Less) same less in
      absurd (let bad : Less ≡ Equal = sym less' ∙ equal in cc)
  rising-once (x ∷ xs) (suc i) zero e d us vs rising first second equal =
      let less = above-drop x.key xs i e us rising.0 first in
      let same : x ≡ d = cc in
      let less' : cmp d.key e.key ≡ Less = subst (λ (y : Entry K). cmp y.key e.key ≡ Less) same less in
      absurd (let bad : Greater ≡ Equal = sym (greater_flip d.key e.key less') ∙ equal in cc)
  rising-once (x ∷ xs) (suc i) (suc j) e d us vs rising first second equal = ap suc (rising-once xs i j e d us vs rising.1 first second equal)
