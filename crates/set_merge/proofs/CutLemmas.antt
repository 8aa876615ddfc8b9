-- Fronts that are cut at a key: their merge is the merges of the parts.
use Rattle.std.proofs.Common.{◌≡◌, ◌≢◌, List, [], ◌∷◌, ◌++◌, refl, ap, sym, subst, ◌∙◌, Bool, true, false, cond, inl, inr, ◌⊎◌, append_assoc}
use Rattle.std.specs.List.{All, filter}
use Rattle.std.proofs.lemmas.Bool.{cases_Bool}
use Rattle.std.proofs.lemmas.List.Elements.{filter-append, All-head, All-tail, All-nil, All-cons}
use Rattle.std.specs.Cmp.{IsTotalOrder}
use Rattle.std.specs.Ordering.{ordering_reverse}
use Rattle.std.specs.declared.cmp.Ordering.{Ordering}
use Rattle.std.specs.declared.cmp.Ordering.TheVariants.{Less, Equal}
use Rattle.champ_chain.specs.Entry.{Entry, SameSet}
use Rattle.champ_chain.specs.Chain.{AreAbove, AreBelow, IsRising}
use Rattle.champ_chain.proofs.SetLemmas.{Among, same-among, same-refl, same-sym, same-filter}
use Rattle.champ_trie.proofs.GatherLemmas.{same-both, same-swap}
use Rattle.set_merge.specs.declared.keeps.Keeps.{Keeps}
use Rattle.set_merge.specs.Merge.{is_key, merged}
use Rattle.set_merge.proofs.MergeLemmas.{filter-same, key-found, found-key, key-absent, among-kept}

module _ {X : Type 0} where
  pub among-append : (x : X) (xs ys : List X) → Among x (xs ++ ys) → Among x xs ⊎ Among x ys
  among-append x [] ys i = inr i
  among-append x (z ∷ xs) ys (inl same) = inl (inl same)
  among-append x (z ∷ xs) ys (inr i) = first (among-append x xs ys i)
    where
      first : Among x xs ⊎ Among x ys → Among x (z ∷ xs) ⊎ Among x ys
      first (inl j) = inl (inr j)
      first (inr j) = inr j

  pub among-left : (x : X) (xs ys : List X) → Among x xs → Among x (xs ++ ys)
  among-left x [] ys i = absurd i
  among-left x (z ∷ xs) ys (inl same) = inl same
  among-left x (z ∷ xs) ys (inr i) = inr (among-left x xs ys i)

  pub among-right : (x : X) (xs ys : List X) → Among x ys → Among x (xs ++ ys)
  among-right x [] ys i = i
  among-right x (z ∷ xs) ys i = inr (among-right x xs ys i)

  pub all-among : (P : X → Type 0) (x : X) (xs : List X) → All P xs → Among x xs → P x
  all-among P x [] all i = absurd i
  all-among P x (y ∷ ys) all (inl same) = subst P same (All-head P y ys all)
  all-among P x (y ∷ ys) all (inr i) = all-among P x ys (All-tail P y ys all) i

  -- the two in the middle change places
  pub same-crossed : (us vs ws zs : List X) → SameSet ((us ++ vs) ++ (ws ++ zs)) ((us ++ ws) ++ (vs ++ zs))
  same-crossed us vs ws zs =
      subst (λ xs. SameSet xs ((us ++ ws) ++ (vs ++ zs))) (sym (append_assoc us vs (ws ++ zs)))
      (subst (λ xs. SameSet (us ++ (vs ++ (ws ++ zs))) xs) (sym (append_assoc us ws (vs ++ zs)))
      (same-both us us (vs ++ (ws ++ zs)) (ws ++ (vs ++ zs)) (same-refl us)
      (subst (λ xs. SameSet xs (ws ++ (vs ++ zs))) (append_assoc vs ws zs)
      (subst (λ xs. SameSet ((vs ++ ws) ++ zs) xs) (append_assoc ws vs zs) (same-both (vs ++ ws) (ws ++ vs) zs zs (same-swap vs ws) (same-refl zs))))))

module _ {K : Type 0} (cmp : K → K → Ordering) where
  pub below-among : (k : K) (xs : List (Entry K)) (x : Entry K) → AreBelow cmp k xs → Among x xs → cmp x.key k ≡ Less
  below-among k [] x b i = absurd i
  below-among k (y ∷ ys) x b (inl same) = subst (λ (e : Entry K). cmp e.key k ≡ Less) same b.0
  below-among k (y ∷ ys) x b (inr i) = below-among k ys x b.1 i

  pub above-among : (k : K) (xs : List (Entry K)) (x : Entry K) → AreAbove cmp k xs → Among x xs → cmp k x.key ≡ Less
  above-among k [] x a i = absurd i
  above-among k (y ∷ ys) x a (inl same) = subst (λ (e : Entry K). cmp k e.key ≡ Less) same a.0
  above-among k (y ∷ ys) x a (inr i) = above-among k ys x a.1 i

  pub among-above : (k : K) (xs : List (Entry K)) → ((x : Entry K) → Among x xs → cmp k x.key ≡ Less) → AreAbove cmp k xs
  among-above k [] each = tt
  among-above k (y ∷ ys) each = (each y (inl refl), among-above k ys (λ x i. each x (inr i)))

  pub above-left : (k : K) (xs ys : List (Entry K)) → AreAbove cmp k (xs ++ ys) → AreAbove cmp k xs
  above-left k [] ys a = tt
  above-left k (x ∷ xs) ys a = (a.0, above-left k xs ys a.1)

  pub above-right : (k : K) (xs ys : List (Entry K)) → AreAbove cmp k (xs ++ ys) → AreAbove cmp k ys
  above-right k [] ys a = a
  above-right k (x ∷ xs) ys a = above-right k xs ys a.1

  pub above-both : (k : K) (xs ys : List (Entry K)) → AreAbove cmp k xs → AreAbove cmp k ys → AreAbove cmp k (xs ++ ys)
  above-both k [] ys a b = b
  above-both k (x ∷ xs) ys a b = (a.0, above-both k xs ys a.1 b)

  -- what comes first in a rising list is below what comes later
  pub rising-across : (xs ys : List (Entry K)) (x : Entry K) → IsRising cmp (xs ++ ys) → Among x xs → AreAbove cmp x.key ys
  rising-across [] ys x r i = absurd i
  rising-across (z ∷ xs) ys x r (inl same) = subst (λ (e : Entry K). AreAbove cmp e.key ys) same (above-right z.key xs ys r.0)
  rising-across (z ∷ xs) ys x r (inr i) = rising-across xs ys x r.1 i

  pub rising-join : (xs ys : List (Entry K)) → IsRising cmp xs → IsRising cmp ys → ((x : Entry K) → Among x xs → AreAbove cmp x.key ys) → IsRising cmp (xs ++ ys)
  rising-join [] ys r s across = s
  rising-join (x ∷ xs) ys r s across = (above-both x.key xs ys r.0 (across x (inl refl)), rising-join xs ys r.1 s (λ z i. across z (inr i)))

  -- a key is found in one part where it isn't in the other
  pub key-left : (xs ys : List (Entry K)) (key : K) → ((y : Entry K) → Among y ys → cmp key y.key ≢ Equal) → is_key cmp (xs ++ ys) key ≡ is_key cmp xs key
  key-left xs ys key none = elim (cases_Bool (is_key cmp xs key)) [
    | inl is ↦ (let found = key-found cmp xs key is in found-key cmp (xs ++ ys) key found.0 (among-left found.0 xs ys found.1) found.2 ∙ sym is)
    | inr absent ↦ key-absent cmp (xs ++ ys) key (λ e i equal. by_side e equal absent (among-append e xs ys i)) ∙ sym absent
  ]
    where
      by_side : (e : Entry K) → cmp key e.key ≡ Equal → is_key cmp xs key ≡ false → Among e xs ⊎ Among e ys → ⊥
      by_side e equal absent (inl i) = (let bad : true ≡ false = sym (found-key cmp xs key e i equal) ∙ absent in cc)
      by_side e equal absent (inr i) = none e i equal

  pub key-right : (xs ys : List (Entry K)) (key : K) → ((x : Entry K) → Among x xs → cmp key x.key ≢ Equal) → is_key cmp (xs ++ ys) key ≡ is_key cmp ys key
  key-right xs ys key none = elim (cases_Bool (is_key cmp ys key)) [
    | inl is ↦ (let found = key-found cmp ys key is in found-key cmp (xs ++ ys) key found.0 (among-right found.0 xs ys found.1) found.2 ∙ sym is)
    | inr absent ↦ key-absent cmp (xs ++ ys) key (λ e i equal. by_side e equal absent (among-append e xs ys i)) ∙ sym absent
  ]
    where
      by_side : (e : Entry K) → cmp key e.key ≡ Equal → is_key cmp ys key ≡ false → Among e xs ⊎ Among e ys → ⊥
      by_side e equal absent (inl i) = none e i equal
      by_side e equal absent (inr i) = (let bad : true ≡ false = sym (found-key cmp ys key e i equal) ∙ absent in cc)

  -- a key is in a set whatever the order of its list
  pub key-same : (xs ys : List (Entry K)) (key : K) → SameSet xs ys → is_key cmp xs key ≡ is_key cmp ys key
  key-same xs ys key same = elim (cases_Bool (is_key cmp ys key)) [
    | inl is ↦ (let found = key-found cmp ys key is in found-key cmp xs key found.0 (same-among found.0 ys xs (same-sym xs ys same) found.1) found.2 ∙ sym is)
    | inr absent ↦ key-absent cmp xs key (λ e i equal. let bad : true ≡ false = sym (found-key cmp ys key e (same-among e xs ys same i) equal) ∙ absent in cc) ∙ sym absent
  ]

  -- what is kept was in one of the two
  pub among-merged : (k : Keeps) (E D : List (Entry K)) (x : Entry K) → Among x (merged cmp k E D) → Among x E ⊎ Among x D
  unfolding merged
  among-merged k E D x i = by_side (among-append x (filter (λ e. cond (is_key cmp D e.key) k.both k.first) E) (filter (λ d. cond (is_key cmp E d.key) false k.second) D) i)
    where
      by_side : Among x (filter (λ e. cond (is_key cmp D e.key) k.both k.first) E) ⊎ Among x (filter (λ d. cond (is_key cmp E d.key) false k.second) D) → Among x E ⊎ Among x D
      by_side (inl j) = inl (among-kept _ x E j).0
      by_side (inr j) = inr (among-kept _ x D j).0

  module _ (o : IsTotalOrder cmp) where
    equal-back : (x y : K) → cmp x y ≡ Equal → cmp y x ≡ Equal
    equal-back x y e = o.antisymm y x ∙ ap ordering_reverse e

    -- the keys of some entries are none of the others' keys
    pub record AreApart (E D : List (Entry K)) : Type 0 where
      pub apart : (e : Entry K) → Among e E → (d : Entry K) → Among d D → cmp e.key d.key ≢ Equal

    pub apart-back : (E D : List (Entry K)) → AreApart E D → AreApart D E
    apart-back E D a = record { apart = λ d j e i equal. a.apart e i d j (equal-back d.key e.key equal) }

    -- keys below one key and keys that aren't
    pub apart-at : (key : K) (E D : List (Entry K)) → AreBelow cmp key E → ((d : Entry K) → Among d D → cmp d.key key ≢ Less) → AreApart E D
    apart-at key E D below from = record {
      apart = λ e i d j equal. from d j (sym (o.congr e.key d.key key equal) ∙ below-among key E e below i);
    }

    pub merged-cut : (k : Keeps) (E E' D D' : List (Entry K)) → AreApart E D' → AreApart E' D → SameSet (merged cmp k E D ++ merged cmp k E' D') (merged cmp k (E ++ E') (D ++ D'))
    unfolding merged
    merged-cut k E E' D D' early late =
        let kept : List (Entry K) → Entry K → Bool = λ (ds : List (Entry K)) (e : Entry K). cond (is_key cmp ds e.key) k.both k.first in
        let added : List (Entry K) → Entry K → Bool = λ (es : List (Entry K)) (d : Entry K). cond (is_key cmp es d.key) false k.second in
        let back = apart-back E D' early in
        let back' = apart-back E' D late in
        let first : filter (kept (D ++ D')) (E ++ E') ≡ filter (kept D) E ++ filter (kept D') E' =
        filter-append (kept (D ++ D')) E E'
        ∙ ap (λ xs. xs ++ filter (kept (D ++ D')) E') (filter-same (kept (D ++ D')) (kept D) E (λ e i. ap (λ b. cond b k.both k.first) (key-left D D' e.key (λ d j. early.apart e i d j))))
        ∙ ap (λ xs. filter (kept D) E ++ xs) (filter-same (kept (D ++ D')) (kept D') E' (λ e i. ap (λ b. cond b k.both k.first) (key-right D D' e.key (λ d j. late.apart e i d j)))) in
        let second : filter (added (E ++ E')) (D ++ D') ≡ filter (added E) D ++ filter (added E') D' =
        filter-append (added (E ++ E')) D D'
        ∙ ap (λ xs. xs ++ filter (added (E ++ E')) D') (filter-same (added (E ++ E')) (added E) D (λ d j. ap (λ b. cond b false k.second) (key-left E E' d.key (λ e i. back'.apart d j e i))))
        ∙ ap (λ xs. filter (added E) D ++ xs) (filter-same (added (E ++ E')) (added E') D' (λ d j. ap (λ b. cond b false k.second) (key-right E E' d.key (λ e i. back.apart d j e i)))) in
        subst (λ xs. SameSet ((filter (kept D) E ++ filter (added E) D) ++ (filter (kept D') E' ++ filter (added E') D')) (xs ++ filter (added (E ++ E')) (D ++ D'))) (sym first)
        (subst (λ ys. SameSet ((filter (kept D) E ++ filter (added E) D) ++ (filter (kept D') E' ++ filter (added E') D')) ((filter (kept D) E ++ filter (kept D') E') ++ ys)) (sym second)
        (same-crossed (filter (kept D) E) (filter (added E) D) (filter (kept D') E') (filter (added E') D')))

    -- a merge of the same sets
    pub merged-sets : (k : Keeps) (E E' D D' : List (Entry K)) → SameSet E E' → SameSet D D' → SameSet (merged cmp k E D) (merged cmp k E' D')
    unfolding merged
    merged-sets k E E' D D' first second =
        let kept : List (Entry K) → Entry K → Bool = λ (ds : List (Entry K)) (e : Entry K). cond (is_key cmp ds e.key) k.both k.first in
        let added : List (Entry K) → Entry K → Bool = λ (es : List (Entry K)) (d : Entry K). cond (is_key cmp es d.key) false k.second in
        same-both (filter (kept D) E) (filter (kept D') E') (filter (added E) D) (filter (added E') D')
        (subst (λ xs. SameSet xs (filter (kept D') E')) (sym (filter-same (kept D) (kept D') E (λ e i. ap (λ b. cond b k.both k.first) (key-same D D' e.key second)))) (same-filter (kept D') E E' first))
        (subst (λ xs. SameSet xs (filter (added E') D')) (sym (filter-same (added E) (added E') D (λ d i. ap (λ b. cond b false k.second) (key-same E E' d.key first)))) (same-filter (added E') D D' second))

    -- what is above a key that isn't below another isn't either
    pub not-less-above : (k : K) (d : Entry K) (us : List (Entry K)) → cmp d.key k ≢ Less → AreAbove cmp d.key us → All (λ (e : Entry K). cmp e.key k ≢ Less) us
    not-less-above k d [] from above = All-nil (λ (e : Entry K). cmp e.key k ≢ Less)
    not-less-above k d (x ∷ xs) from above = All-cons (λ (e : Entry K). cmp e.key k ≢ Less) x xs (λ less. from (o.trans d.key x.key k above.0 less)) (not-less-above k d xs from above.1)

    pub not-less-rest : (k : K) (d : Entry K) (us : List (Entry K)) → cmp d.key k ≢ Less → IsRising cmp (d ∷ us) → All (λ (e : Entry K). cmp e.key k ≢ Less) (d ∷ us)
    not-less-rest k d us from rising = All-cons (λ (e : Entry K). cmp e.key k ≢ Less) d us from (not-less-above k d us from rising.0)

    pub rising-below : (xs ys : List (Entry K)) (e : Entry K) → IsRising cmp (xs ++ e ∷ ys) → AreBelow cmp e.key xs
    rising-below [] ys e rising = tt
    rising-below (x ∷ xs) ys e rising = ((above-right x.key xs (e ∷ ys) rising.0).0, rising-below xs ys e rising.1)
