-- What the place of a key says of a chain's entries.
use Rattle.std.proofs.Common.{◌≡◌, ℕ, ◌+◌, ◌<◌, ◌≤◌, Bool, true, false, not, cond, List, [], ◌∷◌, ◌++◌, length, refl, ap, sym, subst, ◌∙◌, arith, Option, Some, None, is_some, option_map, length-append, take}
use Rattle.std.specs.Prelude.{option_to_list, count_by, IfSome}
use Rattle.std.specs.List.{filter, find}
use Rattle.std.specs.Int.{from_bool}
use Rattle.std.specs.Cmp.{IsTotalOrder}
use Rattle.std.specs.Ordering.{is_eq}
use Rattle.std.specs.declared.cmp.Ordering.{Ordering}
use Rattle.std.specs.declared.cmp.Ordering.TheVariants.{Less, Equal}
use Rattle.node_heap.specs.Forms.{Forms}
use Rattle.champ_chain.specs.Entry.{Entry, SameSet, has_key, others, put, link_with, same_through, same_turned, entry}
use Rattle.champ_chain.specs.Chain.{IsRising, AreChainRows, IsChain, IsEntryOrRows, IsEntryOrChain}
use Rattle.champ_chain.specs.KeySpot.{Parts, IsKeySpot}
use Rattle.champ_chain.specs.declared.spot.KeySpot.{KeySpot}
use Rattle.champ_chain.proofs.SetLemmas.{same-length, same-middle, same-filter, same-find, same-one, count-cons, same-refl}
use Rattle.champ_chain.proofs.RisingLemmas.{none-below, none-above, find-none, others-below, others-above, rising-left, rising-right, rising-both, rising-distinct, above-less, same-put}
use Rattle.champ_chain.proofs.CopyLemmas.{take-front}

module _ {X : Type 0} where
  pub filter-append : (p : X → Bool) (xs ys : List X) → filter p (xs ++ ys) ≡ filter p xs ++ filter p ys
  filter-append p [] ys = refl
  filter-append p (x ∷ xs) ys = by_test (p x) (filter-append p xs ys)
    where
      by_test : (b : Bool) → filter p (xs ++ ys) ≡ filter p xs ++ filter p ys → cond b (x ∷ filter p (xs ++ ys)) (filter p (xs ++ ys)) ≡ cond b (x ∷ filter p xs) (filter p xs) ++ filter p ys
      by_test true e = ap (λ zs. x ∷ zs) e
      by_test false e = e

  pub find-after : (p : X → Bool) (xs ys : List X) → count_by p xs ≡ 0 → find p (xs ++ ys) ≡ find p ys
  find-after p [] ys none = refl
  find-after p (x ∷ xs) ys none = by_test (p x) refl (find-after p xs ys)
    where
      by_test : (b : Bool) → p x ≡ b → (count_by p xs ≡ 0 → find p (xs ++ ys) ≡ find p ys) → cond b (Some x) (find p (xs ++ ys)) ≡ find p ys
      by_test true e rest = absurd (let one : Bool → ℕ = λ c. cond c 1 0 in omega (arith, none, count-cons p x xs, ap one e))
      by_test false e rest = rest (omega (arith, none, count-cons p x xs))

module _ {K : Type 0} (cmp : K → K → Ordering) (o : IsTotalOrder cmp) where
  module _ (key : K) (es : List (Entry K)) (p : Parts cmp key es) where
    pub find-parts : find (has_key cmp key) es ≡ p.equal
    find-parts =
        ap (find (has_key cmp key)) p.in_order ∙ find-after (has_key cmp key) p.smaller _ (none-below cmp o key p.smaller p.are_smaller) ∙ by_equal p.equal p.is_equal
      where
        by_equal : (e : Option (Entry K)) → IfSome e (λ d. cmp key d.key ≡ Equal) → find (has_key cmp key) (option_to_list e ++ p.greater) ≡ e
        by_equal None is = find-none cmp o key p.greater (none-above cmp o key p.greater p.are_greater)
        by_equal (Some d) is = ap (λ r. cond (is_eq r) (Some d) (find (has_key cmp key) p.greater)) is

    pub others-parts : others cmp key es ≡ p.smaller ++ p.greater
    others-parts =
        let test : Entry K → Bool = λ d. not (has_key cmp key d) in
        ap (filter test) p.in_order
        ∙ filter-append test p.smaller (option_to_list p.equal ++ p.greater)
        ∙ ap (λ xs. xs ++ filter test (option_to_list p.equal ++ p.greater)) (others-below cmp o key p.smaller p.are_smaller)
        ∙ ap (λ ys. p.smaller ++ ys) (by_equal p.equal p.is_equal ∙ others-above cmp o key p.greater p.are_greater)
      where
        by_equal : (e : Option (Entry K)) → IfSome e (λ d. cmp key d.key ≡ Equal) → others cmp key (option_to_list e ++ p.greater) ≡ others cmp key p.greater
        by_equal None is = refl
        by_equal (Some d) is = ap (λ r. cond (not (is_eq r)) (d ∷ others cmp key p.greater) (others cmp key p.greater)) is

    pub length-parts : length es ≡ length p.smaller + (length (option_to_list p.equal) + length p.greater)
    length-parts = ap length p.in_order ∙ length-append p.smaller (option_to_list p.equal ++ p.greater) ∙ ap (λ n. length p.smaller + n) (length-append (option_to_list p.equal) p.greater)

    pub take-parts : take (length p.smaller) es ≡ p.smaller
    take-parts = ap (take (length p.smaller)) p.in_order ∙ take-front p.smaller (option_to_list p.equal ++ p.greater)

    rising-smaller : IsRising cmp es → IsRising cmp p.smaller
    rising-smaller r = rising-left cmp o p.smaller (option_to_list p.equal ++ p.greater) (subst (IsRising cmp) p.in_order r)

    rising-greater : IsRising cmp es → IsRising cmp p.greater
    rising-greater r = rising-right cmp o (option_to_list p.equal) p.greater (rising-right cmp o p.smaller (option_to_list p.equal ++ p.greater) (subst (IsRising cmp) p.in_order r))

    pub rising-without : IsRising cmp es → IsRising cmp (p.smaller ++ p.greater)
    rising-without r = rising-both cmp o key p.smaller p.greater (rising-smaller r) p.are_smaller (rising-greater r) (λ x lt. above-less cmp o x key lt p.greater p.are_greater)

    pub rising-with : (l : ℕ) → IsRising cmp es → IsRising cmp (p.smaller ++ entry key l ∷ p.greater)
    rising-with l r =
        rising-both cmp o key p.smaller (entry key l ∷ p.greater) (rising-smaller r) p.are_smaller (p.are_greater, rising-greater r)
        (λ x lt. (lt, above-less cmp o x key lt p.greater p.are_greater))

    pub one-equal : length (option_to_list p.equal) ≤ 1
    one-equal = by_equal p.equal
      where
        by_equal : (e : Option (Entry K)) → length (option_to_list e) ≤ 1
        by_equal None = omega arith
        by_equal (Some d) = omega arith

  -- a look-up in a chain
  pub find-chain : (F : Forms K) (l : ℕ) (E : List (Entry K)) (key : K) (c : IsChain cmp F l E) → Parts cmp key c.entries → find (has_key cmp key) c.entries ≡ find (has_key cmp key) E
  find-chain F l E key c p = same-find (has_key cmp key) c.entries E c.same ((rising-distinct cmp o c.entries c.rising).once key)

  pub found-chain : (F : Forms K) (l : ℕ) (E : List (Entry K)) (key : K) (c : IsChain cmp F l E) (spot : KeySpot) → IsKeySpot cmp F c.entries key spot → spot.found ≡ link_with cmp key E
  found-chain F l E key c spot s = sym s.found ∙ ap (option_map (λ (e : Entry K). e.link)) (sym (find-parts key c.entries s.parts) ∙ find-chain F l E key c s.parts)

  -- the chain with an entry
  pub chain-with : (F G : Forms K) (l m x : ℕ) (E : List (Entry K)) (key : K) (c : IsChain cmp F l E) (p : Parts cmp key c.entries)
      → AreChainRows G (Some m) (p.smaller ++ entry key x ∷ p.greater) → IsChain cmp G m (put cmp E (entry key x))
  chain-with F G l m x E key c p rows =
      let same : SameSet (p.smaller ++ entry key x ∷ p.greater) (put cmp c.entries (entry key x)) =
      subst (λ ys. SameSet (p.smaller ++ entry key x ∷ p.greater) (entry key x ∷ ys)) (sym (others-parts key c.entries p)) (same-middle (entry key x) p.smaller p.greater) in
      let whole : SameSet (p.smaller ++ entry key x ∷ p.greater) (put cmp E (entry key x)) = same_through _ _ _ same (same-put cmp o c.entries E (entry key x) c.same) in
      record {
        entries = p.smaller ++ entry key x ∷ p.greater;
        rows = rows;
        rising = rising-with key c.entries p x c.rising;
        same = whole;
        two = omega (arith, same-length _ _ whole, length-append p.smaller (entry key x ∷ p.greater), length-parts key c.entries p, one-equal key c.entries p, same-length _ _ c.same, c.two);
      }

  pub entry-or-chain : (F : Forms K) (l : ℕ) (xs ys : List (Entry K)) → SameSet xs ys → IsRising cmp xs → IsEntryOrRows F l xs → IsEntryOrChain cmp F l ys
  entry-or-chain F l [] ys same rising is = absurd is
  entry-or-chain F l (x ∷ []) ys same rising is = subst (IsEntryOrChain cmp F l) (sym (same-one x ys same)) is
  entry-or-chain F l (x ∷ y ∷ zs) [] same rising is = absurd (omega (arith, same-length _ _ same))
  entry-or-chain F l (x ∷ y ∷ zs) (a ∷ []) same rising is = absurd (omega (arith, same-length _ _ same))
  entry-or-chain F l (x ∷ y ∷ zs) (a ∷ b ∷ cs) same rising is = record { entries = x ∷ y ∷ zs; rows = is; rising = rising; same = same; two = omega arith }

  -- the chain without the key
  pub chain-without : (F G : Forms K) (l m : ℕ) (E : List (Entry K)) (key : K) (c : IsChain cmp F l E) (p : Parts cmp key c.entries)
      → IsEntryOrRows G m (p.smaller ++ p.greater) → IsEntryOrChain cmp G m (others cmp key E)
  chain-without F G l m E key c p is =
      let same : SameSet (p.smaller ++ p.greater) (others cmp key E) =
      subst (λ ys. SameSet ys (others cmp key E)) (others-parts key c.entries p) (same-filter (λ d. not (has_key cmp key d)) c.entries E c.same) in
      entry-or-chain G m (p.smaller ++ p.greater) (others cmp key E) same (rising-without key c.entries p c.rising) is

  -- so many entries come before the place of a key
  pub before-le : (F : Forms K) (es : List (Entry K)) (key : K) (spot : KeySpot) → IsKeySpot cmp F es key spot → spot.before ≤ length es
  before-le F es key spot s = omega (arith, length-parts key es s.parts, s.before)

  -- the entries before the place, the key's own one, and those after it are all
  pub whole-length : (F : Forms K) (es : List (Entry K)) (key : K) (spot : KeySpot) (s : IsKeySpot cmp F es key spot) → spot.before + from_bool (is_some spot.found) + length s.parts.greater ≡ length es
  whole-length F es key spot s = omega (arith, length-parts key es s.parts, s.before, by_found s.parts.equal, ap (λ r. from_bool (is_some r)) s.found)
    where
      by_found : (e : Option (Entry K)) → from_bool (is_some (option_map (λ (d : Entry K). d.link) e)) ≡ length (option_to_list e)
      by_found None = refl
      by_found (Some d) = refl

  pub take-before : (F : Forms K) (es : List (Entry K)) (key : K) (spot : KeySpot) (s : IsKeySpot cmp F es key spot) → take spot.before es ≡ s.parts.smaller
  take-before F es key spot s = ap (λ n. take n es) (sym s.before) ∙ take-parts key es s.parts

  -- where the key is there, it is not the only one
  pub some-left : (F : Forms K) (l : ℕ) (E : List (Entry K)) (key : K) (c : IsChain cmp F l E) (spot : KeySpot) (s : IsKeySpot cmp F c.entries key spot) → 0 < spot.before + length s.parts.greater
  some-left F l E key c spot s = omega (arith, length-parts key c.entries s.parts, one-equal key c.entries s.parts, same-length _ _ c.same, c.two, s.before)

  -- a chain of two entries
  pub chain-of_two : (F : Forms K) (l : ℕ) (e d : Entry K) → cmp e.key d.key ≡ Less → AreChainRows F (Some l) (e ∷ d ∷ []) → IsChain cmp F l (e ∷ d ∷ [])
  chain-of_two F l e d less rows = record { entries = e ∷ d ∷ []; rows = rows; rising = ((less, tt), (tt, tt)); same = same-refl (e ∷ d ∷ []); two = omega arith }

  pub chain-of_turned : (F : Forms K) (l : ℕ) (e d : Entry K) → cmp d.key e.key ≡ Less → AreChainRows F (Some l) (d ∷ e ∷ []) → IsChain cmp F l (e ∷ d ∷ [])
  chain-of_turned F l e d less rows = record { entries = d ∷ e ∷ []; rows = rows; rising = ((less, tt), (tt, tt)); same = same_turned d e []; two = omega arith }
