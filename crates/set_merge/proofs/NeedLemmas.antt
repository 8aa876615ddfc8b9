-- How few rows a merge needs, by the number of its entries.
use Rattle.std.proofs.Common.{◌≡◌, ◌≢◌, ℕ, zero, suc, ◌+◌, ◌*◌, ◌<◌, ◌≤◌, List, [], ◌∷◌, length, refl, ap, sym, subst, ◌∙◌, arith, Bool, true, false, cond, Option, Some, None, inl, inr, ◌⊎◌, length-append}
use Rattle.std.specs.Prelude.{nat_eq, option_to_list}
use Rattle.std.specs.List.{flat_map}
use Rattle.std.specs.declared.cmp.Ordering.{Ordering}
use Rattle.std.proofs.lemmas.Bool.{cases_eq}
use Rattle.elem_core.specs.Codes.{digit_at}
use Rattle.node_heap.specs.Links.{count}
use Rattle.node_heap.specs.Forms.{Forms}
use Rattle.champ_chain.specs.Entry.{Entry, entry}
use Rattle.champ_chain.specs.Chain.{AreChainRows}
use Rattle.champ_chain.proofs.SetLemmas.{same-length}
use Rattle.champ_chain.proofs.SpotLemmas.{first-row}
use Rattle.champ_trie.specs.Trie.{IsTrie, IsPlace, part}
use Rattle.champ_trie.specs.Walk.{rows_from, rows_below}
use Rattle.champ_trie.specs.declared.place.Place.{Place}
use Rattle.champ_trie.specs.declared.place.Place.TheVariants.{Empty, Entry as At, Node}
use Rattle.champ_trie.proofs.GatherLemmas.{gather, parts-whole}
use Rattle.set_merge.specs.declared.keeps.Keeps.{Keeps}
use Rattle.set_merge.specs.Side.{place_in, lone_place, place_below, settled}
use Rattle.set_merge.specs.Need.{sum_below, need_unless, run_rows, rows_need}
use Rattle.set_merge.specs.Walk.{HasBelow, position_need}
use Rattle.set_merge.proofs.MergeLemmas.{filter-short}

-- so many times the number and once more
abbrev pub weigh : ℕ → ℕ → ℕ
weigh zero n = n
weigh (suc left) n = weigh left n + n

weigh-plus : (left m n : ℕ) → weigh left (m + n) ≡ weigh left m + weigh left n
weigh-plus zero m n = refl
weigh-plus (suc left) m n = omega (arith, weigh-plus left m n)

weigh-none : (left : ℕ) → weigh left 0 ≡ 0
weigh-none zero = refl
weigh-none (suc left) = omega (arith, weigh-none left)

sum-weigh : (left : ℕ) (f g : ℕ → ℕ) (n : ℕ) → ((p : ℕ) → p < n → f p ≤ weigh left (g p)) → sum_below n f ≤ weigh left (sum_below n g)
unfolding sum_below
sum-weigh left f g zero each = omega (arith, weigh-none left)
sum-weigh left f g (suc n) each = omega (arith, sum-weigh left f g n (λ p low. each p (omega (arith, low))), each n (omega arith), weigh-plus left (sum_below n g) (g n))

sum-plus : (f g : ℕ → ℕ) (n : ℕ) → sum_below n (λ p. f p + g p) ≡ sum_below n f + sum_below n g
unfolding sum_below
sum-plus f g zero = refl
sum-plus f g (suc n) = omega (arith, sum-plus f g n)

-- a sum of which one number alone isn't 0
pub sum-one : (f : ℕ → ℕ) (c m n : ℕ) → ((p : ℕ) → p ≢ c → f p ≡ 0) → f c ≤ m → sum_below n f ≤ m
unfolding sum_below
sum-one f c m zero others here = omega arith
sum-one f c m (suc n) others here = by_case (cases_eq n c) (sum-one f c m n others here)
  where
    sum-none : (i : ℕ) → i ≤ n → n ≡ c → sum_below i f ≡ 0
    sum-none zero low same = refl
    sum-none (suc i) low same = omega (arith, sum-none i (omega (arith, low)) same, others i (λ is. omega (arith, is, same, low)))

    by_case : (n ≡ c) ⊎ (n ≢ c) → sum_below n f ≤ m → sum_below n f + f n ≤ m
    by_case (inl same) rest = omega (arith, sum-none n (omega arith) same, subst (λ i. f i ≤ m) (sym same) here)
    by_case (inr other) rest = omega (arith, others n other, rest)

length-gather : {X : Type 0} (f : ℕ → List X) (n : ℕ) → length (gather f n) ≡ sum_below n (λ p. length (f p))
unfolding sum_below
length-gather f zero = refl
length-gather f (suc n) = omega (arith, length-append (gather f n) (f n), length-gather f n)

module _ {K : Type 0} (cmp : K → K → Ordering) (code : K → ℕ) (F : Forms K) where
  parts-length : (depth : ℕ) (E : List (Entry K)) → sum_below 32 (λ p. length (part cmp code depth p E)) ≡ length E
  parts-length depth E = sym (length-gather (λ p. part cmp code depth p E) 32) ∙ same-length _ _ (parts-whole cmp code depth E)

  -- what stands at a position below a place
  pub below-place : (left depth : ℕ) (a : Place) (E : List (Entry K)) → HasBelow cmp code F (suc left) depth a E → (p : ℕ) → p < 32
      → IsPlace F (λ l P. IsTrie cmp code F left (suc depth) l P) (place_below code F depth a p) (part cmp code depth p E)
  unfolding IsTrie
  below-place left depth Empty E has p low = ap (part cmp code depth p) has
  below-place left depth (At x) E has p low =
      subst (λ o. IsPlace F (λ l P. IsTrie cmp code F left (suc depth) l P) (lone_place code depth x o p) (part cmp code depth p E)) (sym has.2)
      (subst (λ Q. IsPlace F (λ l P. IsTrie cmp code F left (suc depth) l P) (lone_place code depth x (Some has.0) p) (part cmp code depth p Q)) (sym has.1) (by_test (nat_eq (digit_at (code has.0) depth) p)))
    where
      by_test : (b : Bool) → IsPlace F (λ l P. IsTrie cmp code F left (suc depth) l P) (cond b (At x) Empty) (cond b (entry has.0 x ∷ []) [])
      by_test true = (has.0, refl, has.2)
      by_test false = refl
  below-place left depth (Node l) E has p low =
      subst (λ r. IsPlace F (λ l P. IsTrie cmp code F left (suc depth) l P) (place_in r p) (part cmp code depth p E)) (sym has.row.row) (has.places p low)

  pub place-has : (left depth : ℕ) (q : Place) (P : List (Entry K)) → IsPlace F (λ l P. IsTrie cmp code F left depth l P) q P → HasBelow cmp code F left depth q P
  place-has left depth Empty P is = is
  place-has left depth (At x) P is = is
  place-has left depth (Node l) P is = is.1

  module _ (k : Keeps) where
    -- where one has to look further both have something
    pub open-first : (a b : Place) → settled cmp F k a b ≡ None → a ≢ Empty
    open-first Empty b look same = absurd (let bad : Some (cond k.second b Empty) ≡ None = look in cc)
    open-first (At x) b look same = absurd cc
    open-first (Node l) b look same = absurd cc

    open-some : (left depth : ℕ) (a b : Place) (P : List (Entry K)) → settled cmp F k a b ≡ None → IsPlace F (λ l P. IsTrie cmp code F left depth l P) a P → 1 ≤ length P
    open-some left depth Empty b P look is = absurd (open-first Empty b look refl)
    open-some left depth (At x) b P look is = omega (arith, ap length is.1)
    open-some left depth (Node l) b P look is = omega (arith, is.0)

    module _ (most : ℕ) where
      chain-short : (n l : ℕ) (es : List (Entry K)) → AreChainRows F (Some l) es → length (rows_from n F l) ≤ length es
      unfolding rows_from
      chain-short zero l es rows = omega arith
      chain-short (suc n) l es rows =
          let at = first-row F l es rows in
          omega (arith, ap length at.whole, ap (λ r. length (flat_map (rows_from n F) (rows_below r))) at.row, by_next at.next at.others at.rows (λ j are. chain-short n j at.others are))
        where
          by_next : (next : Option ℕ) (ds : List (Entry K)) → AreChainRows F next ds → ((j : ℕ) → AreChainRows F (Some j) ds → length (rows_from n F j) ≤ length ds) → length (flat_map (rows_from n F) (option_to_list next)) ≤ length ds
          by_next None ds are again = omega arith
          by_next (Some j) ds are again = omega (arith, length-append (rows_from n F j) [], again j are)

      pub run-short : (depth : ℕ) (a : Place) (E : List (Entry K)) → HasBelow cmp code F zero depth a E → length (run_rows most F a) ≤ length E
      unfolding IsTrie
      run-short depth Empty E has = omega arith
      run-short depth (At x) E has = omega (arith, ap length has.1)
      run-short depth (Node l) E has = omega (arith, chain-short most l has.entries has.rows, same-length _ _ has.same)

      abbrev need : ℕ → ℕ → Place → Place → ℕ
      need left depth a b = rows_need cmp code most F k left depth a b

      by_answer : (left depth : ℕ) (a b : Place) (E D : List (Entry K)) → IsPlace F (λ l P. IsTrie cmp code F left (suc depth) l P) a E → IsPlace F (λ l P. IsTrie cmp code F left (suc depth) l P) b D
          → (settled cmp F k a b ≡ None → rows_need cmp code most F k left (suc depth) a b ≤ weigh left (length E + length D)) → (o : Option Place) → settled cmp F k a b ≡ o
          → need_unless (settled cmp F k a b) (λ _. rows_need cmp code most F k left (suc depth) a b) ≤ weigh left (length E + length D)
      by_answer left depth a b E D one two look (Some q) is = omega (arith, ap (λ o. need_unless o (λ _. rows_need cmp code most F k left (suc depth) a b)) is)
      by_answer left depth a b E D one two look None is = omega (arith, ap (λ o. need_unless o (λ _. rows_need cmp code most F k left (suc depth) a b)) is, look is)

      -- the positions of two places
      positions-few : (left depth : ℕ) (a b : Place) (E D : List (Entry K)) → HasBelow cmp code F (suc left) depth a E → HasBelow cmp code F (suc left) depth b D
          → ((p : ℕ) → p < 32 → IsPlace F (λ l P. IsTrie cmp code F left (suc depth) l P) (place_below code F depth a p) (part cmp code depth p E)
          → IsPlace F (λ l P. IsTrie cmp code F left (suc depth) l P) (place_below code F depth b p) (part cmp code depth p D)
          → settled cmp F k (place_below code F depth a p) (place_below code F depth b p) ≡ None
          → rows_need cmp code most F k left (suc depth) (place_below code F depth a p) (place_below code F depth b p) ≤ weigh left (length (part cmp code depth p E) + length (part cmp code depth p D)))
          → sum_below 32 (position_need cmp code most F k left depth a b) ≤ weigh left (length E + length D)
      positions-few left depth a b E D first second below =
          let each : (p : ℕ) → p < 32 → position_need cmp code most F k left depth a b p ≤ weigh left (length (part cmp code depth p E) + length (part cmp code depth p D)) =
          λ p low.
          let one = below-place left depth a E first p low in
          let two = below-place left depth b D second p low in
          by_answer left depth (place_below code F depth a p) (place_below code F depth b p) (part cmp code depth p E) (part cmp code depth p D) one two (below p low one two) (settled cmp F k (place_below code F depth a p) (place_below code F depth b p)) refl in
          omega (
            arith,
            sum-weigh left (position_need cmp code most F k left depth a b) (λ p. length (part cmp code depth p E) + length (part cmp code depth p D)) 32 each,
            ap (weigh left) (sum-plus (λ p. length (part cmp code depth p E)) (λ p. length (part cmp code depth p D)) 32),
            ap (λ n. weigh left (n + sum_below 32 (λ p. length (part cmp code depth p D)))) (parts-length depth E),
            ap (λ n. weigh left (length E + n)) (parts-length depth D),
          )

      pub rows-few : (left depth : ℕ) (a b : Place) (E D : List (Entry K)) → HasBelow cmp code F left depth a E → HasBelow cmp code F left depth b D → 1 ≤ length E + length D
          → rows_need cmp code most F k left depth a b ≤ weigh left (length E + length D)
      unfolding rows_need
      rows-few zero depth a b E D first second some =
          omega (arith, run-short depth a E first, run-short depth b D second, filter-short (λ l. nat_eq (count l (run_rows most F b)) 0) (run_rows most F a), filter-short (λ l. nat_eq (count l (run_rows most F a)) 0) (run_rows most F b))
      rows-few (suc left) depth a b E D first second some =
          omega (
            arith,
            some,
            positions-few left depth a b E D first second
                (λ p low one two look. rows-few left (suc depth) (place_below code F depth a p) (place_below code F depth b p) (part cmp code depth p E) (part cmp code depth p D) (place-has left (suc depth) _ _ one) (place-has left (suc depth) _ _ two)
                (omega (arith, open-some left (suc depth) (place_below code F depth a p) (place_below code F depth b p) (part cmp code depth p E) look one))),
          )

      -- two roots, which may have no entries
      pub root-few : (left depth : ℕ) (a b : Place) (E D : List (Entry K)) → HasBelow cmp code F (suc left) depth a E → HasBelow cmp code F (suc left) depth b D
          → rows_need cmp code most F k (suc left) depth a b ≤ 1 + weigh left (length E + length D)
      unfolding rows_need
      root-few left depth a b E D first second =
          omega (
            arith,
            positions-few left depth a b E D first second
                (λ p low one two look. rows-few left (suc depth) (place_below code F depth a p) (place_below code F depth b p) (part cmp code depth p E) (part cmp code depth p D) (place-has left (suc depth) _ _ one) (place-has left (suc depth) _ _ two)
                (omega (arith, open-some left (suc depth) (place_below code F depth a p) (place_below code F depth b p) (part cmp code depth p E) look one))),
          )

-- thirteen times the number
pub weigh-twelve : (n : ℕ) → weigh 12 n ≡ 13 * n
weigh-twelve n = omega arith
