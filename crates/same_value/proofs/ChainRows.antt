-- The rows of two chains that are passed side by side.
use Rattle.std.proofs.Common.{◌≡◌, ◌≢◌, ℕ, zero, suc, ◌+◌, ◌*◌, ◌<◌, ◌≤◌, List, [], ◌∷◌, length, drop, get_or, refl, ap, sym, subst, ◌∙◌, arith, Option, Some, None, inl, inr, ◌⊎◌}
use Rattle.std.specs.Prelude.{option_to_list}
use Rattle.std.specs.Cmp.{IsTotalOrder, tied_itself}
use Rattle.std.specs.declared.cmp.Ordering.{Ordering}
use Rattle.std.specs.declared.cmp.Ordering.TheVariants.{Less, Equal, Greater}
use Rattle.std.proofs.lemmas.Bool.{cases_eq}
use Rattle.node_heap.specs.Links.{count, Reaches, here, below}
use Rattle.node_heap.specs.Forms.{Forms, node, chain}
use Rattle.node_heap.proofs.BuildLemmas.{count-cons}
use Rattle.node_heap.proofs.Reach.{Reaches-then}
use Rattle.champ_chain.specs.Entry.{Entry, key_at}
use Rattle.champ_chain.specs.Chain.{AreChainRows, AreAbove, IsRising}
use Rattle.champ_chain.proofs.CopyLemmas.{one_at-same, one_at-other}
use Rattle.champ_chain.proofs.RisingLemmas.{greater_flip}
use Rattle.champ_chain.proofs.SpotLemmas.{FirstRow, first-row, row-entry, row-next, same-key}
use Rattle.champ_trie.specs.Walk.{rows_below, row_links, ReachesRow}
use Rattle.champ_trie.proofs.BelowLemmas.{one-counted}
use Rattle.same_value.specs.Apart.{IsApart, Spends}

module _ {K : Type 0} (F : Forms K) where
  -- the row so many rows further
  pub row_after : ℕ → ℕ → ℕ
  row_after zero l = l
  row_after (suc n) l = row_after n (get_or (rows_below (F l)) 0 0)

  next-below : (l x k : ℕ) → F l ≡ Some (node chain (x ∷ option_to_list (Some k))) → get_or (rows_below (F l)) 0 0 ≡ k
  next-below l x k row = ap (λ r. get_or (rows_below r) 0 0) row

  -- the row after the next one
  after-more : (n l k x m : ℕ) → row_after n l ≡ k → F k ≡ Some (node chain (x ∷ m ∷ [])) → row_after (suc n) l ≡ m
  unfolding row_after
  after-more zero l k x m at row = ap (λ j. get_or (rows_below (F j)) 0 0) at ∙ next-below k x m row
  after-more (suc n) l k x m at row = after-more n (get_or (rows_below (F l)) 0 0) k x m at row

  -- a row that a chain reaches is so many rows further
  chain-reach : (l k : ℕ) (es : List (Entry K)) → Reaches (row_links F) l k → AreChainRows F (Some l) es → (n : ℕ) × (row_after n l ≡ k) × AreChainRows F (Some k) (drop n es)
  unfolding row_after
  chain-reach _ _ es (here l) rows = (0, refl, rows)
  chain-reach _ _ es (below l j k has rest) rows =
      let at = first-row F l es rows in
      let is : 0 < count j (option_to_list at.next) = subst (λ r. 0 < count j (rows_below r)) at.row has in
      let next : at.next ≡ Some j = only at.next is in
      let row : F l ≡ Some (node chain (at.first.link ∷ option_to_list (Some j))) = at.row ∙ ap (λ n. Some (node chain (at.first.link ∷ option_to_list n))) next in
      let again = chain-reach j k at.others rest (subst (λ n. AreChainRows F n at.others) next at.rows) in (
        suc again.0,
        ap (row_after again.0) (next-below l at.first.link j row) ∙ again.1,
        subst (λ xs. AreChainRows F (Some k) (drop (suc again.0) xs)) (sym at.whole) again.2,
      )
    where
      only : (next : Option ℕ) → 0 < count j (option_to_list next) → next ≡ Some j
      only None is = absurd (omega (arith, is))
      only (Some i) is = ap Some (one-counted j i is)

module _ {K : Type 0} (cmp : K → K → Ordering) (o : IsTotalOrder cmp) where
  above-drop : (k : K) (es : List (Entry K)) (n : ℕ) (d : Entry K) (ds : List (Entry K)) → AreAbove cmp k es → drop n es ≡ d ∷ ds → cmp k d.key ≡ Less
  above-drop k [] zero d ds above is = absurd cc
  above-drop k [] (suc n) d ds above is = absurd cc
  above-drop k (e ∷ es) zero d ds above is = let same : e ≡ d = cc in subst (λ (x : Entry K). cmp k x.key ≡ Less) same above.0
  above-drop k (e ∷ es) (suc n) d ds above is = above-drop k es n d ds above.1 is

  -- equal keys stand at one place of a rising list
  rising-once : (es : List (Entry K)) (i j : ℕ) (e d : Entry K) (us vs : List (Entry K)) → IsRising cmp es → drop i es ≡ e ∷ us → drop j es ≡ d ∷ vs → cmp e.key d.key ≡ Equal → i ≡ j
  rising-once [] zero j e d us vs rising first second equal = absurd cc
  rising-once [] (suc i) j e d us vs rising first second equal = absurd cc
  rising-once (x ∷ xs) zero zero e d us vs rising first second equal = refl
  rising-once (x ∷ xs) zero (suc j) e d us vs rising first second equal =
      let less = above-drop x.key xs j d vs rising.0 second in
      let same : x ≡ e = cc in
      let less' : cmp e.key d.key ≡ Less = subst (λ (y : Entry K). cmp y.key d.key ≡ Less) same less in
      absurd (let bad : Less ≡ Equal = sym less' ∙ equal in cc)
  rising-once (x ∷ xs) (suc i) zero e d us vs rising first second equal =
      let less = above-drop x.key xs i e us rising.0 first in
      let same : x ≡ d = cc in
      let less' : cmp d.key e.key ≡ Less = subst (λ (y : Entry K). cmp y.key e.key ≡ Less) same less in
      absurd (let bad : Greater ≡ Equal = sym (greater_flip cmp o d.key e.key less') ∙ equal in cc)
  rising-once (x ∷ xs) (suc i) (suc j) e d us vs rising first second equal = ap suc (rising-once xs i j e d us vs rising.1 first second equal)

  module _ (F : Forms K) (l m : ℕ) (es ds : List (Entry K)) where
    -- so many rows of each chain are passed, with equal keys and different links, and these two are next
    pub record Passed (left right : ℕ) : Type 0 where
      pub passed : ℕ
      pub right_at : row_after F passed m ≡ right
      pub left_rows : AreChainRows F (Some left) (drop passed es)
      pub right_rows : AreChainRows F (Some right) (drop passed ds)
      pub down : ReachesRow F l left
      pub rows : List ℕ
      pub once : (k : ℕ) → count k rows ≤ 1
      pub apart : (k : ℕ) → 0 < count k rows → IsApart F l m k
      pub earlier : (k : ℕ) → 0 < count k rows → (j : ℕ) × (j < passed) × AreChainRows F (Some k) (drop j es)

    pub passed-none : AreChainRows F (Some l) es → AreChainRows F (Some m) ds → Passed l m
    unfolding row_after
    passed-none first second = record {
      passed = 0;
      right_at = refl;
      left_rows = first;
      right_rows = second;
      down = here l;
      rows = [];
      once = λ k. omega arith;
      apart = λ k some. absurd (omega (arith, some));
      earlier = λ k some. absurd (omega (arith, some));
    }

    module _ (first : AreChainRows F (Some l) es) (second : AreChainRows F (Some m) ds) (rising : IsRising cmp es) (rising' : IsRising cmp ds) (left right : ℕ) (p : Passed left right) where
      at : FirstRow F left (drop p.passed es)
      at = first-row F left (drop p.passed es) p.left_rows

      at' : FirstRow F right (drop p.passed ds)
      at' = first-row F right (drop p.passed ds) p.right_rows

      -- a row that stands at two places of chains has one key
      one-key : (k i j : ℕ) (us vs : List (Entry K)) → (a : FirstRow F k (drop i us)) → (b : FirstRow F k (drop j vs)) → a.first.key ≡ b.first.key
      one-key k i j us vs a b = same-key F a.first.link b.first.link a.first.key b.first.key (row-entry F k a.first.link b.first.link a.next b.next a.row b.row) a.key b.key

      module _ (x y : ℕ) (next next' : Option ℕ) (row : F left ≡ Some (node chain (x ∷ option_to_list next))) (row' : F right ≡ Some (node chain (y ∷ option_to_list next')))
          (keys : (j k : K) → key_at F x ≡ Some j → key_at F y ≡ Some k → cmp j k ≡ Equal) (other : left ≢ right) where
        equal : cmp at.first.key at'.first.key ≡ Equal
        equal =
            keys at.first.key at'.first.key (subst (λ z. key_at F z ≡ Some at.first.key) (row-entry F left at.first.link x at.next next at.row row) at.key)
            (subst (λ z. key_at F z ≡ Some at'.first.key) (row-entry F right at'.first.link y at'.next next' at'.row row') at'.key)

        -- the second chain doesn't reach the row of the first
        unreached : ¬ ReachesRow F m left
        unreached down =
            let found = chain-reach F m left ds down second in
            let b = first-row F left (drop found.0 ds) found.2 in
            let same : at.first.key ≡ b.first.key = one-key left p.passed found.0 es ds at b in
            let place : found.0 ≡ p.passed = rising-once ds found.0 p.passed b.first at'.first b.others at'.others rising' b.whole at'.whole (subst (λ k. cmp k at'.first.key ≡ Equal) same equal) in
            other (sym found.1 ∙ ap (λ n. row_after F n m) place ∙ p.right_at)

        -- it is none of the rows before it
        fresh : count left p.rows ≡ 0
        fresh = by_count (count left p.rows) refl
          where
            by_count : (n : ℕ) → count left p.rows ≡ n → n ≡ 0
            by_count zero is = refl
            by_count (suc n) is =
                let found = p.earlier left (omega (arith, is)) in
                let b = first-row F left (drop found.0 es) found.2 in
                let same : at.first.key ≡ b.first.key = one-key left p.passed found.0 es es at b in
                let place : found.0 ≡ p.passed = rising-once es found.0 p.passed b.first at.first b.others at.others rising b.whole at.whole (subst (λ k. cmp k at.first.key ≡ Equal) same (tied_itself o at.first.key)) in
                absurd (omega (arith, found.1, place))

        pub once-more : (k : ℕ) → count k (left ∷ p.rows) ≤ 1
        once-more k = by_case (cases_eq left k)
          where
            by_case : (left ≡ k) ⊎ (left ≢ k) → count k (left ∷ p.rows) ≤ 1
            by_case (inl same) = subst (λ j. count j (left ∷ p.rows) ≤ 1) same (omega (arith, count-cons left left p.rows, one_at-same left, fresh))
            by_case (inr differs) = omega (arith, count-cons k left p.rows, one_at-other left k differs, p.once k)

        -- what holds of it and of the rows before it
        either : (P : ℕ → Type 0) → P left → ((k : ℕ) → 0 < count k p.rows → P k) → (k : ℕ) → 0 < count k (left ∷ p.rows) → P k
        either P this others k some = by_case (cases_eq left k)
          where
            by_case : (left ≡ k) ⊎ (left ≢ k) → P k
            by_case (inl same) = subst P same this
            by_case (inr differs) = others k (omega (arith, some, count-cons k left p.rows, one_at-other left k differs))

        pub apart-more : (k : ℕ) → 0 < count k (left ∷ p.rows) → IsApart F l m k
        apart-more = either (IsApart F l m) (p.down, unreached) p.apart

        -- both go on
        pub passed-more : (j k : ℕ) → next ≡ Some j → next' ≡ Some k → (q : Passed j k) × (q.rows ≡ left ∷ p.rows)
        unfolding row_after
        passed-more j k is is' =
            let on : F left ≡ Some (node chain (x ∷ j ∷ [])) = row ∙ ap (λ n. Some (node chain (x ∷ option_to_list n))) is in
            let on' : F right ≡ Some (node chain (y ∷ k ∷ [])) = row' ∙ ap (λ n. Some (node chain (y ∷ option_to_list n))) is' in (
              record {
                passed = suc p.passed;
                right_at = after-more F p.passed m right y k p.right_at on';
                left_rows = goes-on left x next j es p.passed at row is;
                right_rows = goes-on right y next' k ds p.passed at' row' is';
                down = Reaches-then (row_links F) l left j p.down (subst (λ r. 0 < count j (rows_below r)) (sym on) (omega (arith, count-cons j j [], one_at-same j)));
                rows = left ∷ p.rows;
                once = once-more;
                apart = apart-more;
                earlier = either (λ i. (n : ℕ) × (n < suc p.passed) × AreChainRows F (Some i) (drop n es)) (p.passed, omega arith, p.left_rows) (λ i some. let found = p.earlier i some in (found.0, omega (arith, found.1), found.2));
              },
              refl,
            )
          where
            goes-on : (k x : ℕ) (next : Option ℕ) (j : ℕ) (us : List (Entry K)) (n : ℕ) → (a : FirstRow F k (drop n us)) → F k ≡ Some (node chain (x ∷ option_to_list next)) → next ≡ Some j → AreChainRows F (Some j) (drop (suc n) us)
            goes-on k x next j us n a row is =
                let there : AreChainRows F (Some j) a.others = subst (λ o. AreChainRows F o a.others) (row-next F k a.first.link x a.next next a.row row ∙ is) a.rows in
                subst (AreChainRows F (Some j)) (drop-one n us a.first a.others a.whole) there
              where
                drop-one : (n : ℕ) (us : List (Entry K)) (e : Entry K) (vs : List (Entry K)) → drop n us ≡ e ∷ vs → vs ≡ drop (suc n) us
                drop-one zero [] e vs is = absurd cc
                drop-one zero (u ∷ us) e vs is = (let same : us ≡ vs = cc in sym same)
                drop-one (suc n) [] e vs is = absurd cc
                drop-one (suc n) (u ∷ us) e vs is = drop-one n us e vs is

module _ {K : Type 0} {cmp : K → K → Ordering} {o : IsTotalOrder cmp} {F : Forms K} {l m : ℕ} {es ds : List (Entry K)} {left right : ℕ} (p : Passed cmp o F l m es ds left right) where
  -- the steps for the rows that are passed, and some besides
  pub passed-spends : (old now new spare : ℕ) → now ≤ old + 204 * length p.rows → new ≤ now + spare → Spends F l m old new spare
  passed-spends old now new spare few besides = record { rows = p.rows; once = p.once; apart = p.apart; few = omega (arith, few, besides) }
