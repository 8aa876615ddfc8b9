-- Two runs that are passed side by side, up to the first row that both have.
use Rattle.std.proofs.Common.{◌≡◌, ◌≢◌, ℕ, zero, suc, ◌+◌, ◌<◌, ◌≤◌, List, [], ◌∷◌, ◌++◌, length, take, drop, refl, ap, sym, subst, ◌∙◌, arith, Option, Some, None, Bool, true, false, inl, inr, ◌⊎◌, add-one}
use Rattle.std.specs.Prelude.{option_to_list, nat_eq}
use Rattle.std.specs.List.{filter, flat_map}
use Rattle.std.specs.Cmp.{IsTotalOrder}
use Rattle.std.specs.Ordering.{ordering_reverse}
use Rattle.std.specs.declared.cmp.Ordering.{Ordering}
use Rattle.std.specs.declared.cmp.Ordering.TheVariants.{Less, Equal, Greater}
use Rattle.std.proofs.lemmas.Bool.{eq-eqb, ne_eqb}
use Rattle.std.proofs.lemmas.List.{take-append-drop, length-take-le}
use Rattle.std.proofs.lemmas.List.Elements.{filter-append}
use Rattle.node_heap.specs.Links.{count}
use Rattle.node_heap.specs.Forms.{Form, Forms, cell, node, leaf, inner, trie, chain, pair, state}
use Rattle.node_heap.specs.Heap.{Heap, form_at, one_at, IsGraph, row_limit}
use Rattle.node_heap.proofs.BuildLemmas.{count-cons, count-append}
use Rattle.champ_chain.specs.Entry.{Entry, entry, key_at, key_of, first_value}
use Rattle.champ_chain.specs.Chain.{AreChainRows, AreAbove, AreBelow, IsRising}
use Rattle.champ_chain.proofs.FrameLemmas.{rows-live}
use Rattle.champ_chain.proofs.CopyLemmas.{one_at-same, one_at-other, drop-next}
use Rattle.champ_chain.proofs.RisingLemmas.{less_flip, less_irrefl, below-push, above-less, above-same, rising-right}
use Rattle.champ_chain.proofs.SetLemmas.{Among}
use Rattle.champ_chain.proofs.SpotLemmas.{first-row, rows-none, row-next}
use Rattle.champ_trie.specs.Walk.{rows_below, rows_from}
use Rattle.champ_trie.specs.declared.place.Place.{Place}
use Rattle.champ_trie.specs.declared.place.Place.TheVariants.{Empty, Entry as At, Node}
use Rattle.set_merge.specs.declared.merged.Merged.TheVariants.{Old}
use Rattle.set_merge.specs.Need.{run_rows, not_among}
use Rattle.set_merge.specs.Walk.{IsRun, IsRisingRun}
use Rattle.set_merge.specs.Chains.{place_from, waiting, IsRest}
use Rattle.set_merge.proofs.MergeLemmas.{append-none, filter-same, filter-all, filter-none}
use Rattle.set_merge.proofs.RunLemmas.{run-only}

module _ {K : Type 0} (F : Forms K) where
  -- the key of the entry that a link names, or of the first entry of the chain row
  abbrev pub chain_key : List ℕ → Option K
  chain_key [] = None
  chain_key (x ∷ xs) = key_at F x

  abbrev pub row_key : Option (Form K) → Option K
  row_key None = None
  row_key (Some (cell x)) = Some x
  row_key (Some (node leaf links)) = None
  row_key (Some (node (inner _) links)) = None
  row_key (Some (node (trie _ _ _) links)) = None
  row_key (Some (node chain links)) = chain_key links
  row_key (Some (node pair links)) = first_value F links
  row_key (Some (node state links)) = None

  entry-row_key : (f : Option (Form K)) (key : K) → key_of F f ≡ Some key → row_key f ≡ Some key
  entry-row_key None key is = absurd cc
  entry-row_key (Some (cell x)) key is = is
  entry-row_key (Some (node leaf links)) key is = absurd cc
  entry-row_key (Some (node (inner _) links)) key is = absurd cc
  entry-row_key (Some (node (trie _ _ _) links)) key is = absurd cc
  entry-row_key (Some (node chain links)) key is = absurd cc
  entry-row_key (Some (node pair links)) key is = is
  entry-row_key (Some (node state links)) key is = absurd cc

  chain-row_key : (l x : ℕ) (ls : List ℕ) → F l ≡ Some (node chain (x ∷ ls)) → row_key (F l) ≡ key_at F x
  chain-row_key l x ls row = ap row_key row

  -- a chain row is no entry
  no-entry : (l : ℕ) (links : List ℕ) (key : K) → F l ≡ Some (node chain links) → key_at F l ≡ Some key → ⊥
  no-entry l links key row is = let bad : None ≡ Some key = sym (ap (key_of F) row) ∙ is in cc

  -- each row has the key of its entry
  pub AreKeyed : List ℕ → List (Entry K) → Type 0
  AreKeyed [] [] = Unit {0}
  AreKeyed [] (e ∷ es) = ⊥
  AreKeyed (l ∷ ls) [] = ⊥
  AreKeyed (l ∷ ls) (e ∷ es) = (row_key (F l) ≡ Some e.key) × AreKeyed ls es

  pub keyed-length : (ls : List ℕ) (es : List (Entry K)) → AreKeyed ls es → length ls ≡ length es
  unfolding AreKeyed
  keyed-length [] [] are = refl
  keyed-length [] (e ∷ es) are = absurd are
  keyed-length (l ∷ ls) [] are = absurd are
  keyed-length (l ∷ ls) (e ∷ es) are = ap suc (keyed-length ls es are.1)

  keyed-take : (n : ℕ) (ls : List ℕ) (es : List (Entry K)) → AreKeyed ls es → AreKeyed (take n ls) (take n es)
  unfolding AreKeyed
  keyed-take zero ls es are = tt
  keyed-take (suc n) [] [] are = tt
  keyed-take (suc n) [] (e ∷ es) are = absurd are
  keyed-take (suc n) (l ∷ ls) [] are = absurd are
  keyed-take (suc n) (l ∷ ls) (e ∷ es) are = (are.0, keyed-take n ls es are.1)

  keyed-drop : (n : ℕ) (ls : List ℕ) (es : List (Entry K)) → AreKeyed ls es → AreKeyed (drop n ls) (drop n es)
  unfolding AreKeyed
  keyed-drop zero ls es are = are
  keyed-drop (suc n) [] [] are = tt
  keyed-drop (suc n) [] (e ∷ es) are = absurd are
  keyed-drop (suc n) (l ∷ ls) [] are = absurd are
  keyed-drop (suc n) (l ∷ ls) (e ∷ es) are = keyed-drop n ls es are.1

  -- the rows of a chain, whatever more they may be
  rows-keyed : (n l : ℕ) (es : List (Entry K)) → AreChainRows F (Some l) es → length es ≤ n → AreKeyed (rows_from n F l) es
  unfolding rows_from AreKeyed
  rows-keyed zero l es rows few = (let at = first-row F l es rows in absurd (omega (arith, few, ap length at.whole)))
  rows-keyed (suc n) l es rows few =
      let at = first-row F l es rows in
      let size : List (Entry K) → ℕ = length in
      let rest : AreKeyed (flat_map (rows_from n F) (rows_below (F l))) at.others =
      subst (λ r. AreKeyed (flat_map (rows_from n F) (rows_below r)) at.others) (sym at.row) (by_next at.next at.others at.rows (λ k are. rows-keyed n k at.others are (omega (arith, few, ap size at.whole)))) in
      subst (AreKeyed (l ∷ flat_map (rows_from n F) (rows_below (F l)))) (sym at.whole) (chain-row_key l at.first.link (option_to_list at.next) at.row ∙ at.key, rest)
    where
      by_next : (next : Option ℕ) (us : List (Entry K)) → AreChainRows F next us → ((k : ℕ) → AreChainRows F (Some k) us → AreKeyed (rows_from n F k) us) → AreKeyed (flat_map (rows_from n F) (option_to_list next)) us
      by_next None us are again = subst (AreKeyed []) (sym (rows-none F us are)) tt
      by_next (Some k) us are again = subst (λ ls. AreKeyed ls us) (sym (append-none (rows_from n F k))) (again k are)

  pub run-keyed : (n : ℕ) (place : Place) (es : List (Entry K)) → IsRun F place es → length es ≤ n → AreKeyed (run_rows n F place) es
  unfolding AreKeyed
  run-keyed n Empty es is few = subst (AreKeyed []) (sym is) tt
  run-keyed n (At x) es is few = subst (AreKeyed (x ∷ [])) (sym is.1) (entry-row_key (F x) is.0 is.2, tt)
  run-keyed n (Node l) es is few = rows-keyed n l es is few

  -- so many rows suffice
  rows-enough : (n m l : ℕ) (es : List (Entry K)) → AreChainRows F (Some l) es → length es ≤ n → length es ≤ m → rows_from n F l ≡ rows_from m F l
  unfolding rows_from
  rows-enough zero m l es rows few few' = (let at = first-row F l es rows in absurd (omega (arith, few, ap length at.whole)))
  rows-enough (suc n) zero l es rows few few' = (let at = first-row F l es rows in absurd (omega (arith, few', ap length at.whole)))
  rows-enough (suc n) (suc m) l es rows few few' =
      let at = first-row F l es rows in
      let size : List (Entry K) → ℕ = length in
      ap (λ ks. l ∷ ks)
      (subst (λ r. flat_map (rows_from n F) (rows_below r) ≡ flat_map (rows_from m F) (rows_below r)) (sym at.row)
      (by_next at.others at.next at.rows (λ k are. rows-enough n m k at.others are (omega (arith, few, ap size at.whole)) (omega (arith, few', ap size at.whole)))))
    where
      by_next : (us : List (Entry K)) (next : Option ℕ) → AreChainRows F next us → ((k : ℕ) → AreChainRows F (Some k) us → rows_from n F k ≡ rows_from m F k) → flat_map (rows_from n F) (option_to_list next) ≡ flat_map (rows_from m F) (option_to_list next)
      by_next us None are again = refl
      by_next us (Some k) are again = ap (λ ks. ks ++ []) (again k are)

  -- the first row of a run
  abbrev pub row_of : Place → ℕ
  row_of Empty = 0
  row_of (At x) = x
  row_of (Node l) = l

  step-next : (n : ℕ) (next : Option ℕ) (vs : List (Entry K)) → AreChainRows F next vs → length vs ≤ n → flat_map (rows_from n F) (option_to_list next) ≡ run_rows (suc n) F (place_from next)
  step-next n None vs are low = refl
  step-next n (Some k) vs are low = append-none (rows_from n F k) ∙ rows-enough n (suc n) k vs are low (omega (arith, low))

  chain-step : (n l : ℕ) (rest : Place) (e : Entry K) (us : List (Entry K)) → AreChainRows F (Some l) (e ∷ us) → IsRest F (Node l) rest → length (e ∷ us) ≤ n → rows_from n F l ≡ l ∷ run_rows n F rest
  unfolding rows_from
  chain-step zero l rest e us is next few = absurd (omega (arith, few))
  chain-step (suc n) l rest e us is next few =
      let at = first-row F l (e ∷ us) is in
      let same : at.next ≡ next.1 = row-next F l at.first.link next.0 at.next next.1 at.row next.2 in
      let rows : AreChainRows F next.1 at.others = subst (λ o. AreChainRows F o at.others) same at.rows in
      let size : List (Entry K) → ℕ = length in
      ap (λ r. l ∷ flat_map (rows_from n F) (rows_below r)) next.2
      ∙ ap (λ ks. l ∷ ks) (step-next n next.1 at.others rows (omega (arith, few, ap size at.whole)))
      ∙ ap (λ p. l ∷ run_rows (suc n) F p) (sym next.3)

  pub run-step : (n : ℕ) (place rest : Place) (e : Entry K) (us : List (Entry K)) → IsRun F place (e ∷ us) → IsRest F place rest → length (e ∷ us) ≤ n → run_rows n F place ≡ row_of place ∷ run_rows n F rest
  run-step n Empty rest e us is next few = absurd next
  run-step n (At x) rest e us is next few = ap (λ p. x ∷ run_rows n F p) (sym next)
  run-step n (Node l) rest e us is next few = chain-step n l rest e us is next few

  -- two runs with one first row are one
  place-same : (p q : Place) (e d : Entry K) (us vs : List (Entry K)) → IsRun F p (e ∷ us) → IsRun F q (d ∷ vs) → row_of p ≡ row_of q → p ≡ q
  place-same Empty q e d us vs first second same = absurd (let bad : e ∷ us ≡ [] = first in cc)
  place-same (At x) Empty e d us vs first second same = absurd (let bad : d ∷ vs ≡ [] = second in cc)
  place-same (At x) (At y) e d us vs first second same = ap At same
  place-same (At x) (Node m) e d us vs first second same =
      let at = first-row F m (d ∷ vs) second in
      absurd (no-entry m (at.first.link ∷ option_to_list at.next) first.0 at.row (subst (λ l. key_at F l ≡ Some first.0) same first.2))
  place-same (Node l) Empty e d us vs first second same = absurd (let bad : d ∷ vs ≡ [] = second in cc)
  place-same (Node l) (At y) e d us vs first second same =
      let at = first-row F l (e ∷ us) first in
      absurd (no-entry l (at.first.link ∷ option_to_list at.next) second.0 at.row (subst (λ m. key_at F m ≡ Some second.0) (sym same) second.2))
  place-same (Node l) (Node m) e d us vs first second same = ap Node same

  -- the first row of a run has the key of its first entry
  first-key : (place : Place) (e : Entry K) (us : List (Entry K)) → IsRun F place (e ∷ us) → row_key (F (row_of place)) ≡ Some e.key
  first-key Empty e us is = absurd (let bad : e ∷ us ≡ [] = is in cc)
  first-key (At x) e us is =
      let same : e ≡ entry is.0 x = (let w = is.1 in cc) in
      entry-row_key (F x) is.0 is.2 ∙ ap (λ (d : Entry K). Some d.key) (sym same)
  first-key (Node l) e us is =
      let at = first-row F l (e ∷ us) is in
      let same : at.first ≡ e = (let w = at.whole in cc) in
      chain-row_key l at.first.link (option_to_list at.next) at.row ∙ at.key ∙ ap (λ (d : Entry K). Some d.key) same

  module _ (cmp : K → K → Ordering) (o : IsTotalOrder cmp) where
    differs : (l m : ℕ) (j k : K) → row_key (F l) ≡ Some j → row_key (F m) ≡ Some k → cmp j k ≡ Less → l ≢ m
    differs l m j k first second less same = let both : Some j ≡ Some k = sym first ∙ ap (λ i. row_key (F i)) same ∙ second in let one : j ≡ k = cc in less_irrefl cmp o k (subst (λ i. cmp i k ≡ Less) one less)

    -- a row isn't among those with smaller keys, nor among those with greater ones
    absent-below : (l : ℕ) (k : K) (ms : List ℕ) (ds : List (Entry K)) → row_key (F l) ≡ Some k → AreKeyed ms ds → AreBelow cmp k ds → count l ms ≡ 0
    unfolding AreKeyed
    absent-below l k [] [] is are below = refl
    absent-below l k [] (d ∷ ds) is are below = absurd are
    absent-below l k (m ∷ ms) [] is are below = absurd are
    absent-below l k (m ∷ ms) (d ∷ ds) is are below = omega (arith, count-cons l m ms, one_at-other m l (differs m l d.key k are.0 is below.0), absent-below l k ms ds is are.1 below.1)

    absent-above : (l : ℕ) (k : K) (ms : List ℕ) (ds : List (Entry K)) → row_key (F l) ≡ Some k → AreKeyed ms ds → AreAbove cmp k ds → count l ms ≡ 0
    unfolding AreKeyed
    absent-above l k [] [] is are above = refl
    absent-above l k [] (d ∷ ds) is are above = absurd are
    absent-above l k (m ∷ ms) [] is are above = absurd are
    absent-above l k (m ∷ ms) (d ∷ ds) is are above = omega (arith, count-cons l m ms, one_at-other m l (λ same. differs l m k d.key is are.0 above.0 (sym same)), absent-above l k ms ds is are.1 above.1)

    below-less : (k j : K) (es : List (Entry K)) → cmp k j ≡ Less → AreBelow cmp k es → AreBelow cmp j es
    below-less k j [] less below = tt
    below-less k j (e ∷ es) less below = (o.trans e.key k j below.0 less, below-less k j es less below.1)

    -- the two runs, of which so many are passed
    module _ (most : ℕ) (es ds : List (Entry K)) (ls ms : List ℕ) where
      pub record Meets (left right : Place) (i j : ℕ) : Type 0 where
        pub left_run : IsRun F left (drop i es)
        pub right_run : IsRun F right (drop j ds)
        pub left_rows : run_rows most F left ≡ drop i ls
        pub right_rows : run_rows most F right ≡ drop j ms
        pub left_few : i ≤ length es
        pub right_few : j ≤ length ds
        pub left_out : (l : ℕ) → Among l (take i ls) → count l ms ≡ 0
        pub right_out : (l : ℕ) → Among l (take j ms) → count l ls ≡ 0
        pub left_below : (e : Entry K) (us : List (Entry K)) → drop i es ≡ e ∷ us → AreBelow cmp e.key (take j ds)
        pub right_below : (d : Entry K) (vs : List (Entry K)) → drop j ds ≡ d ∷ vs → AreBelow cmp d.key (take i es)
        pub left_waits : 0 < i → waiting (Old left) ≡ 0
        pub right_waits : 0 < j → waiting (Old right) ≡ 0

      module _ (first : IsRising cmp es) (second : IsRising cmp ds) (keyed : AreKeyed ls es) (keyed' : AreKeyed ms ds) where
        pub meets-none : (left right : Place) → IsRun F left es → IsRun F right ds → run_rows most F left ≡ ls → run_rows most F right ≡ ms → Meets left right 0 0
        meets-none left right run run' rows rows' = record {
          left_run = run;
          right_run = run';
          left_rows = rows;
          right_rows = rows';
          left_few = omega arith;
          right_few = omega arith;
          left_out = λ l i. absurd i;
          right_out = λ l i. absurd i;
          left_below = λ e us is. tt;
          right_below = λ d vs is. tt;
          left_waits = λ some. absurd (omega (arith, some));
          right_waits = λ some. absurd (omega (arith, some));
        }

module _ {X : Type 0} where
  take-next : (i : ℕ) (xs : List X) (x : X) (ys : List X) → drop i xs ≡ x ∷ ys → take (i + 1) xs ≡ take i xs ++ x ∷ []
  take-next zero [] x ys e = absurd cc
  take-next zero (z ∷ zs) x ys e = (let same : z ≡ x = cc in ap (λ w. w ∷ []) same)
  take-next (suc i) [] x ys e = absurd cc
  take-next (suc i) (z ∷ zs) x ys e = rw add-one (ap (λ ws. z ∷ ws) (rw add-one at (take-next i zs x ys e)))

  drop-some : (i : ℕ) (xs : List X) (x : X) (ys : List X) → drop i xs ≡ x ∷ ys → i + 1 + length ys ≡ length xs
  drop-some zero [] x ys e = absurd cc
  drop-some zero (z ∷ zs) x ys e = (let same : zs ≡ ys = cc in omega (arith, ap length same))
  drop-some (suc i) [] x ys e = absurd cc
  drop-some (suc i) (z ∷ zs) x ys e = omega (arith, drop-some i zs x ys e)

  among-last : (y x : X) (xs : List X) → Among y (xs ++ x ∷ []) → Among y xs ⊎ (x ≡ y)
  among-last y x [] (inl same) = inr same
  among-last y x [] (inr nowhere) = absurd nowhere
  among-last y x (z ∷ zs) (inl same) = inl (inl same)
  among-last y x (z ∷ zs) (inr i) = first (among-last y x zs i)
    where
      first : Among y zs ⊎ (x ≡ y) → Among y (z ∷ zs) ⊎ (x ≡ y)
      first (inl j) = inl (inr j)
      first (inr same) = inr same

among-count : (l : ℕ) (xs : List ℕ) → Among l xs → 0 < count l xs
among-count l [] i = absurd i
among-count l (x ∷ xs) (inl same) = omega (arith, count-cons l x xs, subst (λ k. one_at x k ≡ 1) same (one_at-same x))
among-count l (x ∷ xs) (inr i) = omega (arith, count-cons l x xs, among-count l xs i)

among-append-right : (l : ℕ) (xs ys : List ℕ) → Among l ys → Among l (xs ++ ys)
among-append-right l [] ys i = i
among-append-right l (x ∷ xs) ys i = inr (among-append-right l xs ys i)

-- those of some links that aren't among the others
without-front : (ls ms : List ℕ) (i : ℕ) → i ≤ length ls → ((l : ℕ) → Among l (take i ls) → count l ms ≡ 0) → ((l : ℕ) → Among l (drop i ls) → 0 < count l ms) → length (not_among ls ms) ≡ i
without-front ls ms i few out among =
    let test : ℕ → Bool = λ l. nat_eq (count l ms) 0 in
    let first : filter test (take i ls) ≡ take i ls = filter-same test (λ l. true) (take i ls) (λ l a. eq-eqb (count l ms) 0 (out l a)) ∙ filter-all (take i ls) in
    let second : filter test (drop i ls) ≡ [] = filter-same test (λ l. false) (drop i ls) (λ l a. ne_eqb (count l ms) 0 (λ none. absurd (omega (arith, none, among l a)))) ∙ filter-none (drop i ls) in
    let whole : filter test ls ≡ take i ls =
    ap (filter test) (sym (take-append-drop i ls)) ∙ filter-append test (take i ls) (drop i ls) ∙ ap (λ xs. xs ++ filter test (drop i ls)) first ∙ ap (λ ys. take i ls ++ ys) second ∙ append-none (take i ls) in
    ap length whole ∙ length-take-le i ls few

rest-waits : {K : Type 0} (F : Forms K) (place rest : Place) → IsRest F place rest → waiting (Old rest) ≡ 0
rest-waits F Empty rest next = absurd next
rest-waits F (At x) rest next = ap (λ p. waiting (Old p)) next
rest-waits F (Node l) rest next = ap (λ p. waiting (Old p)) next.3 ∙ from next.1
  where
    from : (o : Option ℕ) → waiting (Old (place_from o)) ≡ 0
    from None = refl
    from (Some k) = refl

module _ {K : Type 0} (F : Forms K) (cmp : K → K → Ordering) (o : IsTotalOrder cmp) (most : ℕ) where
  -- the other run first
  pub meets-turned : (es ds : List (Entry K)) (ls ms : List ℕ) (left right : Place) (i j : ℕ) → Meets F cmp o most es ds ls ms left right i j → Meets F cmp o most ds es ms ls right left j i
  meets-turned es ds ls ms left right i j p = record {
    left_run = p.right_run;
    right_run = p.left_run;
    left_rows = p.right_rows;
    right_rows = p.left_rows;
    left_few = p.right_few;
    right_few = p.left_few;
    left_out = p.right_out;
    right_out = p.left_out;
    left_below = p.right_below;
    right_below = p.left_below;
    left_waits = p.right_waits;
    right_waits = p.left_waits;
  }

  module _ (es ds : List (Entry K)) (ls ms : List ℕ) (first : IsRising cmp es) (second : IsRising cmp ds) (keyed : AreKeyed F ls es) (keyed' : AreKeyed F ms ds) (few : length es ≤ most)
      (left right : Place) (i j : ℕ) (p : Meets F cmp o most es ds ls ms left right i j) where
    module _ (rest : Place) (e : Entry K) (us : List (Entry K)) (here : drop i es ≡ e ∷ us) (next : IsRest F left rest) where
      here-run : IsRun F left (e ∷ us)
      here-run = subst (IsRun F left) here p.left_run

      here-rows : drop i ls ≡ row_of F left ∷ run_rows most F rest
      here-rows = sym p.left_rows ∙ run-step F most left rest e us here-run next (omega (arith, few, drop-some i es e us here))

      here-rising : IsRising cmp (e ∷ us)
      here-rising = subst (IsRising cmp) here (rising-right cmp o (take i es) (drop i es) (subst (IsRising cmp) (sym (take-append-drop i es)) first))

      gone-out : count (row_of F left) ms ≡ 0 → (l : ℕ) → Among l (take (i + 1) ls) → count l ms ≡ 0
      gone-out none l among = by_side (among-last l (row_of F left) (take i ls) (subst (Among l) (take-next i ls (row_of F left) (run_rows most F rest) here-rows) among))
        where
          by_side : Among l (take i ls) ⊎ (row_of F left ≡ l) → count l ms ≡ 0
          by_side (inl a) = p.left_out l a
          by_side (inr same) = subst (λ k. count k ms ≡ 0) same none

      next-above : (e' : Entry K) (us' : List (Entry K)) → drop (i + 1) es ≡ e' ∷ us' → cmp e.key e'.key ≡ Less
      next-above e' us' is = (subst (AreAbove cmp e.key) (sym (drop-next i es e us here) ∙ is) here-rising.0).0

      front-none : count (row_of F left) (take j ms) ≡ 0
      front-none = absent-below F cmp o (row_of F left) e.key (take j ms) (take j ds) (first-key F left e us here-run) (keyed-take F j ms ds keyed') (p.left_below e us here)

      -- the left run goes on where its next key is below all that is left of the other
      pub meets-less : IsRun F rest us → AreAbove cmp e.key (drop j ds) → Meets F cmp o most es ds ls ms rest right (i + 1) j
      meets-less run above = record {
        left_run = subst (IsRun F rest) (sym (drop-next i es e us here)) run;
        right_run = p.right_run;
        left_rows = sym (drop-next i ls (row_of F left) (run_rows most F rest) here-rows);
        right_rows = p.right_rows;
        left_few = omega (arith, drop-some i es e us here);
        right_few = p.right_few;
        left_out = gone-out none;
        right_out = p.right_out;
        left_below = λ e' us' is. below-less F cmp o e.key e'.key (take j ds) (next-above e' us' is) (p.left_below e us here);
        right_below = λ d vs is. subst (AreBelow cmp d.key) (sym (take-next i es e us here)) (below-push cmp o d.key (take i es) e (p.right_below d vs is) (subst (AreAbove cmp e.key) is above).0);
        left_waits = λ some. rest-waits F left rest next;
        right_waits = p.right_waits;
      }
        where
          none : count (row_of F left) ms ≡ 0
          none =
              let behind = absent-above F cmp o (row_of F left) e.key (drop j ms) (drop j ds) (first-key F left e us here-run) (keyed-drop F j ms ds keyed') above in
              omega (arith, front-none, behind, count-append (row_of F left) (take j ms) (drop j ms), ap (count (row_of F left)) (take-append-drop j ms))

      -- where the next keys are equal and the rows aren't one, the left one isn't in the other run
      module _ (d : Entry K) (vs : List (Entry K)) (there : drop j ds ≡ d ∷ vs) (rest' : Place) (rows' : drop j ms ≡ row_of F right ∷ run_rows most F rest') (rising' : IsRising cmp (d ∷ vs)) (equal : cmp e.key d.key ≡ Equal) (other : left ≢ right) where
        equal-none : count (row_of F left) ms ≡ 0
        equal-none =
            let l = row_of F left in
            let above : AreAbove cmp e.key (drop (j + 1) ds) = subst (AreAbove cmp e.key) (sym (drop-next j ds d vs there)) (above-same cmp o e.key d.key equal vs rising'.0) in
            let behind = absent-above F cmp o l e.key (drop (j + 1) ms) (drop (j + 1) ds) (first-key F left e us here-run) (keyed-drop F (j + 1) ms ds keyed') above in
            let apart = one_at-other (row_of F right) l (λ same. other (place-same F left right e d us vs here-run (subst (IsRun F right) there p.right_run) (sym same))) in
            omega (
              arith,
              front-none,
              behind,
              apart,
              ap (count l) (drop-next j ms (row_of F right) (run_rows most F rest') rows'),
              ap (count l) rows',
              count-cons l (row_of F right) (run_rows most F rest'),
              count-append l (take j ms) (drop j ms),
              ap (count l) (take-append-drop j ms),
            )

        equal-below : (e' : Entry K) (us' : List (Entry K)) → drop (i + 1) es ≡ e' ∷ us' → AreBelow cmp e'.key (take (j + 1) ds)
        equal-below e' us' is =
            let less = next-above e' us' is in
            subst (AreBelow cmp e'.key) (sym (take-next j ds d vs there))
            (below-push cmp o e'.key (take j ds) d (below-less F cmp o e.key e'.key (take j ds) less (p.left_below e us here)) (sym (o.congr e.key d.key e'.key equal) ∙ less))

    -- where both end in one place
    pub meets-end : left ≡ right → IsRun F left (drop i es) × (drop i es ≡ drop j ds) × (length (not_among ls ms) ≡ i)
    meets-end same = (
      p.left_run,
      run-only F left (drop i es) (drop j ds) p.left_run (subst (λ q. IsRun F q (drop j ds)) (sym same) p.right_run),
      without-front ls ms i (omega (arith, p.left_few, keyed-length F ls es keyed)) p.left_out
          (λ l a.
          let there : Among l (drop j ms) = subst (Among l) (sym p.left_rows ∙ ap (run_rows most F) same ∙ p.right_rows) a in
          subst (λ xs. 0 < count l xs) (take-append-drop j ms) (among-count l (take j ms ++ drop j ms) (among-append-right l (take j ms) (drop j ms) there))),
    )

  module _ (es ds : List (Entry K)) (ls ms : List ℕ) (first : IsRising cmp es) (second : IsRising cmp ds) (keyed : AreKeyed F ls es) (keyed' : AreKeyed F ms ds) (few : length es ≤ most) (few' : length ds ≤ most)
      (left right : Place) (i j : ℕ) (p : Meets F cmp o most es ds ls ms left right i j) where
    pub meets-greater : (rest : Place) (d : Entry K) (vs : List (Entry K)) → drop j ds ≡ d ∷ vs → IsRest F right rest → IsRun F rest vs → AreAbove cmp d.key (drop i es) → Meets F cmp o most es ds ls ms left rest i (j + 1)
    meets-greater rest d vs there next run above =
        meets-turned ds es ms ls rest left (j + 1) i
        (meets-less ds es ms ls second first keyed' keyed few' right left j i (meets-turned es ds ls ms left right i j p) rest d vs there next run above)

    -- both go on where their next keys are equal
    pub meets-equal : (rest rest' : Place) (e d : Entry K) (us vs : List (Entry K)) → drop i es ≡ e ∷ us → drop j ds ≡ d ∷ vs → IsRest F left rest → IsRest F right rest' → IsRun F rest us → IsRun F rest' vs
        → cmp e.key d.key ≡ Equal → left ≢ right → Meets F cmp o most es ds ls ms rest rest' (i + 1) (j + 1)
    meets-equal rest rest' e d us vs here there next next' run run' equal other =
        let q = meets-turned es ds ls ms left right i j p in
        let back : cmp d.key e.key ≡ Equal = o.antisymm d.key e.key ∙ ap ordering_reverse equal in
        let rows = here-rows es ds ls ms first second keyed keyed' few left right i j p rest e us here next in
        let rows' = here-rows ds es ms ls second first keyed' keyed few' right left j i q rest' d vs there next' in
        let rising = here-rising es ds ls ms first second keyed keyed' few left right i j p rest e us here next in
        let rising' = here-rising ds es ms ls second first keyed' keyed few' right left j i q rest' d vs there next' in
        let none = equal-none es ds ls ms first second keyed keyed' few left right i j p rest e us here next d vs there rest' rows' rising' equal other in
        let none' = equal-none ds es ms ls second first keyed' keyed few' right left j i q rest' d vs there next' e us here rest rows rising back (λ same. other (sym same)) in
        record {
          left_run = subst (IsRun F rest) (sym (drop-next i es e us here)) run;
          right_run = subst (IsRun F rest') (sym (drop-next j ds d vs there)) run';
          left_rows = sym (drop-next i ls (row_of F left) (run_rows most F rest) rows);
          right_rows = sym (drop-next j ms (row_of F right) (run_rows most F rest') rows');
          left_few = omega (arith, drop-some i es e us here);
          right_few = omega (arith, drop-some j ds d vs there);
          left_out = gone-out es ds ls ms first second keyed keyed' few left right i j p rest e us here next none;
          right_out = gone-out ds es ms ls second first keyed' keyed few' right left j i q rest' d vs there next' none';
          left_below = equal-below es ds ls ms first second keyed keyed' few left right i j p rest e us here next d vs there rest' rows' rising' equal other;
          right_below = equal-below ds es ms ls second first keyed' keyed few' right left j i q rest' d vs there next' e us here rest rows rising back (λ same. other (sym same));
          left_waits = λ some. rest-waits F left rest next;
          right_waits = λ some. rest-waits F right rest' next';
        }

-- the entries of a run are fewer than the rows that a heap may have
pub run-live : {T : Type 0} (h : Heap T) → IsGraph h → (place : Place) (es : List (Entry T)) → IsRun (form_at h) place es → length es < row_limit
run-live {T} h graph Empty es is = (let size : List (Entry T) → ℕ = length in omega (arith, ap size is))
run-live {T} h graph (At x) es is = (let size : List (Entry T) → ℕ = length in omega (arith, ap size is.1))
run-live {T} h graph (Node l) es is = omega (arith, rows-live h graph es (Some l) is, graph.few_rows)

module _ {K : Type 0} (F : Forms K) (cmp : K → K → Ordering) (o : IsTotalOrder cmp) where
  run-empty : (place : Place) → IsRun F place [] → place ≡ Empty
  run-empty Empty is = refl
  run-empty (At x) is = absurd (let bad : [] ≡ entry is.0 x ∷ [] = is.1 in cc)
  run-empty (Node l) is = (let at = first-row F l [] is in absurd (let bad = at.whole in cc))

  both-empty : (left right : Place) → IsRun F left [] → IsRun F right [] → left ≢ right → ⊥
  both-empty left right run run' other = other (run-empty left run ∙ sym (run-empty right run'))

  -- the first key of a run is below all of another
  pub record IsFirstBelow (us vs : List (Entry K)) : Type 0 where
    pub first : Entry K
    pub others : List (Entry K)
    pub whole : us ≡ first ∷ others
    pub above : AreAbove cmp first.key vs

  pub less-front : (left right : Place) (us vs : List (Entry K)) → IsRun F left us → IsRun F right vs → IsRising cmp vs → left ≢ right
      → ((e d : Entry K) (es ds : List (Entry K)) → IsRun F left (e ∷ es) → IsRun F right (d ∷ ds) → Less ≡ cmp e.key d.key)
      → ((d : Entry K) (ds : List (Entry K)) → IsRun F left [] → IsRun F right (d ∷ ds) → Less ≡ Greater) → IsFirstBelow us vs
  less-front left right [] [] run run' rising other both second = absurd (both-empty left right run run' other)
  less-front left right [] (d ∷ vs) run run' rising other both second = absurd (let bad = second d vs run run' in cc)
  less-front left right (e ∷ us) [] run run' rising other both second = record { first = e; others = us; whole = refl; above = tt }
  less-front left right (e ∷ us) (d ∷ vs) run run' rising other both second =
      let less : cmp e.key d.key ≡ Less = sym (both e d us vs run run') in
      record { first = e; others = us; whole = refl; above = (less, above-less cmp o e.key d.key less vs rising.0) }

  pub greater-front : (left right : Place) (us vs : List (Entry K)) → IsRun F left us → IsRun F right vs → IsRising cmp us → left ≢ right
      → ((e d : Entry K) (es ds : List (Entry K)) → IsRun F left (e ∷ es) → IsRun F right (d ∷ ds) → Greater ≡ cmp e.key d.key)
      → ((e : Entry K) (es : List (Entry K)) → IsRun F left (e ∷ es) → IsRun F right [] → Greater ≡ Less) → IsFirstBelow vs us
  greater-front left right [] [] run run' rising other both first = absurd (both-empty left right run run' other)
  greater-front left right (e ∷ us) [] run run' rising other both first = absurd (let bad = first e us run run' in cc)
  greater-front left right [] (d ∷ vs) run run' rising other both first = record { first = d; others = vs; whole = refl; above = tt }
  greater-front left right (e ∷ us) (d ∷ vs) run run' rising other both first =
      let less : cmp d.key e.key ≡ Less = less_flip cmp o e.key d.key (sym (both e d us vs run run')) in
      record { first = d; others = vs; whole = refl; above = (less, above-less cmp o d.key e.key less us rising.0) }

  -- the first keys of two runs are equal
  pub record AreEqualFronts (us vs : List (Entry K)) : Type 0 where
    pub first : Entry K
    pub others : List (Entry K)
    pub whole : us ≡ first ∷ others
    pub second : Entry K
    pub rest : List (Entry K)
    pub other_whole : vs ≡ second ∷ rest
    pub equal : cmp first.key second.key ≡ Equal

  pub equal-fronts : (left right : Place) (us vs : List (Entry K)) → IsRun F left us → IsRun F right vs → left ≢ right
      → ((e d : Entry K) (es ds : List (Entry K)) → IsRun F left (e ∷ es) → IsRun F right (d ∷ ds) → Equal ≡ cmp e.key d.key)
      → ((e : Entry K) (es : List (Entry K)) → IsRun F left (e ∷ es) → IsRun F right [] → Equal ≡ Less)
      → ((d : Entry K) (ds : List (Entry K)) → IsRun F left [] → IsRun F right (d ∷ ds) → Equal ≡ Greater) → AreEqualFronts us vs
  equal-fronts left right [] [] run run' other both first second = absurd (both-empty left right run run' other)
  equal-fronts left right [] (d ∷ vs) run run' other both first second = absurd (let bad = second d vs run run' in cc)
  equal-fronts left right (e ∷ us) [] run run' other both first second = absurd (let bad = first e us run run' in cc)
  equal-fronts left right (e ∷ us) (d ∷ vs) run run' other both first second = record {
    first = e;
    others = us;
    whole = refl;
    second = d;
    rest = vs;
    other_whole = refl;
    equal = sym (both e d us vs run run');
  }

-- one turn of the walk along two runs in a heap
module _ {T : Type 0} (cmp : T → T → Ordering) (o : IsTotalOrder cmp) (h : Heap T) (graph : IsGraph h) (a b : Place) (es ds : List (Entry T)) (first : IsRisingRun (form_at h) cmp a es) (second : IsRisingRun (form_at h) cmp b ds) where
  few-first : length es ≤ row_limit
  few-first = omega (arith, run-live h graph a es first.run)

  few-second : length ds ≤ row_limit
  few-second = omega (arith, run-live h graph b ds second.run)

  keyed-first : AreKeyed (form_at h) (run_rows row_limit (form_at h) a) es
  keyed-first = run-keyed (form_at h) row_limit a es first.run few-first

  keyed-second : AreKeyed (form_at h) (run_rows row_limit (form_at h) b) ds
  keyed-second = run-keyed (form_at h) row_limit b ds second.run few-second

  pub turn-none : Meets (form_at h) cmp o row_limit es ds (run_rows row_limit (form_at h) a) (run_rows row_limit (form_at h) b) a b 0 0
  turn-none = meets-none (form_at h) cmp o row_limit es ds (run_rows row_limit (form_at h) a) (run_rows row_limit (form_at h) b) first.rising second.rising keyed-first keyed-second a b first.run second.run refl refl

  module _ (left right : Place) (i j : ℕ) (p : Meets (form_at h) cmp o row_limit es ds (run_rows row_limit (form_at h) a) (run_rows row_limit (form_at h) b) left right i j) where
    left-rising : IsRising cmp (drop i es)
    left-rising = rising-right cmp o (take i es) (drop i es) (subst (IsRising cmp) (sym (take-append-drop i es)) first.rising)

    right-rising : IsRising cmp (drop j ds)
    right-rising = rising-right cmp o (take j ds) (drop j ds) (subst (IsRising cmp) (sym (take-append-drop j ds)) second.rising)

    left-room : (e : Entry T) (us : List (Entry T)) → drop i es ≡ e ∷ us → i + 1 < row_limit
    left-room e us here = omega (arith, drop-some i es e us here, run-live h graph a es first.run)

    right-room : (d : Entry T) (vs : List (Entry T)) → drop j ds ≡ d ∷ vs → j + 1 < row_limit
    right-room d vs there = omega (arith, drop-some j ds d vs there, run-live h graph b ds second.run)

    left-shorter : (e : Entry T) (us : List (Entry T)) → drop i es ≡ e ∷ us → (rest : Place) → IsRest (form_at h) left rest → length (run_rows row_limit (form_at h) rest) < length (run_rows row_limit (form_at h) left)
    left-shorter e us here rest next =
        let step = run-step (form_at h) row_limit left rest e us (subst (IsRun (form_at h) left) here p.left_run) next (omega (arith, drop-some i es e us here, few-first)) in
        let size : List ℕ → ℕ = length in
        omega (arith, ap size step)

    right-shorter : (d : Entry T) (vs : List (Entry T)) → drop j ds ≡ d ∷ vs → (rest : Place) → IsRest (form_at h) right rest → length (run_rows row_limit (form_at h) rest) < length (run_rows row_limit (form_at h) right)
    right-shorter d vs there rest next =
        let step = run-step (form_at h) row_limit right rest d vs (subst (IsRun (form_at h) right) there p.right_run) next (omega (arith, drop-some j ds d vs there, few-second)) in
        let size : List ℕ → ℕ = length in
        omega (arith, ap size step)

    -- the left one goes on
    module _ (other : left ≢ right) (both : (e d : Entry T) (us vs : List (Entry T)) → IsRun (form_at h) left (e ∷ us) → IsRun (form_at h) right (d ∷ vs) → Less ≡ cmp e.key d.key)
        (ended : (d : Entry T) (vs : List (Entry T)) → IsRun (form_at h) left [] → IsRun (form_at h) right (d ∷ vs) → Less ≡ Greater) where
      less-here : IsFirstBelow (form_at h) cmp o (drop i es) (drop j ds)
      less-here = less-front (form_at h) cmp o left right (drop i es) (drop j ds) p.left_run p.right_run right-rising other both ended

      pub less-run : (e : Entry T) × (us : List (Entry T)) × IsRun (form_at h) left (e ∷ us)
      less-run = (less-here.first, less-here.others, subst (IsRun (form_at h) left) less-here.whole p.left_run)

      pub less-room : i + 1 < row_limit
      less-room = left-room less-here.first less-here.others less-here.whole

      pub less-shorter : (rest : Place) → IsRest (form_at h) left rest → length (run_rows row_limit (form_at h) rest) < length (run_rows row_limit (form_at h) left)
      less-shorter = left-shorter less-here.first less-here.others less-here.whole

      pub less-more : (rest : Place) (x : ℕ) → IsRest (form_at h) left rest → ((e : Entry T) (us : List (Entry T)) → IsRun (form_at h) left (e ∷ us) → (x ≡ e.link) × IsRun (form_at h) rest us)
          → Meets (form_at h) cmp o row_limit es ds (run_rows row_limit (form_at h) a) (run_rows row_limit (form_at h) b) rest right (i + 1) j
      less-more rest x next front =
          meets-less (form_at h) cmp o row_limit es ds (run_rows row_limit (form_at h) a) (run_rows row_limit (form_at h) b) first.rising second.rising keyed-first keyed-second few-first left right i j p rest less-here.first less-here.others
          less-here.whole next (front less-here.first less-here.others (subst (IsRun (form_at h) left) less-here.whole p.left_run)).1 less-here.above

    -- the right one goes on
    module _ (other : left ≢ right) (both : (e d : Entry T) (us vs : List (Entry T)) → IsRun (form_at h) left (e ∷ us) → IsRun (form_at h) right (d ∷ vs) → Greater ≡ cmp e.key d.key)
        (ended : (e : Entry T) (us : List (Entry T)) → IsRun (form_at h) left (e ∷ us) → IsRun (form_at h) right [] → Greater ≡ Less) where
      greater-here : IsFirstBelow (form_at h) cmp o (drop j ds) (drop i es)
      greater-here = greater-front (form_at h) cmp o left right (drop i es) (drop j ds) p.left_run p.right_run left-rising other both ended

      pub greater-run : (d : Entry T) × (vs : List (Entry T)) × IsRun (form_at h) right (d ∷ vs)
      greater-run = (greater-here.first, greater-here.others, subst (IsRun (form_at h) right) greater-here.whole p.right_run)

      pub greater-room : j + 1 < row_limit
      greater-room = right-room greater-here.first greater-here.others greater-here.whole

      pub greater-shorter : (rest : Place) → IsRest (form_at h) right rest → length (run_rows row_limit (form_at h) rest) < length (run_rows row_limit (form_at h) right)
      greater-shorter = right-shorter greater-here.first greater-here.others greater-here.whole

      pub greater-more : (rest : Place) (x : ℕ) → IsRest (form_at h) right rest → ((d : Entry T) (vs : List (Entry T)) → IsRun (form_at h) right (d ∷ vs) → (x ≡ d.link) × IsRun (form_at h) rest vs)
          → Meets (form_at h) cmp o row_limit es ds (run_rows row_limit (form_at h) a) (run_rows row_limit (form_at h) b) left rest i (j + 1)
      greater-more rest x next front =
          meets-greater (form_at h) cmp o row_limit es ds (run_rows row_limit (form_at h) a) (run_rows row_limit (form_at h) b) first.rising second.rising keyed-first keyed-second few-first few-second left right i j p rest greater-here.first greater-here.others
          greater-here.whole next (front greater-here.first greater-here.others (subst (IsRun (form_at h) right) greater-here.whole p.right_run)).1 greater-here.above

    -- both go on
    module _ (other : left ≢ right) (both : (e d : Entry T) (us vs : List (Entry T)) → IsRun (form_at h) left (e ∷ us) → IsRun (form_at h) right (d ∷ vs) → Equal ≡ cmp e.key d.key)
        (ended : (e : Entry T) (us : List (Entry T)) → IsRun (form_at h) left (e ∷ us) → IsRun (form_at h) right [] → Equal ≡ Less)
        (ended' : (d : Entry T) (vs : List (Entry T)) → IsRun (form_at h) left [] → IsRun (form_at h) right (d ∷ vs) → Equal ≡ Greater) where
      equal-here : AreEqualFronts (form_at h) cmp o (drop i es) (drop j ds)
      equal-here = equal-fronts (form_at h) cmp o left right (drop i es) (drop j ds) p.left_run p.right_run other both ended ended'

      pub equal-left_run : (e : Entry T) × (us : List (Entry T)) × IsRun (form_at h) left (e ∷ us)
      equal-left_run = (equal-here.first, equal-here.others, subst (IsRun (form_at h) left) equal-here.whole p.left_run)

      pub equal-right_run : (d : Entry T) × (vs : List (Entry T)) × IsRun (form_at h) right (d ∷ vs)
      equal-right_run = (equal-here.second, equal-here.rest, subst (IsRun (form_at h) right) equal-here.other_whole p.right_run)

      pub equal-left_room : i + 1 < row_limit
      equal-left_room = left-room equal-here.first equal-here.others equal-here.whole

      pub equal-right_room : j + 1 < row_limit
      equal-right_room = right-room equal-here.second equal-here.rest equal-here.other_whole

      pub equal-shorter : (rest : Place) → IsRest (form_at h) left rest → length (run_rows row_limit (form_at h) rest) < length (run_rows row_limit (form_at h) left)
      equal-shorter = left-shorter equal-here.first equal-here.others equal-here.whole

      pub equal-shorter_right : (rest : Place) → IsRest (form_at h) right rest → length (run_rows row_limit (form_at h) rest) < length (run_rows row_limit (form_at h) right)
      equal-shorter_right = right-shorter equal-here.second equal-here.rest equal-here.other_whole

      pub equal-more : (rest rest' : Place) (x y : ℕ) → IsRest (form_at h) left rest → IsRest (form_at h) right rest' → ((e : Entry T) (us : List (Entry T)) → IsRun (form_at h) left (e ∷ us) → (x ≡ e.link) × IsRun (form_at h) rest us)
          → ((d : Entry T) (vs : List (Entry T)) → IsRun (form_at h) right (d ∷ vs) → (y ≡ d.link) × IsRun (form_at h) rest' vs)
          → Meets (form_at h) cmp o row_limit es ds (run_rows row_limit (form_at h) a) (run_rows row_limit (form_at h) b) rest rest' (i + 1) (j + 1)
      equal-more rest rest' x y next next' front front' =
          meets-equal (form_at h) cmp o row_limit es ds (run_rows row_limit (form_at h) a) (run_rows row_limit (form_at h) b) first.rising second.rising keyed-first keyed-second few-first few-second left right i j p rest rest'
          equal-here.first equal-here.second equal-here.others equal-here.rest equal-here.whole equal-here.other_whole next next'
          (front equal-here.first equal-here.others (subst (IsRun (form_at h) left) equal-here.whole p.left_run)).1 (front' equal-here.second equal-here.rest (subst (IsRun (form_at h) right) equal-here.other_whole p.right_run)).1 equal-here.equal other

    -- both are at one place
    pub turn-end : left ≡ right → IsRun (form_at h) left (drop i es) × (drop i es ≡ drop j ds) × (i ≡ length (not_among (run_rows row_limit (form_at h) a) (run_rows row_limit (form_at h) b)))
    turn-end same =
        let end = meets-end (form_at h) cmp o row_limit es ds (run_rows row_limit (form_at h) a) (run_rows row_limit (form_at h) b) first.rising second.rising keyed-first keyed-second few-first left right i j p same in
        (end.0, end.1, sym end.2)

    pub turn-end_right : left ≡ right → j ≡ length (not_among (run_rows row_limit (form_at h) b) (run_rows row_limit (form_at h) a))
    turn-end_right same =
        sym (meets-end (form_at h) cmp o row_limit ds es (run_rows row_limit (form_at h) b) (run_rows row_limit (form_at h) a) second.rising first.rising keyed-second keyed-first few-second right left j i
        (meets-turned (form_at h) cmp o row_limit es ds (run_rows row_limit (form_at h) a) (run_rows row_limit (form_at h) b) left right i j p) (sym same)).2

    pub turn-few : (i < row_limit) × (j < row_limit)
    turn-few = (omega (arith, p.left_few, run-live h graph a es first.run), omega (arith, p.right_few, run-live h graph b ds second.run))

    pub turn-waits : left ≡ right → 0 < i + j → waiting (Old left) ≡ 0
    turn-waits same some = by_count i refl
      where
        by_count : (n : ℕ) → i ≡ n → waiting (Old left) ≡ 0
        by_count zero e = ap (λ q. waiting (Old q)) same ∙ p.right_waits (omega (arith, some, e))
        by_count (suc n) e = p.left_waits (omega (arith, e))
