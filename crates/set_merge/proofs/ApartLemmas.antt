-- How few rows a merge needs, by the rows apart.
use Rattle.std.proofs.Common.{◌≡◌, ◌≢◌, ℕ, zero, suc, ◌+◌, ◌*◌, ◌<◌, ◌≤◌, List, [], ◌∷◌, ◌++◌, length, drop, refl, ap, sym, subst, ◌∙◌, arith, Bool, true, false, cond, Option, Some, None, inl, inr, ◌⊎◌, length-append}
use Rattle.std.specs.Prelude.{nat_eq, option_to_list}
use Rattle.std.specs.List.{flat_map}
use Rattle.std.specs.declared.cmp.Ordering.{Ordering}
use Rattle.std.proofs.lemmas.Bool.{cases_eq, eqb-true, eq-eqb, ne_eqb}
use Rattle.elem_core.specs.Codes.{digit_at}
use Rattle.node_heap.specs.Links.{count, HasLink, LeadsDown, here, below}
use Rattle.node_heap.specs.Forms.{Forms, node, chain}
use Rattle.node_heap.proofs.BuildLemmas.{count-cons, count-append}
use Rattle.champ_chain.specs.Entry.{Entry, key_at}
use Rattle.champ_chain.specs.Chain.{AreChainRows}
use Rattle.champ_chain.proofs.CopyLemmas.{one_at-same, one_at-other}
use Rattle.champ_chain.proofs.SetLemmas.{same-length}
use Rattle.champ_chain.proofs.SpotLemmas.{first-row}
use Rattle.champ_trie.specs.Bits.{rank}
use Rattle.champ_trie.specs.Trie.{IsTrie, IsPlace, part, place_of}
use Rattle.champ_trie.specs.Walk.{rows_from, rows_below, row_links, ReachesRow}
use Rattle.champ_trie.specs.declared.place.Place.{Place}
use Rattle.champ_trie.specs.declared.place.Place.TheVariants.{Empty, Entry as At, Node}
use Rattle.champ_trie.proofs.GatherLemmas.{gather, node_links, nodes-gather}
use Rattle.same_value.specs.Apart.{HasApart}
use Rattle.champ_trie.proofs.BelowLemmas.{once-fits, one-counted, rows-reached, stands-reach, trie-stands, stands-deeper, one-digit}
use Rattle.set_merge.specs.declared.keeps.Keeps.{Keeps}
use Rattle.set_merge.specs.Side.{place_in, lone_place, place_below, settled}
use Rattle.set_merge.specs.Need.{not_among, sum_below, need_unless, rows_need}
use Rattle.set_merge.specs.Walk.{HasBelow, position_need}
use Rattle.set_merge.proofs.MergeLemmas.{filter-short}
use Rattle.set_merge.proofs.NeedLemmas.{sum-one, below-place, place-has}

-- what is gathered stands at one of the positions
counted-gather : (f : ℕ → List ℕ) (n k : ℕ) → 0 < count k (gather f n) → (p : ℕ) × (p < n) × (0 < count k (f p))
counted-gather f zero k some = absurd (omega (arith, some))
counted-gather f (suc n) k some = by_count (count k (f n)) refl (counted-gather f n k)
  where
    by_count : (m : ℕ) → count k (f n) ≡ m → (0 < count k (gather f n) → (p : ℕ) × (p < n) × (0 < count k (f p))) → (p : ℕ) × (p < suc n) × (0 < count k (f p))
    by_count zero is again = (let found = again (omega (arith, some, count-append k (gather f n) (f n), is)) in (found.0, omega (arith, found.1), found.2))
    by_count (suc m) is again = (n, omega arith, omega (arith, is))

gather-counted : (f : ℕ → List ℕ) (n k p : ℕ) → p < n → 0 < count k (f p) → 0 < count k (gather f n)
gather-counted f zero k p low some = absurd (omega (arith, low))
gather-counted f (suc n) k p low some = by_case (cases_eq p n) (λ lower. gather-counted f n k p lower some)
  where
    by_case : (p ≡ n) ⊎ (p ≢ n) → (p < n → 0 < count k (gather f n)) → 0 < count k (gather f n ++ f n)
    by_case (inl same) again = omega (arith, count-append k (gather f n) (f n), subst (λ q. 0 < count k (f q)) same some)
    by_case (inr other) again = omega (arith, count-append k (gather f n) (f n), again (omega (arith, low, other)))

node-counted : (q : Place) (k : ℕ) → 0 < count k (node_links q) → q ≡ Node k
node-counted Empty k some = absurd (omega (arith, some))
node-counted (At x) k some = absurd (omega (arith, some))
node-counted (Node l) k some = ap Node (one-counted k l some)

counted-node : (q : Place) (k : ℕ) → q ≡ Node k → 0 < count k (node_links q)
counted-node q k is = subst (λ r. 0 < count k (node_links r)) (sym is) (omega (arith, count-cons k k [], one_at-same k))

-- those of the links that the others haven't
without-count : (k : ℕ) (xs ys : List ℕ) → count k (not_among xs ys) ≤ count k xs
without-count k [] ys = omega arith
without-count k (x ∷ xs) ys = by_test (nat_eq (count x ys) 0) (without-count k xs ys)
  where
    by_test : (b : Bool) → count k (not_among xs ys) ≤ count k xs → count k (cond b (x ∷ not_among xs ys) (not_among xs ys)) ≤ count k (x ∷ xs)
    by_test true rest = omega (arith, rest, count-cons k x xs, count-cons k x (not_among xs ys))
    by_test false rest = omega (arith, rest, count-cons k x xs)

without-none : (k : ℕ) (xs ys : List ℕ) → 0 < count k (not_among xs ys) → count k ys ≡ 0
without-none k [] ys some = absurd (omega (arith, some))
without-none k (x ∷ xs) ys some = by_test (nat_eq (count x ys) 0) refl some (without-none k xs ys)
  where
    by_test : (b : Bool) → nat_eq (count x ys) 0 ≡ b → 0 < count k (cond b (x ∷ not_among xs ys) (not_among xs ys)) → (0 < count k (not_among xs ys) → count k ys ≡ 0) → count k ys ≡ 0
    by_test true is more again = by_case (cases_eq x k)
      where
        by_case : (x ≡ k) ⊎ (x ≢ k) → count k ys ≡ 0
        by_case (inl same) = subst (λ j. count j ys ≡ 0) same (eqb-true (count x ys) 0 is)
        by_case (inr other) = again (omega (arith, more, count-cons k x (not_among xs ys), one_at-other x k other))
    by_test false is more again = again more

module _ {K : Type 0} (F : Forms K) where
  -- the place's row reaches this row
  abbrev pub ReachesPlace : Place → ℕ → Type 0
  ReachesPlace Empty l = ⊥
  ReachesPlace (At x) l = ⊥
  ReachesPlace (Node m) l = ReachesRow F m l

  -- one of the places reaches the row, and the other doesn't
  abbrev pub ApartHere : Place → Place → ℕ → Type 0
  ApartHere a b l = (ReachesPlace a l × (¬ ReachesPlace b l)) ⊎ (ReachesPlace b l × (¬ ReachesPlace a l))

  -- at most 512 for each of some different rows apart, and so many besides
  pub record Charged (a b : Place) (number spare : ℕ) : Type 0 where
    pub rows : List ℕ
    pub once : (l : ℕ) → count l rows ≤ 1
    pub apart : (l : ℕ) → 0 < count l rows → ApartHere a b l
    pub few : number ≤ 512 * length rows + spare

  pub charged-none : (a b : Place) (number spare : ℕ) → number ≤ spare → Charged a b number spare
  charged-none a b number spare few = record { rows = []; once = λ l. omega arith; apart = λ l some. absurd (omega (arith, some)); few = omega (arith, few) }

  pub charged-turned : (a b : Place) (m n spare : ℕ) → m ≡ n → Charged a b m spare → Charged b a n spare
  charged-turned a b m n spare same c = record {
    rows = c.rows;
    once = c.once;
    apart = λ l some. elim (c.apart l some) [ inl first ↦ inr first | inr second ↦ inl second ];
    few = omega (arith, same, c.few);
  }

  -- chain rows, one after the other
  module _ (height : ℕ → ℕ) (falls : LeadsDown height (row_links F)) where
    reach-falls : (l k : ℕ) → ReachesRow F l k → height k ≤ height l
    reach-falls _ _ (here l) = omega arith
    reach-falls _ _ (below l j k has rest) = omega (arith, falls l j has, reach-falls j k rest)

    chain-once : (n l : ℕ) (es : List (Entry K)) → AreChainRows F (Some l) es → (k : ℕ) → count k (rows_from n F l) ≤ 1
    unfolding rows_from
    chain-once zero l es rows k = omega arith
    chain-once (suc n) l es rows k =
        let at = first-row F l es rows in
        subst (λ r. count k (l ∷ flat_map (rows_from n F) (rows_below r)) ≤ 1) (sym at.row) (by_next at.first.link at.next at.others at.rows at.row (λ j are. chain-once n j at.others are k))
      where
        by_next : (x : ℕ) (next : Option ℕ) (ds : List (Entry K)) → AreChainRows F next ds → F l ≡ Some (node chain (x ∷ option_to_list next)) → ((j : ℕ) → AreChainRows F (Some j) ds → count k (rows_from n F j) ≤ 1)
            → count k (l ∷ flat_map (rows_from n F) (option_to_list next)) ≤ 1
        by_next x None ds are row again = by_case (cases_eq l k)
          where
            by_case : (l ≡ k) ⊎ (l ≢ k) → count k (l ∷ []) ≤ 1
            by_case (inl same) = subst (λ j. count j (l ∷ []) ≤ 1) same (omega (arith, count-cons l l [], one_at-same l))
            by_case (inr other) = omega (arith, count-cons k l [], one_at-other l k other)
        by_next x (Some j) ds are row again = by_case (cases_eq l k)
          where
            has : HasLink (row_links F) l j
            has = subst (λ r. 0 < count j (rows_below r)) (sym row) (omega (arith, count-cons j j [], one_at-same j))

            by_case : (l ≡ k) ⊎ (l ≢ k) → count k (l ∷ (rows_from n F j ++ [])) ≤ 1
            by_case (inl same) = by_count (count l (rows_from n F j)) refl
              where
                by_count : (m : ℕ) → count l (rows_from n F j) ≡ m → count k (l ∷ (rows_from n F j ++ [])) ≤ 1
                by_count zero is = subst (λ i. count i (l ∷ (rows_from n F j ++ [])) ≤ 1) same (omega (arith, count-cons l l (rows_from n F j ++ []), one_at-same l, count-append l (rows_from n F j) [], is))
                by_count (suc m) is = absurd (omega (arith, falls l j has, reach-falls j l (rows-reached F n j l (omega (arith, is)))))
            by_case (inr other) = omega (arith, count-cons k l (rows_from n F j ++ []), one_at-other l k other, count-append k (rows_from n F j) [], again j are)

    chain-all : (l k : ℕ) → ReachesRow F l k → (n : ℕ) (es : List (Entry K)) → AreChainRows F (Some l) es → length es ≤ n → 0 < count k (rows_from n F l)
    unfolding rows_from
    chain-all _ _ (here l) zero es rows enough = (let at = first-row F l es rows in absurd (omega (arith, enough, ap length at.whole)))
    chain-all _ _ (here l) (suc n) es rows enough = omega (arith, count-cons l l (flat_map (rows_from n F) (rows_below (F l))), one_at-same l)
    chain-all _ _ (below l j k has rest) zero es rows enough = (let at = first-row F l es rows in absurd (omega (arith, enough, ap length at.whole)))
    chain-all _ _ (below l j k has rest) (suc n) es rows enough =
        let at = first-row F l es rows in
        let inside : 0 < count j (option_to_list at.next) = subst (λ r. 0 < count j (rows_below r)) at.row has in
        let next = only at.next inside in
        let more = chain-all j k rest n at.others (subst (λ o. AreChainRows F o at.others) next at.rows) (omega (arith, enough, ap length at.whole)) in
        let flat : flat_map (rows_from n F) (rows_below (F l)) ≡ rows_from n F j ++ [] = ap (λ r. flat_map (rows_from n F) (rows_below r)) at.row ∙ ap (λ o. flat_map (rows_from n F) (option_to_list o)) next in
        omega (arith, count-cons k l (flat_map (rows_from n F) (rows_below (F l))), ap (count k) flat, count-append k (rows_from n F j) [], more)
      where
        only : (next : Option ℕ) → 0 < count j (option_to_list next) → next ≡ Some j
        only None is = absurd (omega (arith, is))
        only (Some i) is = ap Some (one-counted j i is)

    -- the rows of two chains, each without those of the other
    pub chains-charged : (most l m : ℕ) (es ds : List (Entry K)) → AreChainRows F (Some l) es → AreChainRows F (Some m) ds → length es ≤ most → length ds ≤ most
        → Charged (Node l) (Node m) (length (not_among (rows_from most F l) (rows_from most F m)) + length (not_among (rows_from most F m) (rows_from most F l))) 0
    chains-charged most l m es ds first second fit fit' = record {
      rows = xs ++ ys;
      once = λ k. by_counts k (count k xs) (count k ys) refl refl;
      apart = λ k some. by_count k some (count k xs) refl;
      few = omega (arith, length-append xs ys);
    }
      where
        ls : List ℕ
        ls = rows_from most F l

        ms : List ℕ
        ms = rows_from most F m

        xs : List ℕ
        xs = not_among ls ms

        ys : List ℕ
        ys = not_among ms ls

        by_counts : (k a b : ℕ) → count k xs ≡ a → count k ys ≡ b → count k (xs ++ ys) ≤ 1
        by_counts k zero b is is' = omega (arith, count-append k xs ys, is, without-count k ms ls, chain-once most m ds second k)
        by_counts k (suc a) zero is is' = omega (arith, count-append k xs ys, is', without-count k ls ms, chain-once most l es first k)
        by_counts k (suc a) (suc b) is is' = absurd (omega (arith, is, is', without-none k ls ms (omega (arith, is)), without-count k ms ls))

        by_count : (k : ℕ) → 0 < count k (xs ++ ys) → (a : ℕ) → count k xs ≡ a → ApartHere (Node l) (Node m) k
        by_count k some zero is =
            let there : 0 < count k ys = omega (arith, some, count-append k xs ys, is) in
            inr (rows-reached F most m k (omega (arith, there, without-count k ms ls)), λ down. omega (arith, without-none k ms ls there, chain-all l k down most es first fit))
        by_count k some (suc a) is =
            let there : 0 < count k xs = omega (arith, is) in
            inl (rows-reached F most l k (omega (arith, there, without-count k ls ms)), λ down. omega (arith, without-none k ls ms there, chain-all m k down most ds second fit'))

    -- the rows of a chain beside an entry
    pub chain-charged : (most l y : ℕ) (es : List (Entry K)) → AreChainRows F (Some l) es → 1 ≤ most → Charged (Node l) (At y) (length (not_among (rows_from most F l) (y ∷ [])) + length (not_among (y ∷ []) (rows_from most F l))) 0
    unfolding rows_from
    chain-charged most l y es rows some = record {
      rows = rows_from most F l;
      once = chain-once most l es rows;
      apart = λ k there. inl (rows-reached F most l k there, λ none. none);
      few = omega (arith, short (rows_from most F l) (y ∷ []), short (y ∷ []) (rows_from most F l), begins most some);
    }
      where
        short : (zs us : List ℕ) → length (not_among zs us) ≤ length zs
        short zs us = filter-short (λ i. nat_eq (count i us) 0) zs

        begins : (n : ℕ) → 1 ≤ n → 1 ≤ length (rows_from n F l)
        begins zero low = absurd (omega (arith, low))
        begins (suc n) low = omega arith

module _ {K : Type 0} (cmp : K → K → Ordering) (code : K → ℕ) (F : Forms K) where
  -- a place that reaches a row is a trie of two entries or more
  pub record Under (left depth : ℕ) (q : Place) (P : List (Entry K)) (l : ℕ) : Type 0 where
    pub child : ℕ
    pub node : q ≡ Node child
    pub down : ReachesRow F child l
    pub two : 2 ≤ length P
    pub trie : IsTrie cmp code F left depth child P

  under : (left depth : ℕ) (q : Place) (P : List (Entry K)) → IsPlace F (λ l P. IsTrie cmp code F left depth l P) q P → (l : ℕ) → ReachesPlace F q l → Under left depth q P l
  under left depth Empty P is l down = absurd down
  under left depth (At x) P is l down = absurd down
  under left depth (Node j) P is l down = record { child = j; node = refl; down = down; two = is.0; trie = is.1 }

  -- a row that a place reaches is the place's own, or below one of its positions
  reach-down : (left depth : ℕ) (b : Place) (D : List (Entry K)) → HasBelow cmp code F (suc left) depth b D → (l : ℕ) → ReachesPlace F b l → (b ≡ Node l) ⊎ ((q : ℕ) × (q < 32) × ReachesPlace F (place_below code F depth b q) l)
  unfolding IsTrie
  reach-down left depth Empty D has l down = absurd down
  reach-down left depth (At x) D has l down = absurd down
  reach-down left depth (Node m) D has l down = by_reach m l down refl
    where
      by_reach : (i l : ℕ) → ReachesRow F i l → i ≡ m → (Node m ≡ Node l) ⊎ ((q : ℕ) × (q < 32) × ReachesPlace F (place_in (F m) q) l)
      by_reach _ _ (here i) same = inl (ap Node (sym same))
      by_reach _ _ (below i j k step rest) same =
          let inside : 0 < count j (drop (rank has.entries 32) has.links) = subst (λ r. 0 < count j (rows_below r)) (ap F same ∙ has.row.row) step in
          let found = counted-gather (λ p. node_links (place_of has.entries has.nodes has.links p)) 32 j (subst (λ xs. 0 < count j xs) (nodes-gather has.entries has.nodes has.links has.row.sets) inside) in
          inr (found.0, found.1, subst (λ r. ReachesPlace F (place_in r found.0) k) (sym has.row.row) (subst (λ q. ReachesPlace F q k) (sym (node-counted (place_of has.entries has.nodes has.links found.0) j found.2)) rest))

  -- what is reached below a position is reached
  reach-up : (left depth : ℕ) (a : Place) (E : List (Entry K)) → HasBelow cmp code F (suc left) depth a E → (p : ℕ) → p < 32 → (l : ℕ) → ReachesPlace F (place_below code F depth a p) l → ReachesPlace F a l
  unfolding IsTrie
  reach-up left depth Empty E has p low l down = down
  reach-up left depth (At x) E has p low l down = by_key (key_at F x) down
    where
      by_key : (o : Option K) → ReachesPlace F (lone_place code depth x o p) l → ⊥
      by_key None d = d
      by_key (Some k) d = by_test (nat_eq (digit_at (code k) depth) p) d
        where
          by_test : (b : Bool) → ReachesPlace F (cond b (At x) Empty) l → ⊥
          by_test true e = e
          by_test false e = e
  reach-up left depth (Node m) E has p low l down = by_place (place_of has.entries has.nodes has.links p) refl (subst (λ r. ReachesPlace F (place_in r p) l) has.row.row down)
    where
      by_place : (q : Place) → place_of has.entries has.nodes has.links p ≡ q → ReachesPlace F q l → ReachesRow F m l
      by_place Empty is d = absurd d
      by_place (At x) is d = absurd d
      by_place (Node j) is d =
          let inside = gather-counted (λ q. node_links (place_of has.entries has.nodes has.links q)) 32 j p low (counted-node (place_of has.entries has.nodes has.links p) j is) in
          below m j l (subst (λ r. 0 < count j (rows_below r)) (sym has.row.row) (subst (λ xs. 0 < count j xs) (sym (nodes-gather has.entries has.nodes has.links has.row.sets)) inside)) d

  module _ (left depth : ℕ) (a b : Place) (E D : List (Entry K)) (first : HasBelow cmp code F (suc left) depth a E) (second : HasBelow cmp code F (suc left) depth b D) where
    -- a row below a position of each is below the same
    pub one-position : (p q : ℕ) → p < 32 → q < 32 → (l : ℕ) → ReachesPlace F (place_below code F depth a p) l → ReachesPlace F (place_below code F depth b q) l → p ≡ q
    one-position p q low low' l down other =
        let u = under left (suc depth) _ _ (below-place cmp code F left depth a E first p low) l down in
        let v = under left (suc depth) _ _ (below-place cmp code F left depth b D second q low') l other in
        one-digit cmp code F left depth p q E D u.child v.child l u.trie v.trie (omega (arith, u.two)) u.down v.down

    -- and isn't the row of a place itself
    pub deeper : (p : ℕ) → p < 32 → (l : ℕ) → ReachesPlace F (place_below code F depth a p) l → b ≡ Node l → ⊥
    unfolding IsTrie
    deeper p low l down same =
        let u = under left (suc depth) _ _ (below-place cmp code F left depth a E first p low) l down in
        let row = subst (λ q. HasBelow cmp code F (suc left) depth q D) same second in
        stands-deeper cmp code F depth l row.entries row.nodes row.links (stands-reach cmp code F (suc depth) u.child l u.down (trie-stands cmp code F left (suc depth) u.child _ u.trie (omega (arith, u.two)))) row.row.row

    -- what is apart below a position is apart
    pub apart-up : (p : ℕ) → p < 32 → (l : ℕ) → ReachesPlace F (place_below code F depth a p) l → (¬ ReachesPlace F (place_below code F depth b p) l) → ReachesPlace F a l × (¬ ReachesPlace F b l)
    apart-up p low l down other = (
      reach-up left depth a E first p low l down,
      λ reached. elim (reach-down left depth b D second l reached) [
        | inl same ↦ deeper p low l down same
        | inr found ↦ other (subst (λ q. ReachesPlace F (place_below code F depth b q) l) (sym (one-position p found.0 low found.1 l down found.2)) found.2)
      ],
    )

  -- two places that may need rows: neither is empty, and they aren't one node
  abbrev pub Differ : Place → Place → Type 0
  Differ Empty b = ⊥
  Differ (At x) Empty = ⊥
  Differ (At x) (At y) = Unit {0}
  Differ (At x) (Node m) = Unit {0}
  Differ (Node l) Empty = ⊥
  Differ (Node l) (At y) = Unit {0}
  Differ (Node l) (Node m) = l ≢ m

  -- two entries may need rows without one apart
  abbrev pub spare_of : ℕ → Place → Place → ℕ
  spare_of left Empty b = 0
  spare_of left (At x) Empty = 0
  spare_of left (At x) (At y) = left + 2
  spare_of left (At x) (Node m) = 0
  spare_of left (Node l) b = 0

  spare-few : (left : ℕ) (a b : Place) → left ≤ 12 → spare_of left a b ≤ 14
  spare-few left Empty b low = omega arith
  spare-few left (At x) Empty low = omega arith
  spare-few left (At x) (At y) low = omega (arith, low)
  spare-few left (At x) (Node m) low = omega arith
  spare-few left (Node l) b low = omega arith

  module _ (k : Keeps) where
    look-differ : (a b : Place) → settled cmp F k a b ≡ None → Differ a b
    look-differ Empty b look = absurd (let bad : Some (cond k.second b Empty) ≡ None = look in cc)
    look-differ (At x) Empty look = absurd (let bad : Some (cond k.first (At x) Empty) ≡ None = look in cc)
    look-differ (At x) (At y) look = tt
    look-differ (At x) (Node m) look = tt
    look-differ (Node l) Empty look = absurd (let bad : Some (cond k.first (Node l) Empty) ≡ None = look in cc)
    look-differ (Node l) (At y) look = tt
    look-differ (Node l) (Node m) look = λ same. (let bad : Some (cond k.both (Node l) Empty) ≡ None = sym (ap (λ b. cond b (Some (cond k.both (Node l) Empty)) None) (eq-eqb l m same)) ∙ look in cc)

    unless-most : (o : Option Place) (f : ℕ → ℕ) (m : ℕ) → f 0 ≤ m → need_unless o f ≤ m
    unless-most None f m few = few
    unless-most (Some q) f m few = omega arith

    none-first : (q b : Place) (f : ℕ → ℕ) → q ≡ Empty → need_unless (settled cmp F k q b) f ≡ 0
    none-first q b f is = subst (λ r. need_unless (settled cmp F k r b) f ≡ 0) (sym is) refl

    none-second : (q b : Place) (f : ℕ → ℕ) → b ≡ Empty → need_unless (settled cmp F k q b) f ≡ 0
    none-second q b f is = subst (λ r. need_unless (settled cmp F k q r) f ≡ 0) (sym is) (by_place q)
      where
        by_place : (r : Place) → need_unless (settled cmp F k r Empty) f ≡ 0
        by_place Empty = refl
        by_place (At x) = refl
        by_place (Node l) = refl

    lone-cases : (depth x p : ℕ) (o : Option K) → (lone_place code depth x o p ≡ At x) ⊎ (lone_place code depth x o p ≡ Empty)
    lone-cases depth x p None = inr refl
    lone-cases depth x p (Some key) = by_test (nat_eq (digit_at (code key) depth) p)
      where
        by_test : (b : Bool) → (cond b (At x) Empty ≡ At x) ⊎ (cond b (At x) Empty ≡ Empty)
        by_test true = inl refl
        by_test false = inr refl

    module _ (most : ℕ) where
      abbrev need : ℕ → ℕ → Place → Place → ℕ
      need left depth a b = rows_need cmp code most F k left depth a b

      -- two entries need a row for each depth left, and two
      lone-few : (left depth x y : ℕ) → rows_need cmp code most F k left depth (At x) (At y) ≤ left + 2
      unfolding rows_need
      lone-few zero depth x y = omega (arith, filter-short (λ l. nat_eq (count l (y ∷ [])) 0) (x ∷ []), filter-short (λ l. nat_eq (count l (x ∷ [])) 0) (y ∷ []))
      lone-few (suc left) depth x y = omega (arith, by_key (key_at F x) refl (lone-few left (suc depth) x y))
        where
          total : ℕ
          total = sum_below 32 (position_need cmp code most F k left depth (At x) (At y))

          by_key : (o : Option K) → key_at F x ≡ o → rows_need cmp code most F k left (suc depth) (At x) (At y) ≤ left + 2 → total ≤ left + 2
          by_key None is rest = sum-one (position_need cmp code most F k left depth (At x) (At y)) 0 (left + 2) 32 (λ p other. none-first _ _ _ (ap (λ o. lone_place code depth x o p) is)) (omega (arith, none-first (lone_place code depth x (key_at F x) 0) (lone_place code depth y (key_at F y) 0) (λ _. rows_need cmp code most F k left (suc depth) (lone_place code depth x (key_at F x) 0) (lone_place code depth y (key_at F y) 0)) (ap (λ o. lone_place code depth x o 0) is)))
          by_key (Some key) is rest = sum-one (position_need cmp code most F k left depth (At x) (At y)) (digit_at (code key) depth) (left + 2) 32
              (λ p other. none-first _ _ _ (ap (λ o. lone_place code depth x o p) is ∙ ap (λ b. cond b (At x) Empty) (ne_eqb (digit_at (code key) depth) p (λ e. other (sym e)))))
              (by_places (place_below code F depth (At x) (digit_at (code key) depth)) (place_below code F depth (At y) (digit_at (code key) depth)) (lone-cases depth x (digit_at (code key) depth) (key_at F x)) (lone-cases depth y (digit_at (code key) depth) (key_at F y)))
            where
              by_places : (q r : Place) → (q ≡ At x) ⊎ (q ≡ Empty) → (r ≡ At y) ⊎ (r ≡ Empty) → need_unless (settled cmp F k q r) (λ _. rows_need cmp code most F k left (suc depth) q r) ≤ left + 2
              by_places q r (inl e) (inl f) =
                  subst (λ u. need_unless (settled cmp F k u r) (λ _. rows_need cmp code most F k left (suc depth) u r) ≤ left + 2) (sym e)
                  (subst (λ u. need_unless (settled cmp F k (At x) u) (λ _. rows_need cmp code most F k left (suc depth) (At x) u) ≤ left + 2) (sym f)
                  (unless-most (settled cmp F k (At x) (At y)) (λ _. rows_need cmp code most F k left (suc depth) (At x) (At y)) (left + 2) rest))
              by_places q r (inr e) either = omega (arith, none-first q r (λ _. rows_need cmp code most F k left (suc depth) q r) e)
              by_places q r (inl e) (inr f) = omega (arith, none-second q r (λ _. rows_need cmp code most F k left (suc depth) q r) f)

  module _ (left depth : ℕ) (a b : Place) (E D : List (Entry K)) (first : HasBelow cmp code F (suc left) depth a E) (second : HasBelow cmp code F (suc left) depth b D) (f : ℕ → ℕ) where
    -- different rows apart, each below one of the first positions
    record Upto (n : ℕ) : Type 0 where
      rows : List ℕ
      once : (l : ℕ) → count l rows ≤ 1
      apart : (l : ℕ) → 0 < count l rows → (p : ℕ) × (p < n) × ApartHere F (place_below code F depth a p) (place_below code F depth b p) l
      few : sum_below n f ≤ 512 * length rows + 14 * n

    -- what a position reaches
    Reached : ℕ → ℕ → Type 0
    Reached p l = ReachesPlace F (place_below code F depth a p) l ⊎ ReachesPlace F (place_below code F depth b p) l

    reached-apart : (p l : ℕ) → ApartHere F (place_below code F depth a p) (place_below code F depth b p) l → Reached p l
    unfolding Reached
    reached-apart p l (inl is) = inl is.0
    reached-apart p l (inr is) = inr is.0

    same-position : (p q : ℕ) → p < 32 → q < 32 → (l : ℕ) → Reached p l → Reached q l → p ≡ q
    unfolding Reached
    same-position p q low low' l (inl u) (inl v) = one-position left depth a a E E first first p q low low' l u v
    same-position p q low low' l (inl u) (inr v) = one-position left depth a b E D first second p q low low' l u v
    same-position p q low low' l (inr u) (inl v) = one-position left depth b a D E second first p q low low' l u v
    same-position p q low low' l (inr u) (inr v) = one-position left depth b b D D second second p q low low' l u v

    upto : ((p : ℕ) → p < 32 → Charged F (place_below code F depth a p) (place_below code F depth b p) (f p) 14) → (n : ℕ) → n ≤ 32 → Upto n
    unfolding sum_below
    upto each zero low = record { rows = []; once = λ l. omega arith; apart = λ l some. absurd (omega (arith, some)); few = omega arith }
    upto each (suc n) low = more n low (upto each n (omega (arith, low))) (each n (omega (arith, low)))
      where
        more : (n : ℕ) → suc n ≤ 32 → Upto n → Charged F (place_below code F depth a n) (place_below code F depth b n) (f n) 14 → Upto (suc n)
        more n low u c = record {
          rows = u.rows ++ c.rows;
          once = λ l. by_counts l (count l u.rows) (count l c.rows) refl refl;
          apart = λ l some. by_count l some (count l u.rows) refl;
          few = omega (arith, u.few, c.few, length-append u.rows c.rows);
        }
          where
            by_counts : (l i j : ℕ) → count l u.rows ≡ i → count l c.rows ≡ j → count l (u.rows ++ c.rows) ≤ 1
            by_counts l zero j is is' = omega (arith, count-append l u.rows c.rows, is, c.once l)
            by_counts l (suc i) zero is is' = omega (arith, count-append l u.rows c.rows, is', u.once l)
            by_counts l (suc i) (suc j) is is' =
                let before = u.apart l (omega (arith, is)) in
                let now = c.apart l (omega (arith, is')) in
                absurd (omega (arith, before.1, same-position before.0 n (omega (arith, before.1, low)) (omega (arith, low)) l (reached-apart before.0 l before.2) (reached-apart n l now)))

            by_count : (l : ℕ) → 0 < count l (u.rows ++ c.rows) → (i : ℕ) → count l u.rows ≡ i → (p : ℕ) × (p < suc n) × ApartHere F (place_below code F depth a p) (place_below code F depth b p) l
            by_count l some zero is = (n, omega arith, c.apart l (omega (arith, some, count-append l u.rows c.rows, is)))
            by_count l some (suc i) is = (let before = u.apart l (omega (arith, is)) in (before.0, omega (arith, before.1), before.2))

    -- a row of one place and those below its positions
    node-charged : (r : ℕ) → a ≡ Node r → a ≢ b → ((p : ℕ) → p < 32 → Charged F (place_below code F depth a p) (place_below code F depth b p) (f p) 14) → Charged F a b (1 + sum_below 32 f) 0
    unfolding Reached
    node-charged r is differ each = by_upto (upto each 32 (omega arith))
      where
        apart-row : ApartHere F a b r
        apart-row = inl (
          subst (λ q. ReachesPlace F q r) (sym is) (here r),
          λ down. elim (reach-down left depth b D second r down) [
            | inl same ↦ differ (is ∙ sym same)
            | inr found ↦ deeper left depth b a D E second first found.0 found.1 r found.2 is
          ],
        )

        not-below : (p : ℕ) → p < 32 → Reached p r → ⊥
        not-below p low reached = by_side reached
          where
            by_side : ReachesPlace F (place_below code F depth a p) r ⊎ ReachesPlace F (place_below code F depth b p) r → ⊥
            by_side (inl down) = deeper left depth a a E E first first p low r down is
            by_side (inr down) = deeper left depth b a D E second first p low r down is

        by_upto : Upto 32 → Charged F a b (1 + sum_below 32 f) 0
        by_upto u = record {
          rows = r ∷ u.rows;
          once = λ l. by_case l (cases_eq r l);
          apart = λ l some. by_row l some (cases_eq r l);
          few = omega (arith, u.few);
        }
          where
            fresh : count r u.rows ≡ 0
            fresh = by_count (count r u.rows) refl
              where
                by_count : (i : ℕ) → count r u.rows ≡ i → i ≡ 0
                by_count zero e = refl
                by_count (suc i) e = (let found = u.apart r (omega (arith, e)) in absurd (not-below found.0 found.1 (reached-apart found.0 r found.2)))

            by_case : (l : ℕ) → (r ≡ l) ⊎ (r ≢ l) → count l (r ∷ u.rows) ≤ 1
            by_case l (inl same) = subst (λ j. count j (r ∷ u.rows) ≤ 1) same (omega (arith, count-cons r r u.rows, one_at-same r, fresh))
            by_case l (inr other) = omega (arith, count-cons l r u.rows, one_at-other r l other, u.once l)

            by_row : (l : ℕ) → 0 < count l (r ∷ u.rows) → (r ≡ l) ⊎ (r ≢ l) → ApartHere F a b l
            by_row l some (inl same) = subst (ApartHere F a b) same apart-row
            by_row l some (inr other) = (let found = u.apart l (omega (arith, some, count-cons l r u.rows, one_at-other r l other)) in up found.0 found.1 found.2)
              where
                up : (p : ℕ) → p < 32 → ApartHere F (place_below code F depth a p) (place_below code F depth b p) l → ApartHere F a b l
                up p low (inl here_is) = inl (apart-up left depth a b E D first second p low l here_is.0 here_is.1)
                up p low (inr here_is) = inr (apart-up left depth b a D E second first p low l here_is.0 here_is.1)

  node-same : {l m : ℕ} → Node l ≡ Node m → l ≡ m
  node-same e = cc

  module _ (height : ℕ → ℕ) (falls : LeadsDown height (row_links F)) (most : ℕ) (k : Keeps) where
    -- what a position needs
    position-charged : (left depth : ℕ) (a b : Place) → left ≤ 12 → (Differ a b → Charged F a b (rows_need cmp code most F k left depth a b) (spare_of left a b))
        → Charged F a b (need_unless (settled cmp F k a b) (λ _. rows_need cmp code most F k left depth a b)) 14
    position-charged left depth a b low charged = by_answer (settled cmp F k a b) refl
      where
        by_answer : (o : Option Place) → settled cmp F k a b ≡ o → Charged F a b (need_unless o (λ _. rows_need cmp code most F k left depth a b)) 14
        by_answer (Some q) is = charged-none F a b 0 14 (omega arith)
        by_answer None is = (let c = charged (look-differ k a b is) in record { rows = c.rows; once = c.once; apart = c.apart; few = omega (arith, c.few, spare-few left a b low) })

    -- the parts of two places that are looked at further
    pub record AreBelow (left depth : ℕ) (a b : Place) (E D : List (Entry K)) : Type 0 where
      pub low : left ≤ 13
      pub first : HasBelow cmp code F left depth a E
      pub second : HasBelow cmp code F left depth b D
      pub fit : length E ≤ most
      pub other_fit : length D ≤ most

    at-position : (left depth : ℕ) (a b : Place) (E D : List (Entry K)) → AreBelow (suc left) depth a b E D → (p : ℕ) → p < 32
        → AreBelow left (suc depth) (place_below code F depth a p) (place_below code F depth b p) (part cmp code depth p E) (part cmp code depth p D)
    at-position left depth a b E D are p small = record {
      low = omega (arith, are.low);
      first = place-has cmp code F left (suc depth) _ _ (below-place cmp code F left depth a E are.first p small);
      second = place-has cmp code F left (suc depth) _ _ (below-place cmp code F left depth b D are.second p small);
      fit = omega (arith, are.fit, filter-short (λ (e : Entry K). nat_eq (digit_at (code e.key) depth) p) E);
      other_fit = omega (arith, are.other_fit, filter-short (λ (e : Entry K). nat_eq (digit_at (code e.key) depth) p) D);
    }

    -- what two places need is at most 512 rows for each row apart, and a few where both are entries
    pub rows-charged : (left depth : ℕ) (a b : Place) (E D : List (Entry K)) → AreBelow left depth a b E D → Differ a b → Charged F a b (rows_need cmp code most F k left depth a b) (spare_of left a b)
    unfolding rows_need IsTrie
    rows-charged left depth Empty b E D are differ = absurd differ
    rows-charged left depth (At x) Empty E D are differ = absurd differ
    rows-charged left depth (Node l) Empty E D are differ = absurd differ
    rows-charged left depth (At x) (At y) E D are differ = charged-none F (At x) (At y) _ _ (lone-few k most left depth x y)
    rows-charged zero depth (Node l) (Node m) E D are differ =
        chains-charged F height falls most l m are.first.entries are.second.entries are.first.rows are.second.rows (omega (arith, are.fit, same-length _ _ are.first.same)) (omega (arith, are.other_fit, same-length _ _ are.second.same))
    rows-charged zero depth (Node l) (At y) E D are differ = chain-charged F height falls most l y are.first.entries are.first.rows (omega (arith, are.fit, are.first.two))
    rows-charged zero depth (At x) (Node m) E D are differ =
        charged-turned F (Node m) (At x) _ _ 0 (omega arith) (chain-charged F height falls most m x are.second.entries are.second.rows (omega (arith, are.other_fit, are.second.two)))
    rows-charged (suc left) depth (Node l) (Node m) E D are differ =
        node-charged left depth (Node l) (Node m) E D are.first are.second (position_need cmp code most F k left depth (Node l) (Node m)) l refl (λ same. differ (node-same same))
        (λ p small. position-charged left (suc depth) _ _ (omega (arith, are.low)) (rows-charged left (suc depth) _ _ _ _ (at-position left depth (Node l) (Node m) E D are p small)))
    rows-charged (suc left) depth (Node l) (At y) E D are differ =
        node-charged left depth (Node l) (At y) E D are.first are.second (position_need cmp code most F k left depth (Node l) (At y)) l refl (λ same. absurd cc)
        (λ p small. position-charged left (suc depth) _ _ (omega (arith, are.low)) (rows-charged left (suc depth) _ _ _ _ (at-position left depth (Node l) (At y) E D are p small)))
    rows-charged (suc left) depth (At x) (Node m) E D are differ =
        charged-turned F (Node m) (At x) _ _ 0 refl
        (node-charged left depth (Node m) (At x) D E are.second are.first (position_need cmp code most F k left depth (At x) (Node m)) m refl (λ same. absurd cc)
        (λ p small. charged-turned F _ _ _ _ 14 refl (position-charged left (suc depth) _ _ (omega (arith, are.low)) (rows-charged left (suc depth) _ _ _ _ (at-position left depth (At x) (Node m) E D are p small)))))

module _ {K : Type 0} (F : Forms K) where
  -- what two roots need is at most 512 for each row that one reaches and the other doesn't
  pub roots-few : (a b n : ℕ) → Charged F (Node a) (Node b) n 0 → (rows others : List ℕ) → HasApart F a b rows → HasApart F b a others → n ≤ 512 * (length rows + length others)
  roots-few a b n c rows others has has' =
      omega (arith, c.few, once-fits c.rows (rows ++ others) c.once (λ k some. among k (c.apart k some)), length-append rows others)
    where
      among : (k : ℕ) → ApartHere F (Node a) (Node b) k → 0 < count k (rows ++ others)
      among k (inl is) = omega (arith, has k is, count-append k rows others)
      among k (inr is) = omega (arith, has' k is, count-append k rows others)
