-- The rows below a row of a trie: which they are, and which of two tries have them.
use Rattle.std.proofs.Common.{◌≡◌, ◌≢◌, ℕ, zero, suc, ◌+◌, ◌-◌, ◌<◌, ◌≤◌, List, [], ◌∷◌, ◌++◌, length, drop, get_or, map, refl, ap, sym, subst, ◌∙◌, arith, Bool, true, false, cond, Option, Some, None, inl, inr, ◌⊎◌, length-drop}
use Rattle.std.specs.Prelude.{nat_eq, option_to_list}
use Rattle.std.specs.List.{filter, flat_map}
use Rattle.std.specs.declared.cmp.Ordering.{Ordering}
use Rattle.std.proofs.lemmas.Bool.{cases_eq, eqb-true}
use Rattle.std.proofs.lemmas.List.{get_or-drop, length-map}
use Rattle.elem_core.specs.Codes.{digit_at}
use Rattle.node_heap.specs.Links.{count, HasLink, Reaches, here, below}
use Rattle.node_heap.specs.Forms.{Forms, node, trie, chain}
use Rattle.node_heap.proofs.BuildLemmas.{count-cons, count-append}
use Rattle.node_heap.proofs.Edited.{count-at}
use Rattle.node_heap.proofs.OwnerLemmas.{found-at}
use Rattle.node_heap.proofs.Reach.{Reaches-trans}
use Rattle.champ_chain.specs.Entry.{Entry}
use Rattle.champ_chain.specs.Chain.{AreChainRows}
use Rattle.champ_chain.proofs.CopyLemmas.{one_at-same, one_at-other}
use Rattle.champ_chain.proofs.SetLemmas.{same-count, same-length, Among}
use Rattle.champ_chain.proofs.SpotLemmas.{first-row, same-key}
use Rattle.champ_trie.specs.Bits.{rank}
use Rattle.champ_trie.specs.Trie.{IsPlace, IsTrie, IsTrieRow, part}
use Rattle.champ_trie.specs.Walk.{own_entries, rows_below, rows_from, entries_of, row_links, ReachesRow}
use Rattle.champ_trie.proofs.BitLemmas.{rank-onto}
use Rattle.champ_trie.proofs.PlaceLemmas.{place-node, node-alone}
use Rattle.champ_trie.proofs.WalkLemmas.{trie-walk, trie-entries}

-- a link that is counted in a list of one
pub one-counted : (k x : ℕ) → 0 < count k (x ∷ []) → x ≡ k
one-counted k x some = by_case (cases_eq x k)
  where
    by_case : (x ≡ k) ⊎ (x ≢ k) → x ≡ k
    by_case (inl same) = same
    by_case (inr other) = absurd (omega (arith, some, count-cons k x [], one_at-other x k other))

-- a counted link stands at some place
pub counted-at : (k : ℕ) (xs : List ℕ) → 0 < count k xs → (i : ℕ) × (i < length xs) × (get_or xs i 0 ≡ k)
counted-at k xs some = found-at xs k some

pub at-counted : (xs : List ℕ) (i : ℕ) → i < length xs → 0 < count (get_or xs i 0) xs
at-counted xs i low = count-at xs i (get_or xs i 0) low refl

-- what is in one of the lists is in all of them
flat-counted : (f : ℕ → List ℕ) (xs : List ℕ) (j k : ℕ) → 0 < count j xs → 0 < count k (f j) → 0 < count k (flat_map f xs)
flat-counted f [] j k some inside = absurd (omega (arith, some))
flat-counted f (x ∷ xs) j k some inside = by_case (cases_eq x j) (λ more. flat-counted f xs j k more inside)
  where
    by_case : (x ≡ j) ⊎ (x ≢ j) → (0 < count j xs → 0 < count k (flat_map f xs)) → 0 < count k (f x ++ flat_map f xs)
    by_case (inl same) again = omega (arith, count-append k (f x) (flat_map f xs), subst (λ y. 0 < count k (f y)) (sym same) inside)
    by_case (inr other) again = omega (arith, count-append k (f x) (flat_map f xs), again (omega (arith, some, count-cons j x xs, one_at-other x j other)))

-- and what is in all is in one of them
counted-flat : (f : ℕ → List ℕ) (xs : List ℕ) (k : ℕ) → 0 < count k (flat_map f xs) → (j : ℕ) × (0 < count j xs) × (0 < count k (f j))
counted-flat f [] k some = absurd (omega (arith, some))
counted-flat f (x ∷ xs) k some = by_count (count k (f x)) refl (counted-flat f xs k)
  where
    by_count : (n : ℕ) → count k (f x) ≡ n → (0 < count k (flat_map f xs) → (j : ℕ) × (0 < count j xs) × (0 < count k (f j))) → (j : ℕ) × (0 < count j (x ∷ xs)) × (0 < count k (f j))
    by_count zero is again = (let found = again (omega (arith, some, count-append k (f x) (flat_map f xs), is)) in (found.0, omega (arith, found.1, count-cons found.0 x xs), found.2))
    by_count (suc n) is again = (x, omega (arith, count-cons x x xs, one_at-same x), omega (arith, is))

module _ {X : Type 0} where
  pub among-passes : (q : X → Bool) (x : X) (xs : List X) → Among x (filter q xs) → q x ≡ true
  among-passes q x [] nowhere = absurd nowhere
  among-passes q x (y ∷ ys) among = by_test (q y) refl among (among-passes q x ys)
    where
      by_test : (b : Bool) → q y ≡ b → Among x (cond b (y ∷ filter q ys) (filter q ys)) → (Among x (filter q ys) → q x ≡ true) → q x ≡ true
      by_test true is (inl same) again = subst (λ z. q z ≡ true) same is
      by_test true is (inr i) again = again i
      by_test false is i again = again i

module _ {K : Type 0} where
  counted-entry : (x : ℕ) (E : List (Entry K)) → 0 < count x (map (λ e. e.link) E) → (e : Entry K) × Among e E × (e.link ≡ x)
  counted-entry x [] some = absurd (omega (arith, some))
  counted-entry x (e ∷ es) some = by_case (cases_eq e.link x) (counted-entry x es)
    where
      by_case : (e.link ≡ x) ⊎ (e.link ≢ x) → (0 < count x (map (λ e. e.link) es) → (d : Entry K) × Among d es × (d.link ≡ x)) → (d : Entry K) × Among d (e ∷ es) × (d.link ≡ x)
      by_case (inl same) again = (e, inl refl, same)
      by_case (inr other) again = (let found = again (omega (arith, some, count-cons x e.link (map (λ e. e.link) es), one_at-other e.link x other)) in (found.0, inr found.1, found.2))

module _ {K : Type 0} (F : Forms K) where
  -- the row so many rows further
  pub row_after : ℕ → ℕ → ℕ
  row_after zero l = l
  row_after (suc n) l = row_after n (get_or (rows_below (F l)) 0 0)

  next-below : (l x k : ℕ) → F l ≡ Some (node chain (x ∷ option_to_list (Some k))) → get_or (rows_below (F l)) 0 0 ≡ k
  next-below l x k row = ap (λ r. get_or (rows_below r) 0 0) row

  -- the row after the next one
  after-more : (n l k x m : ℕ) → row_after n l ≡ k → F k ≡ Some (node chain (x ∷ m ∷ [])) → row_after (suc n) l ≡ m
  unfolding row_after
  after-more zero l k x m at row = ap (λ j. get_or (rows_below (F j)) 0 0) at ∙ next-below k x m row
  after-more (suc n) l k x m at row = after-more n (get_or (rows_below (F l)) 0 0) k x m at row

  -- a row that a chain reaches is so many rows further
  pub chain-reach : (l k : ℕ) (es : List (Entry K)) → Reaches (row_links F) l k → AreChainRows F (Some l) es → (n : ℕ) × (row_after n l ≡ k) × AreChainRows F (Some k) (drop n es)
  unfolding row_after
  chain-reach _ _ es (here l) rows = (0, refl, rows)
  chain-reach _ _ es (below l j k has rest) rows =
      let at = first-row F l es rows in
      let is : 0 < count j (option_to_list at.next) = subst (λ r. 0 < count j (rows_below r)) at.row has in
      let next : at.next ≡ Some j = only at.next is in
      let row : F l ≡ Some (node chain (at.first.link ∷ option_to_list (Some j))) = at.row ∙ ap (λ n. Some (node chain (at.first.link ∷ option_to_list n))) next in
      let again = chain-reach j k at.others rest (subst (λ n. AreChainRows F n at.others) next at.rows) in (
        suc again.0,
        ap (row_after again.0) (next-below l at.first.link j row) ∙ again.1,
        subst (λ xs. AreChainRows F (Some k) (drop (suc again.0) xs)) (sym at.whole) again.2,
      )
    where
      only : (next : Option ℕ) → 0 < count j (option_to_list next) → next ≡ Some j
      only None is = absurd (omega (arith, is))
      only (Some i) is = ap Some (one-counted j i is)

  -- an entry of a row that is reached so
  pub record Under (k x : ℕ) : Type 0 where
    pub row : ℕ
    pub down : ReachesRow F k row
    pub own : 0 < count x (own_entries (F row))

  pub under-trans : (k j x : ℕ) → ReachesRow F k j → Under j x → Under k x
  under-trans k j x down under = record { row = under.row; down = Reaches-trans (row_links F) k j under.row down under.down; own = under.own }

  -- the rows of a walk are those that are reached
  pub rows-reached : (a l r : ℕ) → 0 < count r (rows_from a F l) → ReachesRow F l r
  unfolding rows_from
  rows-reached zero l r some = absurd (omega (arith, some))
  rows-reached (suc a) l r some = by_case (cases_eq l r) (λ more. let found = counted-flat (rows_from a F) (rows_below (F l)) r more in below l found.0 r found.1 (rows-reached a found.0 r found.2))
    where
      by_case : (l ≡ r) ⊎ (l ≢ r) → (0 < count r (flat_map (rows_from a F) (rows_below (F l))) → ReachesRow F l r) → ReachesRow F l r
      by_case (inl same) again = subst (ReachesRow F l) same (here l)
      by_case (inr other) again = again (omega (arith, some, count-cons r l (flat_map (rows_from a F) (rows_below (F l))), one_at-other l r other))

  pub reached-rows : (l r : ℕ) → ReachesRow F l r → (n : ℕ) × ((a : ℕ) → n ≤ a → 0 < count r (rows_from a F l))
  unfolding rows_from
  reached-rows _ _ (here l) = (1, first)
    where
      first : (a : ℕ) → 1 ≤ a → 0 < count l (rows_from a F l)
      first zero low = absurd (omega arith)
      first (suc a) low = omega (arith, count-cons l l (flat_map (rows_from a F) (rows_below (F l))), one_at-same l)
  reached-rows _ _ (below l k r has rest) = (let found = reached-rows k r rest in (suc found.0, more found.0 found.1))
    where
      more : (n : ℕ) → ((a : ℕ) → n ≤ a → 0 < count r (rows_from a F k)) → (a : ℕ) → suc n ≤ a → 0 < count r (rows_from a F l)
      more n again zero low = absurd (omega arith)
      more n again (suc a) low = omega (arith, count-cons r l (flat_map (rows_from a F) (rows_below (F l))), flat-counted (rows_from a F) (rows_below (F l)) k r has (again a (omega arith)))

module _ {K : Type 0} (cmp : K → K → Ordering) (code : K → ℕ) (F : Forms K) where
  -- what stands under a trie is one of its entries
  pub under-entry : (left d l : ℕ) (E : List (Entry K)) (x : ℕ) → IsTrie cmp code F left d l E → Under F l x → (e : Entry K) × Among e E × (e.link ≡ x)
  under-entry left d l E x is under =
      let found = reached-rows F l under.row under.down in
      let a : ℕ = found.0 + (left + length E) in
      let walk = trie-walk cmp code F left d l E is a (length E) (omega arith) (omega arith) in
      let inside : 0 < count x (entries_of F (rows_from a F l)) = flat-counted (λ r. own_entries (F r)) (rows_from a F l) under.row x (found.1 a (omega arith)) under.own in
      counted-entry x E (omega (arith, inside, same-count (λ k. nat_eq k x) _ _ walk))

  -- something stands under a trie of some entries
  pub trie-under : (left d l : ℕ) (E : List (Entry K)) → IsTrie cmp code F left d l E → 1 ≤ length E → (x : ℕ) × Under F l x
  trie-under left d l E is some =
      let a : ℕ = left + length E in
      let walk = trie-walk cmp code F left d l E is a (length E) (omega arith) (omega arith) in
      let xs = entries_of F (rows_from a F l) in
      let long : 0 < length xs = omega (arith, some, same-length _ _ walk, length-map E (λ e. e.link)) in
      let found = counted-flat (λ r. own_entries (F r)) (rows_from a F l) (get_or xs 0 0) (at-counted xs 0 long) in
      (get_or xs 0 0, record { row = found.0; down = rows-reached F a l found.0 found.1; own = found.2 })

  -- the trie row of a depth or deeper with some entries, or a chain row
  abbrev pub Stands : ℕ → ℕ → Type 0
  Stands d k =
      ((left : ℕ) × (depth : ℕ) × (E : List (Entry K)) × (d ≤ depth) × (1 ≤ length E) × IsTrie cmp code F (suc left) depth k E)
      ⊎ ((e : Entry K) × (es : List (Entry K)) × AreChainRows F (Some k) (e ∷ es))

  pub trie-stands : (left d k : ℕ) (E : List (Entry K)) → IsTrie cmp code F left d k E → 1 ≤ length E → Stands d k
  unfolding IsTrie
  trie-stands zero d k E is some = (let at = first-row F k is.entries is.rows in inr (at.first, at.others, subst (AreChainRows F (Some k)) at.whole is.rows))
  trie-stands (suc left) d k E is some = inl (left, d, E, omega arith, some, is)

  pub stands-under : (d k : ℕ) → Stands d k → (x : ℕ) × Under F k x
  stands-under d k (inl stands) = trie-under (suc stands.0) stands.1 k stands.2 stands.5 stands.4
  stands-under d k (inr rows) =
      let at = first-row F k (rows.0 ∷ rows.1) rows.2 in
      (at.first.link, record { row = k; down = here k; own = subst (λ r. 0 < count at.first.link (own_entries r)) (sym at.row) (omega (arith, count-cons at.first.link at.first.link [], one_at-same at.first.link)) })

  -- a child of a trie row, by its place among the links
  pub record ChildAt (left d e n i k : ℕ) (E : List (Entry K)) : Type 0 where
    pub position : ℕ
    pub low : position < 32
    pub at : i ≡ rank e 32 + rank n position
    pub two : 2 ≤ length (part cmp code d position E)
    pub trie : IsTrie cmp code F left (suc d) k (part cmp code d position E)

  module _ (left d l : ℕ) (E : List (Entry K)) (is : IsTrieRow cmp code F d l E (λ k P. IsTrie cmp code F left (suc d) k P)) where
    pub child-at : (i : ℕ) → rank is.entries 32 ≤ i → i < length is.links → ChildAt left d is.entries is.nodes i (get_or is.links i 0) E
    child-at i from low =
        let at = rank-onto is.nodes 32 (i - rank is.entries 32) (omega (arith, low, from, is.row.sets.count)) in
        let place : i ≡ rank is.entries 32 + rank is.nodes at.0 = omega (arith, at.3, from) in
        let stands = subst (λ q. IsPlace F (λ k P. IsTrie cmp code F left (suc d) k P) q (part cmp code d at.0 E)) (place-node is.entries is.nodes is.links at.0 (node-alone is.entries is.nodes is.links at.0 at.1 is.row.sets at.2) at.2) (is.places at.0 at.1) in
        record {
          position = at.0;
          low = at.1;
          at = place;
          two = stands.0;
          trie = subst (λ j. IsTrie cmp code F left (suc d) (get_or is.links j 0) (part cmp code d at.0 E)) (sym place) stands.1;
        }

    -- a row right below is a child
    pub link-child : (k : ℕ) → HasLink (row_links F) l k → (i : ℕ) × (rank is.entries 32 ≤ i) × (i < length is.links) × (get_or is.links i 0 ≡ k)
    link-child k has =
        let inside : 0 < count k (drop (rank is.entries 32) is.links) = subst (λ r. 0 < count k (rows_below r)) is.row.row has in
        let found = counted-at k (drop (rank is.entries 32) is.links) inside in
        (rank is.entries 32 + found.0, omega arith, omega (arith, found.1, length-drop (rank is.entries 32) is.links), sym (get_or-drop (rank is.entries 32) is.links found.0 0) ∙ found.2)

    pub child-stands : (i : ℕ) → rank is.entries 32 ≤ i → i < length is.links → Stands (suc d) (get_or is.links i 0)
    child-stands i from low = (let child = child-at i from low in trie-stands left (suc d) (get_or is.links i 0) _ child.trie (omega (arith, child.two)))

    pub child-link : (i : ℕ) → rank is.entries 32 ≤ i → i < length is.links → HasLink (row_links F) l (get_or is.links i 0)
    child-link i from low =
        let c = rank is.entries 32 in
        let same : get_or (drop c is.links) (i - c) 0 ≡ get_or is.links i 0 = get_or-drop c is.links (i - c) 0 ∙ ap (λ j. get_or is.links j 0) (let e : c + (i - c) ≡ i = omega (arith, from) in e) in
        let inside = at-counted (drop c is.links) (i - c) (omega (arith, from, low, length-drop c is.links)) in
        subst (λ r. 0 < count (get_or is.links i 0) (rows_below r)) (sym is.row.row) (subst (λ k. 0 < count k (drop c is.links)) same inside)

  pub trie-opened : (left d l : ℕ) (E : List (Entry K)) → IsTrie cmp code F (suc left) d l E → IsTrieRow cmp code F d l E (λ k P. IsTrie cmp code F left (suc d) k P)
  unfolding IsTrie
  trie-opened left d l E is = is

  stands-weaker : (c d k : ℕ) → c ≤ d → Stands d k → Stands c k
  stands-weaker c d k low (inl stands) = inl (stands.0, stands.1, stands.2, omega (arith, low, stands.3), stands.4, stands.5)
  stands-weaker c d k low (inr rows) = inr rows

  stands-link : (d k j : ℕ) → HasLink (row_links F) k j → Stands d k → Stands d j
  stands-link d k j has (inl stands) =
      let is = trie-opened stands.0 stands.1 k stands.2 stands.5 in
      let child = link-child stands.0 stands.1 k stands.2 is j has in
      stands-weaker d (suc stands.1) j (omega (arith, stands.3)) (subst (Stands (suc stands.1)) child.3 (child-stands stands.0 stands.1 k stands.2 is child.0 child.1 child.2))
  stands-link d k j has (inr rows) =
      let at = first-row F k (rows.0 ∷ rows.1) rows.2 in
      by_next at.next at.others at.rows (subst (λ r. 0 < count j (rows_below r)) at.row has)
    where
      by_rows : (i : ℕ) (es : List (Entry K)) → AreChainRows F (Some i) es → Stands d i
      by_rows i es are = (let at = first-row F i es are in inr (at.first, at.others, subst (AreChainRows F (Some i)) at.whole are))

      by_next : (next : Option ℕ) (es : List (Entry K)) → AreChainRows F next es → 0 < count j (option_to_list next) → Stands d j
      by_next None es are some = absurd (omega (arith, some))
      by_next (Some i) es are some = subst (Stands d) (one-counted j i some) (by_rows i es are)

  pub stands-reach : (d k j : ℕ) → ReachesRow F k j → Stands d k → Stands d j
  stands-reach d _ _ (here k) stands = stands
  stands-reach d _ _ (below k i j has rest) stands = stands-reach d i j rest (stands-link d k i has stands)

  -- a row deeper down is no row of this depth
  pub stands-deeper : (d k e n : ℕ) (ls : List ℕ) → Stands (suc d) k → F k ≡ Some (node (trie d e n) ls) → ⊥
  stands-deeper d k e n ls (inl stands) row =
      let is = trie-opened stands.0 stands.1 k stands.2 stands.5 in
      let both : Some (node (trie stands.1 is.entries is.nodes) is.links) ≡ Some (node (trie d e n) ls) = sym is.row.row ∙ row in
      let same : stands.1 ≡ d = cc in
      omega (arith, same, stands.3)
  stands-deeper d k e n ls (inr rows) row =
      let at = first-row F k (rows.0 ∷ rows.1) rows.2 in
      let both : Some (node chain (at.first.link ∷ option_to_list at.next)) ≡ Some (node (trie d e n) ls) = sym at.row ∙ row in
      cc

  -- a row below a child of one trie and a child of another has both children's digit
  pub one-digit : (left d p q : ℕ) (E D : List (Entry K)) (i j k : ℕ) → IsTrie cmp code F left (suc d) i (part cmp code d p E) → IsTrie cmp code F left (suc d) j (part cmp code d q D) → 1 ≤ length (part cmp code d p E)
      → ReachesRow F i k → ReachesRow F j k → p ≡ q
  one-digit left d p q E D i j k first second some down other =
      let stands = stands-reach (suc d) i k down (trie-stands left (suc d) i (part cmp code d p E) first some) in
      let found = stands-under (suc d) k stands in
      let e = under-entry left (suc d) i (part cmp code d p E) found.0 first (under-trans F i k found.0 down found.1) in
      let e' = under-entry left (suc d) j (part cmp code d q D) found.0 second (under-trans F j k found.0 other found.1) in
      let same : e.0.key ≡ e'.0.key =
      same-key F e.0.link e'.0.link e.0.key e'.0.key (e.2 ∙ sym e'.2) (trie-entries cmp code F left (suc d) i (part cmp code d p E) first e.0 e.1) (trie-entries cmp code F left (suc d) j (part cmp code d q D) second e'.0 e'.1) in
      sym (eqb-true (digit_at (code e.0.key) d) p (among-passes (λ (a : Entry K). nat_eq (digit_at (code a.key) d) p) e.0 E e.1))
      ∙ ap (λ y. digit_at (code y) d) same
      ∙ eqb-true (digit_at (code e'.0.key) d) q (among-passes (λ (a : Entry K). nat_eq (digit_at (code a.key) d) q) e'.0 D e'.1)

-- a list without one place of a link
module _ (x : ℕ) where
  record Without (ys : List ℕ) : Type 0 where
    rest : List ℕ
    number : length ys ≡ suc (length rest)
    kept : (k : ℕ) → x ≢ k → count k rest ≡ count k ys

  without : (ys : List ℕ) → 0 < count x ys → Without ys
  without [] some = absurd (omega (arith, some))
  without (y ∷ ys) some = by_case (cases_eq y x) (without ys)
    where
      by_case : (y ≡ x) ⊎ (y ≢ x) → (0 < count x ys → Without ys) → Without (y ∷ ys)
      by_case (inl same) again = record { rest = ys; number = refl; kept = λ k other. omega (arith, count-cons k y ys, one_at-other y k (λ e. other (sym same ∙ e))) }
      by_case (inr differs) again =
          let less = again (omega (arith, some, count-cons x y ys, one_at-other y x differs)) in
          record { rest = y ∷ less.rest; number = omega (arith, less.number); kept = λ k other. omega (arith, count-cons k y ys, count-cons k y less.rest, less.kept k other) }

-- different links that are all in a list are no more than the list has
pub once-fits : (xs ys : List ℕ) → ((k : ℕ) → count k xs ≤ 1) → ((k : ℕ) → 0 < count k xs → 0 < count k ys) → length xs ≤ length ys
once-fits [] ys once inside = omega arith
once-fits (x ∷ xs) ys once inside =
    let less = without x ys (inside x (omega (arith, count-cons x x xs, one_at-same x))) in
    let rest = once-fits xs less.rest (λ k. omega (arith, once k, count-cons k x xs)) (λ k some. by_case k some less.rest (cases_eq x k) (less.kept k)) in
    omega (arith, rest, less.number)
  where
    by_case : (k : ℕ) → 0 < count k xs → (rest : List ℕ) → (x ≡ k) ⊎ (x ≢ k) → (x ≢ k → count k rest ≡ count k ys) → 0 < count k rest
    by_case k some rest (inl same) kept = absurd (omega (arith, subst (λ j. 0 < count j xs) (sym same) some, once x, count-cons x x xs, one_at-same x))
    by_case k some rest (inr differs) kept = omega (arith, kept differs, inside k (omega (arith, some, count-cons k x xs)))
