-- Two trie rows of one depth side by side.
use Rattle.std.proofs.Common.{◌≡◌, ◌≢◌, ℕ, zero, suc, ◌+◌, ◌-◌, ◌<◌, ◌≤◌, List, [], ◌∷◌, ◌++◌, length, take, get_or, map, refl, ap, sym, subst, ◌∙◌, arith, Some, IsSome, inl, inr, ◌⊎◌}
use Rattle.std.specs.List.{All, AllZip}
use Rattle.std.specs.Cmp.{IsTotalOrder, tied_itself}
use Rattle.std.specs.declared.cmp.Ordering.{Ordering}
use Rattle.std.proofs.lemmas.Bool.{cases_eq, cases_lt}
use Rattle.std.proofs.lemmas.List.{get_or-take, length-take}
use Rattle.std.proofs.lemmas.List.Elements.{All-filter, All-map, All-head, All-tail, All-cons, All-nil}
use Rattle.elem_core.specs.declared.codes.TheConstants.{DEEPEST, LEVELS}
use Rattle.node_heap.specs.Links.{count, HasLink, here, below}
use Rattle.node_heap.specs.Forms.{Forms, Kind, node, trie}
use Rattle.node_heap.proofs.BuildLemmas.{count-cons, count-append}
use Rattle.champ_chain.specs.Entry.{Entry, SameSet, key_at, key_of}
use Rattle.champ_chain.proofs.CopyLemmas.{one_at-same, one_at-other}
use Rattle.champ_chain.proofs.SetLemmas.{same-sym, same-refl, Among}
use Rattle.champ_trie.specs.Bits.{rank}
use Rattle.champ_trie.specs.Trie.{IsTrie, IsTrieRow, part}
use Rattle.champ_trie.specs.Walk.{own_entries, rows_from, entries_of, row_links, ReachesRow}
use Rattle.champ_trie.proofs.CanonLemmas.{Match, AreMatched, tries-match}
use Rattle.champ_trie.proofs.WalkLemmas.{trie-walk}
use Rattle.champ_trie.proofs.PlaceLemmas.{sets-short}
use Rattle.champ_kinds.proofs.ZipLemmas.{all-turned}
use Rattle.same_value.specs.Congruent.{Congruent, AreCongruent, congruent_entries, congruent_rows, IsFrom, IsChainFrom}
use Rattle.same_value.specs.Apart.{IsApart, Spends}
use Rattle.same_value.proofs.CongruentLemmas.{congruent-zip, congruent-at, congruent-by, congruent-take, links-congruent, entries-congruent}
use Rattle.same_value.proofs.Zips.{zip-at}
use Rattle.champ_trie.proofs.CallerLemmas.{one-counted, child-at, link-child, child-stands, child-link, stands-reach, stands-deeper, one-digit, Stands, trie-opened}

module _ {X : Type 0} (P : X → Type 0) where
  pub all-left : (xs ys : List X) → All P (xs ++ ys) → All P xs
  all-left [] ys all = All-nil P
  all-left (x ∷ xs) ys all = All-cons P x xs (All-head P x (xs ++ ys) all) (all-left xs ys (All-tail P x (xs ++ ys) all))

  pub all-right : (xs ys : List X) → All P (xs ++ ys) → All P ys
  all-right [] ys all = all
  all-right (x ∷ xs) ys all = all-right xs ys (All-tail P x (xs ++ ys) all)

module _ {K : Type 0} (F : Forms K) where
  -- different rows apart, each the row itself or below a child before a place
  pub record Apart (l m from place : ℕ) (links rows : List ℕ) : Type 0 where
    pub once : (k : ℕ) → count k rows ≤ 1
    pub apart : (k : ℕ) → 0 < count k rows → IsApart F l m k
    pub origin : (k : ℕ) → 0 < count k rows → (l ≡ k) ⊎ ((j : ℕ) × (from ≤ j) × (j < place) × ReachesRow F (get_or links j 0) k)

  pub apart-none : (l m from place : ℕ) (links : List ℕ) → ¬ ReachesRow F m l → Apart l m from place links (l ∷ [])
  apart-none l m from place links other = record {
    once = λ k. by_case k (cases_eq l k);
    apart = λ k some. subst (IsApart F l m) (only k some) (here l, other);
    origin = λ k some. inl (only k some);
  }
    where
      only : (k : ℕ) → 0 < count k (l ∷ []) → l ≡ k
      only k some = one-counted k l some

      by_case : (k : ℕ) → (l ≡ k) ⊎ (l ≢ k) → count k (l ∷ []) ≤ 1
      by_case k (inl same) = subst (λ j. count j (l ∷ []) ≤ 1) same (omega (arith, count-cons l l [], one_at-same l))
      by_case k (inr differs) = omega (arith, count-cons k l [], one_at-other l k differs)

module _ {K : Type 0} (cmp : K → K → Ordering) (code : K → ℕ) (F : Forms K) where
  -- the row itself is reached, or a row below it
  pub reach-step : (l k : ℕ) → ReachesRow F l k → (l ≡ k) ⊎ ((j : ℕ) × HasLink (row_links F) l j × ReachesRow F j k)
  reach-step _ _ (here l) = inl refl
  reach-step _ _ (below l j k has rest) = inr (j, has, rest)

  module _ (left d l m : ℕ) (E D : List (Entry K)) (is : IsTrieRow cmp code F d l E (λ k P. IsTrie cmp code F left (suc d) k P)) (at : IsTrieRow cmp code F d m D (λ k P. IsTrie cmp code F left (suc d) k P)) where
    -- a row below a child is no row of the parent's depth
    pub lower : (i : ℕ) → rank is.entries 32 ≤ i → i < length is.links → (k : ℕ) → ReachesRow F (get_or is.links i 0) k → k ≢ m
    lower i from low k down same =
        stands-deeper cmp code F d k at.entries at.nodes at.links (stands-reach cmp code F (suc d) (get_or is.links i 0) k down (child-stands cmp code F left d l E is i from low)) (ap F same ∙ at.row.row)

    -- the row is none below the other's children
    pub unreached : l ≢ m → ¬ ReachesRow F m l
    unreached other down = elim (reach-step m l down) [
      | inl same ↦ other (sym same)
      | inr step ↦
          let child = link-child cmp code F left d m D at step.0 step.1 in
          stands-deeper cmp code F d l is.entries is.nodes is.links (stands-reach cmp code F (suc d) step.0 l step.2 (subst (Stands cmp code F (suc d)) child.3 (child-stands cmp code F left d m D at child.0 child.1 child.2))) is.row.row
    ]

    module _ (entries : is.entries ≡ at.entries) (nodes : is.nodes ≡ at.nodes) where
      -- a row that a child of each reaches is below the same place
      pub one-place : (i j : ℕ) → rank is.entries 32 ≤ i → i < length is.links → rank at.entries 32 ≤ j → j < length at.links → (k : ℕ) → ReachesRow F (get_or is.links i 0) k → ReachesRow F (get_or at.links j 0) k → i ≡ j
      one-place i j from low from' low' k down other =
          let a = child-at cmp code F left d l E is i from low in
          let b = child-at cmp code F left d m D at j from' low' in
          let p : a.position ≡ b.position = one-digit cmp code F left d a.position b.position E D (get_or is.links i 0) (get_or at.links j 0) k a.trie b.trie (omega (arith, a.two)) down other in
          omega (arith, a.at, b.at, ap (rank is.nodes) p, ap (λ e. rank e 32) entries, ap (λ n. rank n b.position) nodes)

      pub as-many : length is.links ≡ length at.links
      as-many = omega (arith, is.row.sets.count, at.row.sets.count, ap (λ e. rank e 32) entries, ap (λ n. rank n 32) nodes)

  module _ (left d l m : ℕ) (E D : List (Entry K)) (is : IsTrieRow cmp code F d l E (λ k P. IsTrie cmp code F left (suc d) k P)) (at : IsTrieRow cmp code F d m D (λ k P. IsTrie cmp code F left (suc d) k P))
      (entries : is.entries ≡ at.entries) (nodes : is.nodes ≡ at.nodes) (place : ℕ) (rows : List ℕ) (from : rank is.entries 32 ≤ place) (low : place < length is.links) (before : Apart F l m (rank is.entries 32) place is.links rows)
      (old new spare : ℕ) (spends : Spends F (get_or is.links place 0) (get_or at.links place 0) old new spare) where
    -- the other row reaches none of the rows below the child
    child-apart : (k : ℕ) → 0 < count k spends.rows → IsApart F l m k
    child-apart k some =
        let here_is = spends.apart k some in (
          below l (get_or is.links place 0) k (child-link cmp code F left d l E is place from low) here_is.0,
          λ down. elim (reach-step m k down) [
            | inl same ↦ lower left d l m E D is at place from low k here_is.0 (sym same)
            | inr step ↦
                let child = link-child cmp code F left d m D at step.0 step.1 in
                let other : ReachesRow F (get_or at.links child.0 0) k = subst (λ j. ReachesRow F j k) (sym child.3) step.2 in
                let same : place ≡ child.0 = one-place left d l m E D is at entries nodes place child.0 from low child.1 child.2 k here_is.0 other in
                here_is.1 (subst (λ i. ReachesRow F (get_or at.links i 0) k) (sym same) other)
          ],
        )

    -- none of them is among the rows before
    fresh : (k : ℕ) → 0 < count k spends.rows → 0 < count k rows → ⊥
    fresh k some seen = by_origin (before.origin k seen)
      where
        by_origin : (l ≡ k) ⊎ ((j : ℕ) × (rank is.entries 32 ≤ j) × (j < place) × ReachesRow F (get_or is.links j 0) k) → ⊥
        by_origin (inl same) = lower left d l l E E is is place from low k (spends.apart k some).0 (sym same)
        by_origin (inr found) =
            let same : place ≡ found.0 = one-place left d l l E E is is refl refl place found.0 from low found.1 (omega (arith, found.2, low)) k (spends.apart k some).0 found.3 in
            omega (arith, same, found.2)

    both-once : (k : ℕ) → (a b : ℕ) → count k rows ≡ a → count k spends.rows ≡ b → count k (rows ++ spends.rows) ≤ 1
    both-once k zero b is_a is_b = omega (arith, count-append k rows spends.rows, is_a, spends.once k)
    both-once k (suc a) zero is_a is_b = omega (arith, count-append k rows spends.rows, is_b, before.once k)
    both-once k (suc a) (suc b) is_a is_b = absurd (fresh k (omega (arith, is_b)) (omega (arith, is_a)))

    in-either : (P : Type 0) (k : ℕ) → 0 < count k (rows ++ spends.rows) → (0 < count k rows → P) → (0 < count k spends.rows → P) → P
    in-either P k some first second = by_count (count k rows) refl
      where
        by_count : (n : ℕ) → count k rows ≡ n → P
        by_count zero is_n = second (omega (arith, some, count-append k rows spends.rows, is_n))
        by_count (suc n) is_n = first (omega (arith, is_n))

    pub apart-more : Apart F l m (rank is.entries 32) (place + 1) is.links (rows ++ spends.rows)
    apart-more = record {
      once = λ k. both-once k (count k rows) (count k spends.rows) refl refl;
      apart = λ k some. in-either (IsApart F l m k) k some (before.apart k) (child-apart k);
      origin = λ k some. in-either ((l ≡ k) ⊎ ((j : ℕ) × (rank is.entries 32 ≤ j) × (j < place + 1) × ReachesRow F (get_or is.links j 0) k)) k some
          (λ seen. later k (before.origin k seen))
          (λ inside. inr (place, from, omega arith, (spends.apart k inside).0));
    }
      where
        later : (k : ℕ) → (l ≡ k) ⊎ ((j : ℕ) × (rank is.entries 32 ≤ j) × (j < place) × ReachesRow F (get_or is.links j 0) k) → (l ≡ k) ⊎ ((j : ℕ) × (rank is.entries 32 ≤ j) × (j < place + 1) × ReachesRow F (get_or is.links j 0) k)
        later k (inl same) = inl same
        later k (inr found) = inr (found.0, found.1, omega (arith, found.2), found.3)

-- the trie row at a depth, with so many levels of trie rows below it
pub record Opened {K : Type 0} (cmp : K → K → Ordering) (code : K → ℕ) (F : Forms K) (IsGood : ℕ → Type 0) (left depth l : ℕ) : Type 0 where
  pub entries : List (Entry K)
  pub levels : depth + suc left ≡ LEVELS
  pub row : IsTrieRow cmp code F depth l entries (λ k P. IsTrie cmp code F left (suc depth) k P)
  pub whole : IsTrie cmp code F (suc left) depth l entries
  pub good : All (λ e. IsGood e.link) entries

module _ {K : Type 0} (cmp : K → K → Ordering) (code : K → ℕ) (F : Forms K) (IsGood : ℕ → Type 0) (depth l : ℕ) where
  pub from-opened : IsFrom cmp F IsGood code depth l → depth ≤ DEEPEST → Opened cmp code F IsGood (DEEPEST - depth) depth l
  from-opened is low = by_left is.left is.levels is.trie
    where
      by_left : (left : ℕ) → depth + left ≡ LEVELS → IsTrie cmp code F left depth l is.entries → Opened cmp code F IsGood (DEEPEST - depth) depth l
      by_left zero levels stands = absurd (omega (arith, levels, low))
      by_left (suc left) levels stands =
          subst (λ n. Opened cmp code F IsGood n depth l) (omega (arith, levels, low))
          (record { entries = is.entries; levels = levels; row = trie-opened cmp code F left depth l is.entries stands; whole = stands; good = is.good })

  pub from-chain : IsFrom cmp F IsGood code depth l → DEEPEST < depth → IsChainFrom cmp F IsGood l
  unfolding IsTrie
  from-chain is low = by_left is.left is.levels is.trie
    where
      by_left : (left : ℕ) → depth + left ≡ LEVELS → IsTrie cmp code F left depth l is.entries → IsChainFrom cmp F IsGood l
      by_left zero levels stands = record { entries = stands.entries; rows = stands.rows; rising = stands.rising; good = all-turned (λ (e : Entry K). IsGood e.link) is.entries stands.entries (same-sym _ _ stands.same) is.good }
      by_left (suc left) levels stands = absurd (omega (arith, levels, low))

  -- the entries of the row itself are good
  pub own-good : (left : ℕ) (o : Opened cmp code F IsGood left depth l) → All IsGood (take (rank o.row.entries 32) o.row.links)
  unfolding rows_from
  own-good left o =
      let a : ℕ = left + length o.entries in
      let walk = trie-walk cmp code F (suc left) depth l o.entries o.whole (suc a) (length o.entries) (omega arith) (omega arith) in
      let all : All IsGood (entries_of F (rows_from (suc a) F l)) = all-turned IsGood _ _ (same-sym _ _ walk) (All-map IsGood (λ (e : Entry K). e.link) o.entries o.good) in
      subst (λ r. All IsGood (own_entries r)) o.row.row.row (all-left IsGood (own_entries (F l)) _ all)

  -- a child is the trie from the next depth down
  pub child-from : (left : ℕ) (o : Opened cmp code F IsGood left depth l) (i : ℕ) → rank o.row.entries 32 ≤ i → i < length o.row.links → IsFrom cmp F IsGood code (depth + 1) (get_or o.row.links i 0)
  child-from left o i from low =
      let child = child-at cmp code F left depth l o.entries o.row i from low in
      let next : suc depth ≡ depth + 1 = omega arith in
      record {
        left = left;
        entries = part cmp code depth child.position o.entries;
        levels = omega (arith, o.levels);
        trie = subst (λ n. IsTrie cmp code F left n (get_or o.row.links i 0) (part cmp code depth child.position o.entries)) next child.trie;
        good = All-filter _ (λ (e : Entry K). IsGood e.link) o.entries o.good;
      }

module _ {K : Type 0} (cmp : K → K → Ordering) (o : IsTotalOrder cmp) (code : K → ℕ) (F : Forms K) (IsSame : ℕ → ℕ → Type 0) where
  -- rows whose links are congruent
  pub rows-follow : (l m : ℕ) (kind : Kind) (ls ks : List ℕ) → F l ≡ Some (node kind ls) → F m ≡ Some (node kind ks) → AllZip (Congruent F IsSame) ls ks → Congruent F IsSame l m
  rows-follow l m kind ls ks first second zip = congruent_rows l m kind ls ks first second (congruent-zip F IsSame ls ks zip)

  -- a trie of good entries is congruent with itself
  pub trie-itself : (IsGood : ℕ → Type 0) → ((l : ℕ) → IsGood l → IsSame l l) → (left d l : ℕ) (E : List (Entry K)) → IsTrie cmp code F left d l E → All (λ e. IsGood e.link) E → Congruent F IsSame l l
  trie-itself IsGood itself left d l E is good =
      tries-match cmp code o F F (Congruent F IsSame) rows-follow left d l l (map twice E) E E (subst (λ xs. SameSet xs E) (sym (firsts E)) (same-refl E)) (subst (λ xs. SameSet xs E) (sym (seconds E)) (same-refl E)) (matched E good) is is
    where
      twice : Entry K → Match K
      twice e = record { first = e; second = e }

      firsts : (es : List (Entry K)) → map (λ w. w.first) (map twice es) ≡ es
      firsts [] = refl
      firsts (e ∷ es) = ap (λ xs. e ∷ xs) (firsts es)

      seconds : (es : List (Entry K)) → map (λ w. w.second) (map twice es) ≡ es
      seconds [] = refl
      seconds (e ∷ es) = ap (λ xs. e ∷ xs) (seconds es)

      matched : (es : List (Entry K)) → All (λ e. IsGood e.link) es → (w : Match K) → Among w (map twice es) → AreMatched cmp code o F F (Congruent F IsSame) rows-follow w
      matched [] good w nowhere = absurd nowhere
      matched (e ∷ es) good w (inl same) = subst (AreMatched cmp code o F F (Congruent F IsSame) rows-follow) same (tied_itself o e.key, refl, congruent_entries e.link e.link (itself e.link (All-head (λ (d : Entry K). IsGood d.link) e es good)))
      matched (e ∷ es) good w (inr i) = matched es (All-tail (λ (d : Entry K). IsGood d.link) e es good) w i

-- two opened rows of one depth whose sets of positions are equal
module _ {K : Type 0} (cmp : K → K → Ordering) (code : K → ℕ) (F : Forms K) (IsGood : ℕ → Type 0) (IsSame : ℕ → ℕ → Type 0) (itself : (l : ℕ) → IsGood l → IsSame l l) (keyed : (l m : ℕ) → IsSame l m → IsSome (key_at F l))
    (outermost : (l k m : ℕ) (kind : Kind) (ks : List ℕ) → IsGood l → F l ≡ Some (node kind (k ∷ ks)) → ¬ IsSame k m)
    (left depth l m : ℕ) (first : Opened cmp code F IsGood left depth l) (second : Opened cmp code F IsGood left depth m) where
  abbrev ls : List ℕ
  ls = first.row.links

  abbrev ks : List ℕ
  ks = second.row.links

  -- congruent rows have equal sets of positions, and congruent links
  congruent-links : Congruent F IsSame l m → (trie depth first.row.entries first.row.nodes ≡ trie depth second.row.entries second.row.nodes) × AreCongruent F IsSame ls ks
  congruent-links congruent = links-congruent F IsSame keyed l m (trie depth first.row.entries first.row.nodes) (trie depth second.row.entries second.row.nodes) ls ks (ap (key_of F) first.row.row.row) first.row.row.row second.row.row.row congruent

  pub congruent-positions : Congruent F IsSame l m → (first.row.entries ≡ second.row.entries) × (first.row.nodes ≡ second.row.nodes)
  congruent-positions congruent =
      let kinds = (congruent-links congruent).0 in
      let entries : first.row.entries ≡ second.row.entries = cc in
      let nodes : first.row.nodes ≡ second.row.nodes = cc in
      (entries, nodes)

  pub congruent-entries : Congruent F IsSame l m → AllZip IsSame (take (rank first.row.entries 32) ls) (take (rank first.row.entries 32) ks)
  congruent-entries congruent = entries-congruent F IsSame IsGood itself keyed outermost _ _ (own-good cmp code F IsGood depth l left first) (congruent-take F IsSame (rank first.row.entries 32) ls ks (congruent-links congruent).1)

  pub congruent-child : Congruent F IsSame l m → (i : ℕ) → i < length ls → Congruent F IsSame (get_or ls i 0) (get_or ks i 0)
  congruent-child congruent i low = congruent-at F IsSame ls ks i (congruent-links congruent).1 low

  pub row-short : length ls ≤ 32
  row-short = sets-short first.row.entries first.row.nodes ls first.row.row.sets

  module _ (entries : first.row.entries ≡ second.row.entries) (nodes : first.row.nodes ≡ second.row.nodes) where
    pub links-number : length ls ≡ length ks
    links-number = as-many cmp code F left depth l m first.entries second.entries first.row second.row entries nodes

    pub rows-congruent-by : AllZip IsSame (take (rank first.row.entries 32) ls) (take (rank first.row.entries 32) ks) → ((i : ℕ) → rank first.row.entries 32 ≤ i → i < length ls → Congruent F IsSame (get_or ls i 0) (get_or ks i 0)) → Congruent F IsSame l m
    rows-congruent-by own others =
        congruent_rows l m (trie depth first.row.entries first.row.nodes) ls ks first.row.row.row
        (second.row.row.row ∙ ap (λ e. Some (node (trie depth e second.row.nodes) ks)) (sym entries) ∙ ap (λ n. Some (node (trie depth first.row.entries n) ks)) (sym nodes))
        (congruent-by F IsSame ls ks links-number (λ i low. by_place i low (cases_lt i (rank first.row.entries 32))))
      where
        by_place : (i : ℕ) → i < length ls → (i < rank first.row.entries 32) ⊎ (rank first.row.entries 32 ≤ i) → Congruent F IsSame (get_or ls i 0) (get_or ks i 0)
        by_place i low (inl inside) =
            congruent_entries _ _
            (subst (λ x. IsSame x (get_or ks i 0)) (get_or-take (rank first.row.entries 32) ls i 0 inside)
            (subst (λ y. IsSame (get_or (take (rank first.row.entries 32) ls) i 0) y) (get_or-take (rank first.row.entries 32) ks i 0 inside)
            (zip-at IsSame (take (rank first.row.entries 32) ls) (take (rank first.row.entries 32) ks) i own (omega (arith, inside, low, length-take (rank first.row.entries 32) ls)))))
        by_place i low (inr after) = others i after low
