-- Tries under other links.
use Rattle.std.proofs.Common.{◌≡◌, ℕ, zero, suc, ◌+◌, ◌<◌, ◌≤◌, Bool, true, false, cond, List, [], ◌∷◌, Option, Some, None, option_map, map, length, take, drop, get_or, refl, ap, sym, subst, ◌∙◌, arith, inl, inr}
use Rattle.std.specs.Prelude.{nat_eq, option_to_list, count_by}
use Rattle.std.specs.List.{flat_map}
use Rattle.std.specs.declared.cmp.Ordering.{Ordering}
use Rattle.std.proofs.lemmas.Bool.{cases_Bool, cases_eq}
use Rattle.std.proofs.lemmas.List.{length-map, take-map}
use Rattle.std.proofs.lemmas.List.Folds.{flat_map-map}
use Rattle.elem_core.specs.Codes.{digit_at}
use Rattle.node_heap.specs.Links.{count, HasLink, Reaches, here, below}
use Rattle.node_heap.specs.Forms.{Form, Forms, cell, node, leaf, inner, trie, chain, pair, state, links_of, links_in}
use Rattle.node_heap.proofs.Counts.{test_same, test_other, count-cons}
use Rattle.node_heap.proofs.Reach.{Reaches-then}
use Rattle.node_heap.proofs.Trees.{map-same}
use Rattle.rrb_core.proofs.LinkCounts.{all-counted, count-at}
use Rattle.champ_chain.specs.Entry.{Entry, entry, key_at, key_of, first_value, has_key, AreDistinct, SameSet, same_none, same_first, same_turned, same_through}
use Rattle.champ_chain.specs.Chain.{AreChainRows, AreAbove, IsRising}
use Rattle.champ_chain.proofs.SetLemmas.{count-cons as counted}
use Rattle.champ_trie.specs.Bits.{has, rank}
use Rattle.champ_trie.specs.Trie.{AreSets, IsPlace, part, IsTrie, IsCanonTo, place_of}
use Rattle.champ_trie.specs.Walk.{own_entries, rows_below, rows_from, entries_of, entries_first}
use Rattle.champ_trie.proofs.PlaceLemmas.{place-entry, place-node, place-empty, entry-in, node-in}
use Rattle.champ_trie.proofs.StayLemmas.{has-first}
use Rattle.pool_order.proofs.Places.{flat_map-same, flat_map-found}
use Rattle.pool_text.specs.Pool.{relink}
use Rattle.pool_text.specs.Renaming.{IsRenamed}
use Rattle.pool_text.proofs.Renamed.{renamed-link, renamed-below, reads-the-same}
use Rattle.pool_text.proofs.Ordered.{map-flat}
use Rattle.pool_check.specs.Readings.{moved, TrieReadsTheSame}
use Rattle.pool_check.proofs.VectorReadings.{map-twice, all-at}

drop-map : (f : ℕ → ℕ) (n : ℕ) (ks : List ℕ) → drop n (map f ks) ≡ map f (drop n ks)
drop-map f zero ks = refl
drop-map f (suc n) [] = refl
drop-map f (suc n) (k ∷ ks) = drop-map f n ks

count-take : (k i : ℕ) (ks : List ℕ) → count k (take i ks) ≤ count k ks
count-take k zero ks = omega arith
count-take k (suc i) [] = omega arith
count-take k (suc i) (x ∷ ks) = omega (arith, count-take k i ks, count-cons k x ks, count-cons k x (take i ks))

count-drop : (k i : ℕ) (ks : List ℕ) → count k (drop i ks) ≤ count k ks
count-drop k zero ks = omega arith
count-drop k (suc i) [] = omega arith
count-drop k (suc i) (x ∷ ks) = omega (arith, count-drop k i ks, count-cons k x ks)

get_or-map : (f : ℕ → ℕ) (ks : List ℕ) (i : ℕ) → i < length ks → get_or (map f ks) i 0 ≡ f (get_or ks i 0)
get_or-map f [] i low = absurd (omega arith)
get_or-map f (k ∷ ks) zero low = refl
get_or-map f (k ∷ ks) (suc i) low = get_or-map f ks i (omega arith)

option-list : (f : ℕ → ℕ) (o : Option ℕ) → map f (option_to_list o) ≡ option_to_list (option_map f o)
option-list f None = refl
option-list f (Some k) = refl

same-map : {X Y : Type 0} (g : X → Y) (xs ys : List X) → SameSet xs ys → SameSet (map g xs) (map g ys)
same-map g us vs same_none = same_none
same-map g us vs (same_first x xs ys same) = same_first (g x) (map g xs) (map g ys) (same-map g xs ys same)
same-map g us vs (same_turned x y xs) = same_turned (g x) (g y) (map g xs)
same-map g us vs (same_through xs ys zs first second) = same_through (map g xs) (map g ys) (map g zs) (same-map g xs ys first) (same-map g ys zs second)

module _ {K : Type 0} (f : ℕ → ℕ) where
  own-relink : (r : Option (Form K)) → own_entries (option_map (relink f) r) ≡ map f (own_entries r)
  own-relink None = refl
  own-relink (Some (cell x)) = refl
  own-relink (Some (node kind links)) = take-map f (entries_first kind) links

  below-relink : (r : Option (Form K)) → rows_below (option_map (relink f) r) ≡ map f (rows_below r)
  below-relink None = refl
  below-relink (Some (cell x)) = refl
  below-relink (Some (node kind links)) = drop-map f (entries_first kind) links

  module _ (cmp : K → K → Ordering) (code : K → ℕ) where
    above-moved : (key : K) (es : List (Entry K)) → AreAbove cmp key es → AreAbove cmp key (map (moved f) es)
    above-moved key [] h = tt
    above-moved key (e ∷ es) h = (h.0, above-moved key es h.1)

    rising-moved : (es : List (Entry K)) → IsRising cmp es → IsRising cmp (map (moved f) es)
    rising-moved [] h = tt
    rising-moved (e ∷ es) h = (above-moved e.key es h.0, rising-moved es h.1)

    distinct-moved : (E : List (Entry K)) → AreDistinct cmp E → AreDistinct cmp (map (moved f) E)
    distinct-moved E h = record { once = λ key. omega (arith, h.once key, same_count key E) }
      where
        same_count : (key : K) (es : List (Entry K)) → count_by (has_key cmp key) (map (moved f) es) ≡ count_by (has_key cmp key) es
        same_count key [] = refl
        same_count key (e ∷ es) = counted (has_key cmp key) (moved f e) (map (moved f) es) ∙ ap (λ n. cond (has_key cmp key e) 1 0 + n) (same_count key es) ∙ sym (counted (has_key cmp key) e es)

    part-moved : (d p : ℕ) (E : List (Entry K)) → part cmp code d p (map (moved f) E) ≡ map (moved f) (part cmp code d p E)
    part-moved d p [] = refl
    part-moved d p (e ∷ es) =
        ap (λ (ys : List (Entry K)). cond (nat_eq (digit_at (code e.key) d) p) (moved f e ∷ ys) ys) (part-moved d p es) ∙ by_bool (nat_eq (digit_at (code e.key) d) p) (part cmp code d p es)
      where
        by_bool : (b : Bool) (ys : List (Entry K)) → cond b (moved f e ∷ map (moved f) ys) (map (moved f) ys) ≡ map (moved f) (cond b (e ∷ ys) ys)
        by_bool true ys = refl
        by_bool false ys = refl

module _ {K : Type 0} where
  -- the rows below a row, and its own entries, are among its links
  below-count : (k : ℕ) (r : Option (Form K)) → 0 < count k (rows_below r) → 0 < count k (links_of r)
  below-count k None some = absurd (omega arith)
  below-count k (Some (cell x)) some = absurd (omega arith)
  below-count k (Some (node kind links)) some = omega (arith, some, count-drop k (entries_first kind) links)

  own-count : (k : ℕ) (r : Option (Form K)) → 0 < count k (own_entries r) → 0 < count k (links_of r)
  own-count k None some = absurd (omega arith)
  own-count k (Some (cell x)) some = absurd (omega arith)
  own-count k (Some (node kind links)) some = omega (arith, some, count-take k (entries_first kind) links)

module _ {K : Type 0} (f : ℕ → ℕ) (G H : Forms K) where
  key-renamed : (l : ℕ) → IsRenamed f G H l → key_at H (f l) ≡ key_at G l
  key-renamed l image = ap (key_of H) (image l (here l)) ∙ by_form (G l) refl
    where
      by_links : (links : List ℕ) → G l ≡ Some (node pair links) → first_value H (map f links) ≡ first_value G links
      by_links [] e = refl
      by_links (j ∷ js) e = (reads-the-same f G H j (renamed-link f G H l j image (has-first G l j pair js e))).value

      by_form : (r : Option (Form K)) → G l ≡ r → key_of H (option_map (relink f) r) ≡ key_of G r
      by_form None e = refl
      by_form (Some (cell y)) e = refl
      by_form (Some (node leaf links)) e = refl
      by_form (Some (node (inner height) links)) e = refl
      by_form (Some (node (trie d s n) links)) e = refl
      by_form (Some (node chain links)) e = refl
      by_form (Some (node pair links)) e = by_links links e
      by_form (Some (node state links)) e = refl

  rows-renamed : (n l : ℕ) → IsRenamed f G H l → rows_from n H (f l) ≡ map f (rows_from n G l)
  unfolding rows_from
  rows-renamed zero l image = refl
  rows-renamed (suc n) l image =
      ap (λ ys. f l ∷ flat_map (rows_from n H) ys) (ap rows_below (image l (here l)) ∙ below-relink f (G l))
      ∙ ap (λ ys. f l ∷ ys)
      (flat_map-map (rows_from n H) f (rows_below (G l))
      ∙ flat_map-same (λ k. rows_from n H (f k)) (λ k. map f (rows_from n G k)) (rows_below (G l)) (λ k some. rows-renamed n k (renamed-link f G H l k image (below-count k (G l) some)))
      ∙ sym (map-flat f (rows_from n G) (rows_below (G l))))

  -- a row reaches the rows of its walk
  rows-reached : (n l k : ℕ) → 0 < count k (rows_from n G l) → Reaches (links_in G) l k
  unfolding rows_from
  rows-reached zero l k some = absurd (omega arith)
  rows-reached (suc n) l k some = elim (cases_eq l k) as (λ _. Reaches (links_in G) l k) [
    | inl same ↦ subst (Reaches (links_in G) l) same (here l)
    | inr other ↦
        let found = flat_map-found (rows_from n G) (rows_below (G l)) k (omega (arith, some, count-cons k l (flat_map (rows_from n G) (rows_below (G l))), test_other l k other)) in
        below l found.0 k (below-count found.0 (G l) found.1) (rows-reached n found.0 k found.2)
  ]

  entries-renamed : (n l : ℕ) → IsRenamed f G H l → entries_of H (rows_from n H (f l)) ≡ map f (entries_of G (rows_from n G l))
  entries-renamed n l image =
      ap (entries_of H) (rows-renamed n l image) ∙ flat_map-map (λ k. own_entries (H k)) f (rows_from n G l)
      ∙ flat_map-same (λ k. own_entries (H (f k))) (λ k. map f (own_entries (G k))) (rows_from n G l) (λ k some. ap own_entries (image k (rows-reached n l k some)) ∙ own-relink f (G k))
      ∙ sym (map-flat f (λ k. own_entries (G k)) (rows_from n G l))

  -- a row reaches the entries of its walk
  entries-reached : (n l k : ℕ) → 0 < count k (entries_of G (rows_from n G l)) → Reaches (links_in G) l k
  entries-reached n l k some =
      let found = flat_map-found (λ m. own_entries (G m)) (rows_from n G l) k some in
      Reaches-then (links_in G) l found.0 k (rows-reached n l found.0 found.1) (own-count k (G found.0) found.2)

module _ {K : Type 0} (f : ℕ → ℕ) (G H : Forms K) (root : ℕ) (image : IsRenamed f G H root) where
  key-moved : (l : ℕ) (key : K) → Reaches (links_in G) root l → key_at G l ≡ Some key → key_at H (f l) ≡ Some key
  key-moved l key down is = key-renamed f G H l (renamed-below f G H root l down image) ∙ is

  -- the chain rows from a link on
  chain-moved : (o : Option ℕ) (es : List (Entry K)) → ((m : ℕ) → o ≡ Some m → Reaches (links_in G) root m) → AreChainRows G o es → AreChainRows H (option_map f o) (map (moved f) es)
  unfolding AreChainRows
  chain-moved o [] down rows = ap (option_map f) rows
  chain-moved o (e ∷ es) down rows =
      let at : Reaches (links_in G) root rows.link = down rows.link rows.here in
      record {
        link = f rows.link;
        next = option_map f rows.next;
        here = ap (option_map f) rows.here;
        row = image rows.link at ∙ ap (option_map (relink f)) rows.row ∙ ap (λ ks. Some (node chain (f e.link ∷ ks))) (option-list f rows.next);
        key = key-moved e.link e.key (Reaches-then (links_in G) root rows.link e.link at (has-first G rows.link e.link chain (option_to_list rows.next) rows.row)) rows.key;
        rest = chain-moved rows.next es (λ m is. Reaches-then (links_in G) root rows.link m at (next-link rows.link e.link m rows.next rows.row is)) rows.rest;
      }
    where
      next-link : (l x m : ℕ) (next : Option ℕ) → G l ≡ Some (node chain (x ∷ option_to_list next)) → next ≡ Some m → HasLink (links_in G) l m
      next-link l x m next row is =
          let whole : G l ≡ Some (node chain (x ∷ m ∷ [])) = row ∙ ap (λ n. Some (node chain (x ∷ option_to_list n))) is in
          omega (arith, ap (λ r. count m (links_of r)) whole, count-cons m x (m ∷ []), count-cons m m [], test_same m m refl)

  -- what stands at a position of a row
  place-moved : (e n p : ℕ) (ls : List ℕ) → p < 32 → AreSets e n ls → ((k : ℕ) → 0 < count k ls → Reaches (links_in G) root k) → (N M : ℕ → List (Entry K) → Type 0) (Q : List (Entry K))
      → ((k : ℕ) → Reaches (links_in G) root k → N k Q → M (f k) (map (moved f) Q)) → IsPlace G N (place_of e n ls p) Q → IsPlace H M (place_of e n (map f ls) p) (map (moved f) Q)
  place-moved e n p ls small sets down N M Q deeper old = elim (cases_Bool (has e p)) [
    | inl there ↦
        let low : rank e p < length ls = entry-in e n ls p small sets there in
        let x : ℕ = get_or ls (rank e p) 0 in
        let at = subst (λ q. IsPlace G N q Q) (place-entry e n ls p there) old in
        let is =
        subst (λ (y : ℕ). (map (moved f) Q ≡ entry at.0 y ∷ []) × (key_at H y ≡ Some at.0)) (sym (get_or-map f ls (rank e p) low))
        (ap (map (moved f)) at.1, key-moved x at.0 (down x (count-at ls (rank e p) 0 low)) at.2) in
        subst (λ q. IsPlace H M q (map (moved f) Q)) (sym (place-entry e n (map f ls) p there)) (at.0, is.0, is.1)
    | inr absent ↦ elim (cases_Bool (has n p)) [
      | inl there ↦
          let low : rank e 32 + rank n p < length ls = node-in e n ls p small sets there in
          let x : ℕ = get_or ls (rank e 32 + rank n p) 0 in
          let at = subst (λ q. IsPlace G N q Q) (place-node e n ls p absent there) old in
          let is : M (get_or (map f ls) (rank e 32 + rank n p) 0) (map (moved f) Q) =
          subst (λ (y : ℕ). M y (map (moved f) Q)) (sym (get_or-map f ls (rank e 32 + rank n p) low)) (deeper x (down x (count-at ls (rank e 32 + rank n p) 0 low)) at.1) in
          subst (λ q. IsPlace H M q (map (moved f) Q)) (sym (place-node e n (map f ls) p absent there)) (omega (arith, at.0, length-map Q (moved f)), is)
      | inr none ↦
          let at = subst (λ q. IsPlace G N q Q) (place-empty e n ls p absent none) old in
          subst (λ q. IsPlace H M q (map (moved f) Q)) (sym (place-empty e n (map f ls) p absent none)) (ap (map (moved f)) at)
    ]
  ]

  module _ (cmp : K → K → Ordering) (code : K → ℕ) where
    trie-moved : (left d l : ℕ) (E : List (Entry K)) → Reaches (links_in G) root l → IsTrie cmp code G left d l E → IsTrie cmp code H left d (f l) (map (moved f) E)
    unfolding IsTrie
    trie-moved zero d l E down is = record {
      entries = map (moved f) is.entries;
      rows = chain-moved (Some l) is.entries (λ m same. subst (Reaches (links_in G) root) (let e : Some l ≡ Some m = same in cc) down) is.rows;
      rising = rising-moved f cmp code is.entries is.rising;
      same = same-map (moved f) is.entries E is.same;
      two = omega (arith, is.two, length-map E (moved f));
    }
    trie-moved (suc left) d l E down is = record {
      entries = is.entries;
      nodes = is.nodes;
      links = map f is.links;
      row = record {
        row = image l down ∙ ap (option_map (relink f)) is.row.row;
        sets = record {
          entries_small = is.row.sets.entries_small;
          nodes_small = is.row.sets.nodes_small;
          apart = is.row.sets.apart;
          count = length-map is.links f ∙ is.row.sets.count;
        };
      };
      places = λ p small.
          subst (IsPlace H (λ k P. IsTrie cmp code H left (suc d) k P) (place_of is.entries is.nodes (map f is.links) p)) (sym (part-moved f cmp code d p E))
          (place-moved is.entries is.nodes p is.links small is.row.sets (λ k some. Reaches-then (links_in G) root l k down (omega (arith, some, ap (λ r. count k (links_of r)) is.row.row)))
          (λ k P. IsTrie cmp code G left (suc d) k P) (λ k P. IsTrie cmp code H left (suc d) k P) (part cmp code d p E) (λ k to under. trie-moved left (suc d) k (part cmp code d p E) to under) (is.places p small));
    }

    canon-moved : (deepest : ℕ) (E : List (Entry K)) → IsCanonTo cmp code deepest G root E → IsCanonTo cmp code deepest H (f root) (map (moved f) E)
    canon-moved deepest E canon = record { trie = trie-moved (deepest + 1) 0 root E (here root) canon.trie; distinct = distinct-moved f cmp code E canon.distinct }

  pub trie-reads-the-same : (X : Type 0) → TrieReadsTheSame X f G H root
  trie-reads-the-same X = record {
    key = key-renamed f G H root image;
    entries = λ n. entries-renamed f G H n root image;
    reached = λ n. all-counted (λ k. Reaches (links_in G) root k) (entries_of G (rows_from n G root)) (λ k some. entries-reached f G H n root k some);
    readings = λ n was now each.
        ap (map now) (entries-renamed f G H n root image) ∙ map-twice now f (entries_of G (rows_from n G root))
        ∙ map-same (λ k. now (f k)) was (entries_of G (rows_from n G root)) (all-at (λ k. now (f k) ≡ was k) (entries_of G (rows_from n G root)) each);
    canonical = λ cmp code deepest E canon. canon-moved cmp code deepest E canon;
  }
