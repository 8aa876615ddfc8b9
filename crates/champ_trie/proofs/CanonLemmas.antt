-- A canonical trie depends on its entries alone.
use Rattle.std.proofs.Common.{◌≡◌, ℕ, zero, suc, ◌+◌, ◌<◌, ◌^◌, List, [], ◌∷◌, ◌++◌, length, drop, map, refl, ap, sym, subst, ◌∙◌, arith, cond, true, false, Bool, inl, inr, ◌⊎◌, Option, Some, None}
use Rattle.std.specs.Prelude.{nat_eq, option_to_list}
use Rattle.std.specs.List.{filter, All, AllZip}
use Rattle.std.specs.Int.{bit_at}
use Rattle.std.specs.Cmp.{IsTotalOrder, tied_itself}
use Rattle.std.specs.Ordering.{ordering_reverse}
use Rattle.std.specs.declared.cmp.Ordering.{Ordering}
use Rattle.std.specs.declared.cmp.Ordering.TheVariants.{Less, Equal}
use Rattle.std.proofs.lemmas.Bool.{cases_Bool, eqb-true, eqb-false}
use Rattle.std.proofs.lemmas.List.{take-append-drop, length-map, nil_from_length}
use Rattle.std.proofs.lemmas.List.Elements.{All-nil, All-cons}
use Rattle.std.proofs.lemmas.Nat.Bits.{same_from_bits_below, bit_at-lt}
use Rattle.elem_core.specs.Codes.{digit_at}
use Rattle.elem_core.specs.declared.codes.TheConstants.{LEVELS}
use Rattle.node_heap.specs.Forms.{Forms, node, leaf, inner, trie, chain, pair, state, value_of, Kind, Tree, Trees, cut, tree_cell, tree_node, no_trees, tree_then, trees_of, IsTree, AreTrees, is_cell_tree, is_node_tree, are_none, are_then}
use Rattle.node_heap.proofs.Trees.{IsTree-unique}
use Rattle.champ_chain.specs.Entry.{Entry, entry, IsEntry, key_at, key_of, first_value, SameSet, same_none, same_first, same_turned, same_through}
use Rattle.champ_chain.specs.Chain.{AreChainRows, AreAbove, IsRising, IsChain}
use Rattle.champ_chain.proofs.SetLemmas.{same-sym, same-length, same-filter, same-one, Among, same-among}
use Rattle.champ_chain.proofs.RisingLemmas.{rising-unique, same-distinct}
use Rattle.champ_trie.specs.Bits.{has, rank}
use Rattle.champ_trie.specs.Trie.{AreSets, IsRow, IsPlace, IsTrie, place_of, part}
use Rattle.champ_trie.specs.Canon.{HaveTrees, TrieFollowsEntries, TrieFollowsTrees, TrieTakesAnyOrder, TrieHasOneSet, TrieNamesKeys}
use Rattle.champ_trie.specs.declared.place.Place.{Place}
use Rattle.champ_trie.specs.declared.place.Place.TheVariants.{Entry as At, Node, Empty}
use Rattle.champ_trie.proofs.PlaceLemmas.{place-entry, place-node, place-empty}
use Rattle.champ_trie.proofs.GatherLemmas.{gather, same-is, same-map, entry_links, node_links, entries-gather, nodes-gather}
use Rattle.champ_trie.proofs.WalkLemmas.{trie-entries, trie-walk}

module _ {X Y : Type 0} where
  -- a set may be put in the order in which f gives this list
  pub same-lift : (f : X → Y) (xs : List X) (cs bs : List Y) → map f xs ≡ cs → SameSet cs bs → (ys : List X) × SameSet xs ys × (map f ys ≡ bs)
  same-lift f xs _ _ e same_none = by_list xs e
    where
      by_list : (xs : List X) → map f xs ≡ [] → (ys : List X) × SameSet xs ys × (map f ys ≡ [])
      by_list [] e = ([], same_none, refl)
      by_list (x ∷ xs) e = absurd cc
  same-lift f xs _ _ e (same_first a cs bs s) = by_list xs e (λ xs e. same-lift f xs cs bs e s)
    where
      by_list : (xs : List X) → map f xs ≡ a ∷ cs → ((xs : List X) → map f xs ≡ cs → (ys : List X) × SameSet xs ys × (map f ys ≡ bs)) → (ys : List X) × SameSet xs ys × (map f ys ≡ a ∷ bs)
      by_list [] e again = absurd cc
      by_list (x ∷ xs) e again =
          let head : f x ≡ a = cc in
          let tail : map f xs ≡ cs = cc in
          let rest = again xs tail in
          (x ∷ rest.0, same_first x _ _ rest.1, ap (λ y. y ∷ map f rest.0) head ∙ ap (λ ys. a ∷ ys) rest.2)
  same-lift f xs _ _ e (same_turned a b cs) = by_list xs e
    where
      by_list : (xs : List X) → map f xs ≡ a ∷ b ∷ cs → (ys : List X) × SameSet xs ys × (map f ys ≡ b ∷ a ∷ cs)
      by_list [] e = absurd cc
      by_list (x ∷ []) e = absurd cc
      by_list (x ∷ y ∷ xs) e =
          let first : f x ≡ a = cc in
          let second : f y ≡ b = cc in
          let rest : map f xs ≡ cs = cc in
          (y ∷ x ∷ xs, same_turned x y xs, ap (λ z. z ∷ f x ∷ map f xs) second ∙ ap (λ z. b ∷ z ∷ map f xs) first ∙ ap (λ zs. b ∷ a ∷ zs) rest)
  same-lift f xs _ _ e (same_through cs bs ds s t) =
      let one = same-lift f xs cs bs e s in
      let two = same-lift f one.0 bs ds one.2 t in
      (two.0, same_through _ _ _ one.1 two.1, two.2)

  filter-map : (f : X → Y) (q : Y → Bool) (xs : List X) → filter q (map f xs) ≡ map f (filter (λ x. q (f x)) xs)
  filter-map f q [] = refl
  filter-map f q (x ∷ xs) = by_test (q (f x)) (filter-map f q xs)
    where
      by_test : (b : Bool) → filter q (map f xs) ≡ map f (filter (λ x. q (f x)) xs) → cond b (f x ∷ filter q (map f xs)) (filter q (map f xs)) ≡ map f (cond b (x ∷ filter (λ x. q (f x)) xs) (filter (λ x. q (f x)) xs))
      by_test true e = ap (λ ys. f x ∷ ys) e
      by_test false e = e

module _ {X : Type 0} where
  zip-same : (xs : List X) → AllZip (λ x y. x ≡ y) xs xs
  zip-same [] = tt
  zip-same (x ∷ xs) = (refl, zip-same xs)

  pub among-map : {Y : Type 0} (f : X → Y) (x : X) (xs : List X) → Among x xs → Among (f x) (map f xs)
  among-map f x [] nowhere = nowhere
  among-map f x (y ∷ ys) (inl same) = inl (ap f same)
  among-map f x (y ∷ ys) (inr i) = inr (among-map f x ys i)

  among-kept : (q : X → Bool) (x : X) (xs : List X) → Among x (filter q xs) → Among x xs
  among-kept q x [] i = i
  among-kept q x (y ∷ ys) i = by_test (q y) i (among-kept q x ys)
    where
      by_test : (b : Bool) → Among x (cond b (y ∷ filter q ys) (filter q ys)) → (Among x (filter q ys) → Among x ys) → Among x (y ∷ ys)
      by_test true (inl same) again = inl same
      by_test true (inr i) again = inr (again i)
      by_test false i again = inr (again i)

  -- tests that agree on a list's elements keep the same of them
  filter-agrees : (p q : X → Bool) (xs : List X) → ((x : X) → Among x xs → p x ≡ q x) → filter p xs ≡ filter q xs
  filter-agrees p q [] agree = refl
  filter-agrees p q (x ∷ xs) agree = ap (λ b. cond b (x ∷ filter p xs) (filter p xs)) (agree x (inl refl)) ∙ ap (λ ys. cond (q x) (x ∷ ys) ys) (filter-agrees p q xs (λ y i. agree y (inr i)))

module _ {A B : Type 0} (R : A → B → Type 0) where
  zip-append : (xs : List A) (ys : List B) (us : List A) (vs : List B) → AllZip R xs ys → AllZip R us vs → AllZip R (xs ++ us) (ys ++ vs)
  zip-append [] [] us vs z w = w
  zip-append [] (y ∷ ys) us vs z w = absurd z
  zip-append (x ∷ xs) [] us vs z w = absurd z
  zip-append (x ∷ xs) (y ∷ ys) us vs z w = (z.0, zip-append xs ys us vs z.1 w)

  zip-gather : (f : ℕ → List A) (g : ℕ → List B) (n : ℕ) → ((p : ℕ) → p < n → AllZip R (f p) (g p)) → AllZip R (gather f n) (gather g n)
  zip-gather f g zero each = tt
  zip-gather f g (suc n) each = zip-append (gather f n) (gather g n) (f n) (g n) (zip-gather f g n (λ p low. each p (omega arith))) (each n (omega arith))

-- two sets with the same positions
pub same-sets : (a b : ℕ) → a < 2 ^ 32 → b < 2 ^ 32 → ((p : ℕ) → p < 32 → has a p ≡ has b p) → a ≡ b
same-sets a b low low' same = same_from_bits_below 32 a b low low' (λ p small. by_test p (cases_Bool (has a p)) (same p small))
  where
    by_test : (p : ℕ) → (has a p ≡ true) ⊎ (has a p ≡ false) → has a p ≡ has b p → bit_at a p ≡ bit_at b p
    by_test p (inl here) e = eqb-true (bit_at a p) 1 here ∙ sym (eqb-true (bit_at b p) 1 (sym e ∙ here))
    by_test p (inr none) e =
        let no_a = eqb-false (bit_at a p) 1 none in
        let no_b = eqb-false (bit_at b p) 1 (sym e ∙ none) in
        omega (arith, no_a, no_b, bit_at-lt a p, bit_at-lt b p)

-- what a position's place says of the sets
abbrev is_entry : Place → Bool
is_entry Empty = false
is_entry (At x) = true
is_entry (Node l) = false

abbrev is_node : Place → Bool
is_node Empty = false
is_node (At x) = false
is_node (Node l) = true

has-entry : (e n : ℕ) (ls : List ℕ) (p : ℕ) → has e p ≡ is_entry (place_of e n ls p)
has-entry e n ls p = elim (cases_Bool (has e p)) [
  | inl here ↦ here ∙ sym (ap is_entry (place-entry e n ls p here))
  | inr absent ↦ elim (cases_Bool (has n p)) [
    | inl here ↦ absent ∙ sym (ap is_entry (place-node e n ls p absent here))
    | inr none ↦ absent ∙ sym (ap is_entry (place-empty e n ls p absent none))
  ]
]

has-node : (e n : ℕ) (ls : List ℕ) → AreSets e n ls → (p : ℕ) → p < 32 → has n p ≡ is_node (place_of e n ls p)
has-node e n ls sets p small = elim (cases_Bool (has e p)) [
  | inl here ↦ sets.apart p small here ∙ sym (ap is_node (place-entry e n ls p here))
  | inr absent ↦ elim (cases_Bool (has n p)) [
    | inl here ↦ here ∙ sym (ap is_node (place-node e n ls p absent here))
    | inr none ↦ none ∙ sym (ap is_node (place-empty e n ls p absent none))
  ]
]

module _ {K : Type 0} where
  -- the parts of a node's tree
  pub tree-inside : (F : Forms K) (l : ℕ) (t : Tree K) (kind : Kind) (links : List ℕ) → F l ≡ Some (node kind links) → IsTree F l t → (us : Trees K) × (t ≡ tree_node kind us) × AreTrees F links us
  tree-inside F a t kind links row (is_cell_tree l x other) = absurd cc
  tree-inside F a t kind links row (is_node_tree l kind' links' us other are) =
      let kinds : kind' ≡ kind = cc in
      let same : links' ≡ links = cc in
      (us, ap (λ k. tree_node k us) kinds, subst (λ ls. AreTrees F ls us) same are)

  pub trees-inside : (F : Forms K) (ls : List ℕ) (us : Trees K) (k : ℕ) (ks : List ℕ) (t : Tree K) (ts : Trees K) → ls ≡ k ∷ ks → us ≡ tree_then t ts → AreTrees F ls us → IsTree F k t × AreTrees F ks ts
  trees-inside F ls us k ks t ts e f are_none = absurd cc
  trees-inside F ls us k ks t ts e f (are_then l u rest more is are) =
      let here : l ≡ k = cc in
      let below : rest ≡ ks = cc in
      let tree : u ≡ t = cc in
      let trees : more ≡ ts = cc in
      (subst (λ x. IsTree F k x) tree (subst (λ x. IsTree F x u) here is), subst (λ x. AreTrees F ks x) trees (subst (λ x. AreTrees F x more) below are))

  pub trees-none : (F : Forms K) (ls : List ℕ) (us : Trees K) → AreTrees F ls us → (ls ≡ [] → us ≡ no_trees) × (us ≡ no_trees → ls ≡ [])
  trees-none F ls us are_none = (λ e. refl, λ e. refl)
  trees-none F ls us (are_then l u rest more is are) = (λ e. absurd cc, λ e. absurd cc)

  -- the second link unfolds to what the first one does
  abbrev pub UnfoldsAs : Forms K → Forms K → ℕ → ℕ → Type 0
  UnfoldsAs F G l m = (t : Tree K) → IsTree F l t → IsTree G m t

  trees-zip : (F G : Forms K) (ls ks : List ℕ) (ts : Trees K) → AllZip (UnfoldsAs F G) ls ks → AreTrees F ls ts → AreTrees G ks ts
  trees-zip F G ls [] ts zip are_none = are_none
  trees-zip F G ls (k ∷ ks) ts zip are_none = absurd zip
  trees-zip F G ls [] ts zip (are_then l t rest more is are) = absurd zip
  trees-zip F G ls (k ∷ ks) ts zip (are_then l t rest more is are) = are_then k t ks more (zip.0 t is) (trees-zip F G rest ks more zip.1 are)

  row-unfolds : (F G : Forms K) (l m : ℕ) (kind : Kind) (ls ks : List ℕ) → F l ≡ Some (node kind ls) → G m ≡ Some (node kind ks) → AllZip (UnfoldsAs F G) ls ks → UnfoldsAs F G l m
  row-unfolds F G l m kind ls ks here there zip t is =
      let inside = tree-inside F l t kind ls here is in
      subst (IsTree G m) (sym inside.1) (is_node_tree m kind ks inside.0 there (trees-zip F G ls ks inside.0 zip inside.2))

-- an entry of each of two sets
pub record Match (K : Type 0) : Type 0 where
  pub first : Entry K
  pub second : Entry K

-- tries of matched entries, for a relation of links that rows of related links have
module _ {K : Type 0} (cmp : K → K → Ordering) (code : K → ℕ) (o : IsTotalOrder cmp) (F G : Forms K) (R : ℕ → ℕ → Type 0)
    (row-follows : (l m : ℕ) (kind : Kind) (ls ks : List ℕ) → F l ≡ Some (node kind ls) → G m ≡ Some (node kind ks) → AllZip R ls ks → R l m) where
  -- the keys are equal by their order and have one code, and the links are related
  abbrev pub AreMatched : Match K → Type 0
  AreMatched w = (cmp w.first.key w.second.key ≡ Equal) × (code w.first.key ≡ code w.second.key) × R w.first.link w.second.link

  -- related links stand at both places, or nothing
  abbrev PlacesMatch : Place → Place → Type 0
  PlacesMatch Empty Empty = Unit {0}
  PlacesMatch Empty (At y) = ⊥
  PlacesMatch Empty (Node m) = ⊥
  PlacesMatch (At x) Empty = ⊥
  PlacesMatch (At x) (At y) = R x y
  PlacesMatch (At x) (Node m) = ⊥
  PlacesMatch (Node l) Empty = ⊥
  PlacesMatch (Node l) (At y) = ⊥
  PlacesMatch (Node l) (Node m) = R l m

  place-links : (q r : Place) → PlacesMatch q r → (is_entry q ≡ is_entry r) × (is_node q ≡ is_node r) × AllZip R (entry_links q) (entry_links r) × AllZip R (node_links q) (node_links r)
  place-links Empty Empty matched = (refl, refl, tt, tt)
  place-links Empty (At y) matched = absurd matched
  place-links Empty (Node m) matched = absurd matched
  place-links (At x) Empty matched = absurd matched
  place-links (At x) (At y) matched = (refl, refl, (matched, tt), tt)
  place-links (At x) (Node m) matched = absurd matched
  place-links (Node l) Empty matched = absurd matched
  place-links (Node l) (At y) matched = absurd matched
  place-links (Node l) (Node m) matched = (refl, refl, tt, (matched, tt))

  -- rows with related links at each position
  rows-match : (l m depth e n e' n' : ℕ) (ls ls' : List ℕ) → IsRow F l depth e n ls → IsRow G m depth e' n' ls' → ((p : ℕ) → p < 32 → PlacesMatch (place_of e n ls p) (place_of e' n' ls' p)) → R l m
  rows-match l m depth e n e' n' ls ls' here there each =
      let entries : e' ≡ e = same-sets e' e there.sets.entries_small here.sets.entries_small (λ p small. has-entry e' n' ls' p ∙ sym ((place-links _ _ (each p small)).0) ∙ sym (has-entry e n ls p)) in
      let nodes : n' ≡ n = same-sets n' n there.sets.nodes_small here.sets.nodes_small (λ p small. has-node e' n' ls' there.sets p small ∙ sym ((place-links _ _ (each p small)).1) ∙ sym (has-node e n ls here.sets p small)) in
      let zip : AllZip R (gather (λ p. entry_links (place_of e n ls p)) 32 ++ gather (λ p. node_links (place_of e n ls p)) 32) (gather (λ p. entry_links (place_of e' n' ls' p)) 32 ++ gather (λ p. node_links (place_of e' n' ls' p)) 32) =
      zip-append R _ _ _ _ (zip-gather R _ _ 32 (λ p small. (place-links _ _ (each p small)).2)) (zip-gather R _ _ 32 (λ p small. (place-links _ _ (each p small)).3)) in
      let left = links-gathered e n ls here.sets in
      let right = links-gathered e' n' ls' there.sets in
      row-follows l m (trie depth e n) ls ls' here.row (there.row ∙ ap (λ x. Some (node (trie depth x n') ls')) entries ∙ ap (λ x. Some (node (trie depth e x) ls')) nodes)
      (subst (λ xs. AllZip R xs ls') (sym left) (subst (λ ys. AllZip R (gather (λ p. entry_links (place_of e n ls p)) 32 ++ gather (λ p. node_links (place_of e n ls p)) 32) ys) (sym right) zip))
    where
      links-gathered : (e n : ℕ) (ls : List ℕ) → AreSets e n ls → ls ≡ gather (λ p. entry_links (place_of e n ls p)) 32 ++ gather (λ p. node_links (place_of e n ls p)) 32
      links-gathered e n ls sets = sym (take-append-drop (rank e 32) ls) ∙ ap (λ xs. xs ++ drop (rank e 32) ls) (entries-gather e n ls sets) ∙ ap (λ ys. gather (λ p. entry_links (place_of e n ls p)) 32 ++ ys) (nodes-gather e n ls sets)

  -- what stands for the first of some matched entries, and for the second
  places-match : (P : List (Match K)) (E D : List (Entry K)) → SameSet (map (λ w. w.first) P) E → SameSet (map (λ w. w.second) P) D → ((w : Match K) → Among w P → AreMatched w)
      → (B C : ℕ → List (Entry K) → Type 0) → ((l m : ℕ) → B l E → C m D → R l m) → (q r : Place) → IsPlace F B q E → IsPlace G C r D → PlacesMatch q r
  places-match P E D s t matched B C again q r here there = by_place q r here there
    where
      sizes : length E ≡ length D
      sizes = omega (arith, same-length _ _ s, same-length _ _ t, length-map P (λ w. w.first), length-map P (λ w. w.second))

      long : (ys : List (Entry K)) (xs : List (Entry K)) → xs ≡ ys → length xs ≡ length ys
      long ys xs e = let size : List (Entry K) → ℕ = length in ap size e

      one : (P : List (Match K)) (x y : ℕ) (j k : K) → map (λ w. w.first) P ≡ entry j x ∷ [] → map (λ w. w.second) P ≡ entry k y ∷ [] → ((w : Match K) → Among w P → AreMatched w) → R x y
      one [] x y j k e f matched = absurd cc
      one (w ∷ []) x y j k e f matched =
          let a : w.first.link ≡ x = (let both : w.first ≡ entry j x = cc in ap (λ (d : Entry K). d.link) both) in
          let b : w.second.link ≡ y = (let both : w.second ≡ entry k y = cc in ap (λ (d : Entry K). d.link) both) in
          subst (λ n. R x n) b (subst (λ n. R n w.second.link) a (matched w (inl refl)).2)
      one (w ∷ v ∷ P) x y j k e f matched = absurd cc

      by_place : (q r : Place) → IsPlace F B q E → IsPlace G C r D → PlacesMatch q r
      by_place Empty Empty here there = tt
      by_place Empty (At y) here there = absurd (omega (arith, sizes, long _ _ here, long _ _ there.1))
      by_place Empty (Node m) here there = absurd (omega (arith, sizes, long _ _ here, there.0))
      by_place (At x) Empty here there = absurd (omega (arith, sizes, long _ _ here.1, long _ _ there))
      by_place (At x) (At y) here there =
          one P x y here.0 there.0
          (same-one (entry here.0 x) (map (λ w. w.first) P) (same-sym _ _ (subst (SameSet (map (λ w. w.first) P)) here.1 s)))
          (same-one (entry there.0 y) (map (λ w. w.second) P) (same-sym _ _ (subst (SameSet (map (λ w. w.second) P)) there.1 t))) matched
      by_place (At x) (Node m) here there = absurd (omega (arith, sizes, long _ _ here.1, there.0))
      by_place (Node l) Empty here there = absurd (omega (arith, sizes, here.0, long _ _ there))
      by_place (Node l) (At y) here there = absurd (omega (arith, sizes, here.0, long _ _ there.1))
      by_place (Node l) (Node m) here there = again l m here.1 there.1

  -- chains of matched entries in one order
  chains-zip : (P : List (Match K)) (l m : Option ℕ) → ((w : Match K) → Among w P → AreMatched w) → AreChainRows F l (map (λ w. w.first) P) → AreChainRows G m (map (λ w. w.second) P) → AllZip R (option_to_list l) (option_to_list m)
  unfolding AreChainRows
  chains-zip [] l m matched here there = subst (λ x. AllZip R (option_to_list x) (option_to_list m)) (sym here) (subst (λ x. AllZip R [] (option_to_list x)) (sym there) tt)
  chains-zip (w ∷ P) l m matched here there =
      let rest = chains-zip P here.next there.next (λ v i. matched v (inr i)) here.rest there.rest in
      subst (λ x. AllZip R (option_to_list x) (option_to_list m)) (sym here.here)
      (subst (λ x. AllZip R (here.link ∷ []) (option_to_list x)) (sym there.here)
      (row-follows here.link there.link chain (w.first.link ∷ option_to_list here.next) (w.second.link ∷ option_to_list there.next) here.row there.row ((matched w (inl refl)).2, rest), tt))

  -- keys that are equal by the order to keys that rise rise too
  less-second : (x y j k : K) → cmp x j ≡ Equal → cmp y k ≡ Equal → cmp x y ≡ Less → cmp j k ≡ Less
  less-second x y j k first second less =
      sym (o.congr x j k first) ∙ o.antisymm x k ∙ ap ordering_reverse (sym (o.congr y k x second)) ∙ sym (o.antisymm x y) ∙ less

  above-second : (v : Match K) (P : List (Match K)) → AreMatched v → ((w : Match K) → Among w P → AreMatched w) → AreAbove cmp v.first.key (map (λ w. w.first) P) → AreAbove cmp v.second.key (map (λ w. w.second) P)
  above-second v [] this matched a = tt
  above-second v (w ∷ P) this matched a =
      (less-second v.first.key w.first.key v.second.key w.second.key this.0 ((matched w (inl refl)).0) a.0, above-second v P this (λ u i. matched u (inr i)) a.1)

  rising-second : (P : List (Match K)) → ((w : Match K) → Among w P → AreMatched w) → IsRising cmp (map (λ w. w.first) P) → IsRising cmp (map (λ w. w.second) P)
  rising-second [] matched r = tt
  rising-second (w ∷ P) matched r = (above-second w P (matched w (inl refl)) (λ u i. matched u (inr i)) r.0, rising-second P (λ u i. matched u (inr i)) r.1)

  chains-match : (P : List (Match K)) (E D : List (Entry K)) (l m : ℕ) → SameSet (map (λ w. w.first) P) E → SameSet (map (λ w. w.second) P) D → ((w : Match K) → Among w P → AreMatched w) → IsChain cmp F l E → IsChain cmp G m D → R l m
  chains-match P E D l m s t matched here there =
      let lift = same-lift (λ (w : Match K). w.first) P (map (λ w. w.first) P) here.entries refl (same_through _ _ _ s (same-sym _ _ here.same)) in
      let Q = lift.0 in
      let all : (w : Match K) → Among w Q → AreMatched w = λ w i. matched w (same-among w Q P (same-sym _ _ lift.1) i) in
      let rising : IsRising cmp (map (λ w. w.first) Q) = subst (IsRising cmp) (sym lift.2) here.rising in
      let second : map (λ w. w.second) Q ≡ there.entries =
      rising-unique cmp o (map (λ w. w.second) Q) there.entries (rising-second Q all rising) there.rising (same_through _ _ _ (same-map (λ w. w.second) Q P (same-sym _ _ lift.1)) (same_through _ _ _ t (same-sym _ _ there.same))) in
      (chains-zip Q (Some l) (Some m) all (subst (AreChainRows F (Some l)) (sym lift.2) here.rows) (subst (AreChainRows G (Some m)) (sym second) there.rows)).0

  -- the roots of tries of matched entries are related
  pub tries-match : (left depth l m : ℕ) (P : List (Match K)) (E D : List (Entry K)) → SameSet (map (λ w. w.first) P) E → SameSet (map (λ w. w.second) P) D → ((w : Match K) → Among w P → AreMatched w)
      → IsTrie cmp code F left depth l E → IsTrie cmp code G left depth m D → R l m
  unfolding IsTrie
  tries-match zero depth l m P E D s t matched here there = chains-match P E D l m s t matched here there
  tries-match (suc left) depth l m P E D s t matched here there =
      rows-match l m depth here.entries here.nodes there.entries there.nodes here.links there.links here.row there.row
      (λ p small. let has_digit : Entry K → Bool = λ e. nat_eq (digit_at (code e.key) depth) p in
      let q : Match K → Bool = λ w. has_digit w.first in
      let kept : filter (λ w. has_digit w.second) P ≡ filter q P = filter-agrees (λ w. has_digit w.second) q P (λ w i. ap (λ n. nat_eq (digit_at n depth) p) (sym ((matched w i).1))) in
      let s' : SameSet (map (λ w. w.first) (filter q P)) (part cmp code depth p E) = subst (λ xs. SameSet xs (part cmp code depth p E)) (filter-map (λ w. w.first) has_digit P) (same-filter has_digit _ E s) in
      let t' : SameSet (map (λ w. w.second) (filter q P)) (part cmp code depth p D) = subst (λ xs. SameSet xs (part cmp code depth p D)) (filter-map (λ w. w.second) has_digit P ∙ ap (map (λ w. w.second)) kept) (same-filter has_digit _ D t) in
      let matched' : (w : Match K) → Among w (filter q P) → AreMatched w = λ w i. matched w (among-kept q w P i) in
      places-match (filter q P) (part cmp code depth p E) (part cmp code depth p D) s' t' matched' (λ k X. IsTrie cmp code F left (suc depth) k X) (λ k X. IsTrie cmp code G left (suc depth) k X)
      (λ j k a b. tries-match left (suc depth) j k (filter q P) (part cmp code depth p E) (part cmp code depth p D) s' t' matched' a b)
      (place_of here.entries here.nodes here.links p) (place_of there.entries there.nodes there.links p) (here.places p small) (there.places p small))

module _ {K : Type 0} (cmp : K → K → Ordering) (code : K → ℕ) (o : IsTotalOrder cmp) where
  -- an entry of one set, twice
  abbrev itself : Entry K → Match K
  itself e = record { first = e; second = e }

  itself-first : (E : List (Entry K)) → map (λ w. w.first) (map itself E) ≡ E
  itself-first [] = refl
  itself-first (e ∷ es) = ap (λ xs. e ∷ xs) (itself-first es)

  itself-second : (E : List (Entry K)) → map (λ w. w.second) (map itself E) ≡ E
  itself-second [] = refl
  itself-second (e ∷ es) = ap (λ xs. e ∷ xs) (itself-second es)

  itself-matched : (F : Forms K) (E : List (Entry K)) (w : Match K) → Among w (map itself E) → AreMatched cmp code o F F (UnfoldsAs F F) (row-unfolds F F) w
  itself-matched F [] w nowhere = absurd nowhere
  itself-matched F (e ∷ es) w (inl same) = subst (λ v. AreMatched cmp code o F F (UnfoldsAs F F) (row-unfolds F F) v) same (tied_itself o e.key, refl, λ t is. is)
  itself-matched F (e ∷ es) w (inr i) = itself-matched F es w i

  pub follows-entries : TrieFollowsEntries cmp code
  follows-entries F l m E D t same here there is =
      tries-match cmp code o F F (UnfoldsAs F F) (row-unfolds F F) LEVELS 0 l m (map itself E) E D (same-is _ _ (itself-first E)) (subst (λ xs. SameSet xs D) (sym (itself-second E)) same) (itself-matched F E) here.trie there.trie t is

  -- another order of the entries
  place-order : (F : Forms K) (left depth : ℕ) → ((k : ℕ) (P Q : List (Entry K)) → SameSet P Q → IsTrie cmp code F left (suc depth) k P → IsTrie cmp code F left (suc depth) k Q)
      → (q : Place) (P Q : List (Entry K)) → SameSet P Q → IsPlace F (λ k X. IsTrie cmp code F left (suc depth) k X) q P → IsPlace F (λ k X. IsTrie cmp code F left (suc depth) k X) q Q
  place-order F left depth again Empty P Q same stands = nil_from_length Q (let size : List (Entry K) → ℕ = length in omega (arith, same-length P Q same, ap size stands))
  place-order F left depth again (At x) P Q same stands = (stands.0, same-one (entry stands.0 x) Q (subst (λ xs. SameSet xs Q) stands.1 same), stands.2)
  place-order F left depth again (Node k) P Q same stands = (omega (arith, stands.0, same-length P Q same), again k P Q same stands.1)

  trie-order : (F : Forms K) (left depth l : ℕ) (E D : List (Entry K)) → SameSet E D → IsTrie cmp code F left depth l E → IsTrie cmp code F left depth l D
  unfolding IsTrie
  trie-order F zero depth l E D same is = record {
    entries = is.entries;
    rows = is.rows;
    rising = is.rising;
    same = same_through _ _ _ is.same same;
    two = omega (arith, is.two, same-length E D same);
  }
  trie-order F (suc left) depth l E D same is = record {
    entries = is.entries;
    nodes = is.nodes;
    links = is.links;
    row = is.row;
    places = λ p small. place-order F left depth (λ k P Q s t. trie-order F left (suc depth) k P Q s t) (place_of is.entries is.nodes is.links p) (part cmp code depth p E) (part cmp code depth p D) (same-filter _ E D same) (is.places p small);
  }

  pub takes-any-order : TrieTakesAnyOrder cmp code
  takes-any-order F l E D same canon = record { trie = trie-order F LEVELS 0 l E D same canon.trie; distinct = same-distinct cmp o E D same canon.distinct }

  -- entries with the same links are the same
  link-keys : (F : Forms K) (E D : List (Entry K)) → map (λ e. e.link) E ≡ map (λ e. e.link) D → ((e : Entry K) → Among e E → IsEntry F e) → ((e : Entry K) → Among e D → IsEntry F e) → E ≡ D
  link-keys F [] [] same are are' = refl
  link-keys F [] (d ∷ ds) same are are' = absurd cc
  link-keys F (e ∷ es) [] same are are' = absurd cc
  link-keys F (e ∷ es) (d ∷ ds) same are are' =
      let link : e.link ≡ d.link = cc in
      let rest : map (λ e. e.link) es ≡ map (λ e. e.link) ds = cc in
      let key : e.key ≡ d.key = (let both : Some e.key ≡ Some d.key = sym (are e (inl refl)) ∙ ap (key_at F) link ∙ are' d (inl refl) in cc) in
      ap (λ k. entry k e.link ∷ es) key ∙ ap (λ l. entry d.key l ∷ es) link ∙ ap (λ xs. d ∷ xs) (link-keys F es ds rest (λ x i. are x (inr i)) (λ x i. are' x (inr i)))

  pub has-one-set : TrieHasOneSet cmp code
  has-one-set F l E D here there =
      let n = length E + length D in
      let left = trie-walk cmp code F LEVELS 0 l E here.trie (LEVELS + n) n (omega arith) (omega arith) in
      let right = trie-walk cmp code F LEVELS 0 l D there.trie (LEVELS + n) n (omega arith) (omega arith) in
      let lift = same-lift (λ (e : Entry K). e.link) E (map (λ e. e.link) E) (map (λ e. e.link) D) refl (same_through _ _ _ (same-sym _ _ left) right) in
      let is = link-keys F lift.0 D lift.2 (λ e i. trie-entries cmp code F LEVELS 0 l E here.trie e (same-among e lift.0 E (same-sym _ _ lift.1) i)) (trie-entries cmp code F LEVELS 0 l D there.trie) in
      subst (SameSet E) is lift.1

-- an entry and the tree that it unfolds to
pub record Planted (K : Type 0) : Type 0 where
  pub of : Entry K
  pub tree : Tree K

module _ {K : Type 0} where
  -- the key that an entry with this tree has
  abbrev pub tree_key : Tree K → Option K
  tree_key cut = None
  tree_key (tree_cell x) = Some x
  tree_key (tree_node kind no_trees) = None
  tree_key (tree_node kind (tree_then cut ts)) = None
  tree_key (tree_node kind (tree_then (tree_cell x) ts)) = Some x
  tree_key (tree_node kind (tree_then (tree_node k us) ts)) = None

  value-tree : (F : Forms K) (l : ℕ) (k : K) (t : Tree K) → value_of (F l) ≡ Some k → IsTree F l t → t ≡ tree_cell k
  value-tree F a k t value (is_cell_tree l x row) = (let same : Some x ≡ Some k = sym (ap value_of row) ∙ value in let inside : x ≡ k = cc in ap tree_cell inside)
  value-tree F a k t value (is_node_tree l kind links us row are) = absurd (let none : None ≡ Some k = sym (ap value_of row) ∙ value in cc)

  first-tree : (F : Forms K) (kind : Kind) (ls : List ℕ) (k : K) (us : Trees K) → first_value F ls ≡ Some k → AreTrees F ls us → tree_key (tree_node kind us) ≡ Some k
  first-tree F kind ls k us value are_none = absurd cc
  first-tree F kind ls k us value (are_then l t rest more is are) = ap (λ x. tree_key (tree_node kind (tree_then x more))) (value-tree F l k t value is)

  pub key-tree : (F : Forms K) (l : ℕ) (k : K) (t : Tree K) → key_at F l ≡ Some k → IsTree F l t → tree_key t ≡ Some k
  key-tree F a k t key (is_cell_tree l x row) = sym (ap (key_of F) row) ∙ key
  key-tree F a k t key (is_node_tree l kind links us row are) = by_kind kind (sym (ap (key_of F) row) ∙ key)
    where
      by_kind : (kind : Kind) → key_of F (Some (node kind links)) ≡ Some k → tree_key (tree_node kind us) ≡ Some k
      by_kind leaf is = absurd cc
      by_kind (inner height) is = absurd cc
      by_kind (trie d e n) is = absurd cc
      by_kind chain is = absurd cc
      by_kind pair is = first-tree F pair links k us is are
      by_kind state is = absurd cc

  -- each entry beside its tree
  pub plant : (F : Forms K) (E : List (Entry K)) (ts : List (Tree K)) → HaveTrees F E ts → (Z : List (Planted K)) × (map (λ z. z.of) Z ≡ E) × (map (λ z. z.tree) Z ≡ ts) × ((z : Planted K) → Among z Z → IsTree F z.of.link z.tree)
  plant F [] [] are = ([], refl, refl, λ z nowhere. absurd nowhere)
  plant F [] (t ∷ ts) are = absurd (let none : tree_then t (trees_of ts) ≡ no_trees = (trees-none F [] (tree_then t (trees_of ts)) are).0 refl in cc)
  plant F (e ∷ es) [] are = absurd (let none : e.link ∷ map (λ e. e.link) es ≡ [] = (trees-none F (e.link ∷ map (λ e. e.link) es) no_trees are).1 refl in cc)
  plant F (e ∷ es) (t ∷ ts) are =
      let inside = trees-inside F (e.link ∷ map (λ e. e.link) es) (tree_then t (trees_of ts)) e.link (map (λ e. e.link) es) t (trees_of ts) refl refl are in
      let rest = plant F es ts inside.1 in
      let first : Planted K = record { of = e; tree = t } in
      (first ∷ rest.0, ap (λ xs. e ∷ xs) rest.1, ap (λ xs. t ∷ xs) rest.2, λ z i. by_place rest.0 z i inside.0 rest.3)
    where
      by_place : (Z : List (Planted K)) (z : Planted K) → (let first : Planted K = record { of = e; tree = t } in first ≡ z) ⊎ Among z Z → IsTree F e.link t → ((z : Planted K) → Among z Z → IsTree F z.of.link z.tree) → IsTree F z.of.link z.tree
      by_place Z z (inl same) is others = subst (λ (y : Planted K). IsTree F y.of.link y.tree) same is
      by_place Z z (inr i) is others = others z i

  -- an entry beside a tree to which it unfolds
  abbrev pub IsPlanted : Forms K → Planted K → Type 0
  IsPlanted F z = IsEntry F z.of × IsTree F z.of.link z.tree

  -- entries beside related trees match, where those of each two related trees do
  module _ (F G : Forms K) (Q : Tree K → Tree K → Type 0) (M : Match K → Type 0)
      (each : (z y : Planted K) → Q z.tree y.tree → IsPlanted F z → IsPlanted G y → M (record { first = z.of; second = y.of })) where
    pub matches : (Z Y : List (Planted K)) → AllZip Q (map (λ z. z.tree) Z) (map (λ z. z.tree) Y) → ((z : Planted K) → Among z Z → IsPlanted F z) → ((z : Planted K) → Among z Y → IsPlanted G z)
        → (P : List (Match K)) × (map (λ w. w.first) P ≡ map (λ z. z.of) Z) × (map (λ w. w.second) P ≡ map (λ z. z.of) Y) × ((w : Match K) → Among w P → M w)
    matches [] [] related here there = ([], refl, refl, λ w nowhere. absurd nowhere)
    matches [] (y ∷ ys) related here there = absurd related
    matches (z ∷ zs) [] related here there = absurd related
    matches (z ∷ zs) (y ∷ ys) related here there =
        let rest = matches zs ys related.1 (λ x i. here x (inr i)) (λ x i. there x (inr i)) in
        let first : Match K = record { first = z.of; second = y.of } in
        (first ∷ rest.0, ap (λ xs. z.of ∷ xs) rest.1, ap (λ xs. y.of ∷ xs) rest.2, λ w i. by_place rest.0 w i (each z y related.0 (here z (inl refl)) (there y (inl refl))) rest.3)
      where
        by_place : (P : List (Match K)) (w : Match K) → (let first : Match K = record { first = z.of; second = y.of } in first ≡ w) ⊎ Among w P → M (record { first = z.of; second = y.of }) → ((w : Match K) → Among w P → M w) → M w
        by_place P w (inl same) matched others = subst M same matched
        by_place P w (inr i) matched others = others w i

module _ {K : Type 0} (cmp : K → K → Ordering) (code : K → ℕ) (o : IsTotalOrder cmp) where
  twin-match : (F G : Forms K) (z y : Planted K) → z.tree ≡ y.tree → IsPlanted F z → IsPlanted G y → AreMatched cmp code o F G (UnfoldsAs F G) (row-unfolds F G) (record { first = z.of; second = y.of })
  twin-match F G z y tree is at =
      let key : z.of.key ≡ y.of.key = (let both : Some z.of.key ≡ Some y.of.key = sym (key-tree F z.of.link z.of.key z.tree is.0 is.1) ∙ ap tree_key tree ∙ key-tree G y.of.link y.of.key y.tree at.0 at.1 in cc) in (
        subst (λ k. cmp z.of.key k ≡ Equal) key (tied_itself o z.of.key),
        ap code key,
        λ t u. subst (IsTree G y.of.link) (sym (IsTree-unique F z.of.link t z.tree u is.1 ∙ tree)) at.1,
      )

  pub follows-trees : TrieFollowsTrees cmp code
  follows-trees F G l m E D ts us t same here_trees there_trees here there is =
      let first = plant F E ts here_trees in
      let second = plant G D us there_trees in
      let lift = same-lift (λ (z : Planted K). z.tree) first.0 ts us first.2 same in
      let both = matches F G (λ t u. t ≡ u) (λ w. AreMatched cmp code o F G (UnfoldsAs F G) (row-unfolds F G) w) (twin-match F G) lift.0 second.0 (subst (AllZip (λ t u. t ≡ u) (map (λ z. z.tree) lift.0)) (lift.2 ∙ sym second.2) (zip-same (map (λ z. z.tree) lift.0))) (λ z i. here_is z (same-among z lift.0 first.0 (same-sym _ _ lift.1) i)) (λ z i. there_is z i) in
      let of_first : SameSet (map (λ w. w.first) both.0) E =
      subst (λ xs. SameSet xs E) (sym both.1) (subst (SameSet (map (λ z. z.of) lift.0)) first.1 (same-map (λ z. z.of) lift.0 first.0 (same-sym _ _ lift.1))) in
      tries-match cmp code o F G (UnfoldsAs F G) (row-unfolds F G) LEVELS 0 l m both.0 E D of_first (same-is _ _ (both.2 ∙ second.1)) both.3 here.trie there.trie t is
    where
      here_is : (z : Planted K) → Among z (plant F E ts here_trees).0 → IsEntry F z.of × IsTree F z.of.link z.tree
      here_is z i = (
        trie-entries cmp code F LEVELS 0 l E here.trie z.of (subst (Among z.of) (plant F E ts here_trees).1 (among-map (λ (y : Planted K). y.of) z _ i)),
        (plant F E ts here_trees).3 z i,
      )

      there_is : (z : Planted K) → Among z (plant G D us there_trees).0 → IsEntry G z.of × IsTree G z.of.link z.tree
      there_is z i = (
        trie-entries cmp code G LEVELS 0 m D there.trie z.of (subst (Among z.of) (plant G D us there_trees).1 (among-map (λ (y : Planted K). y.of) z _ i)),
        (plant G D us there_trees).3 z i,
      )

pub names-keys : {K : Type 0} (cmp : K → K → Ordering) (code : K → ℕ) → TrieNamesKeys cmp code
names-keys cmp code F l E canon = all-among (IsEntry F) E (trie-entries cmp code F LEVELS 0 l E canon.trie)
  where
    all-among : {X : Type 0} (Q : X → Type 0) (xs : List X) → ((x : X) → Among x xs → Q x) → All Q xs
    all-among Q [] each = All-nil Q
    all-among Q (x ∷ xs) each = All-cons Q x xs (each x (inl refl)) (all-among Q xs (λ y i. each y (inr i)))
