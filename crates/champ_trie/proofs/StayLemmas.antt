-- What a trie's root reaches, and that the trie stays where that is the same.
use Rattle.std.proofs.Common.{◌≡◌, ◌≢◌, ◌⊎◌, ℕ, zero, suc, ◌+◌, ◌<◌, List, [], ◌∷◌, get_or, refl, ap, sym, subst, ◌∙◌, arith, cond, true, false, Bool, Option, Some, None, IsSome, inl, inr}
use Rattle.std.specs.Prelude.{nat_eq, option_to_list, option_map}
use Rattle.std.specs.List.{All, filter}
use Rattle.std.proofs.lemmas.List.Elements.{All-nil, All-cons, All-head, All-tail, All-weaker}
use Rattle.std.specs.declared.cmp.Ordering.{Ordering}
use Rattle.std.proofs.lemmas.Bool.{cases_Bool, cases_eq, eq-eqb}
use Rattle.std.proofs.lemmas.List.{get_or_default}
use Rattle.elem_core.specs.Codes.{digit_at}
use Rattle.elem_core.specs.declared.codes.TheConstants.{DEEPEST, LEVELS}
use Rattle.node_heap.specs.Links.{count, HasLink, Reaches, SameBelow, here, below}
use Rattle.node_heap.specs.Forms.{Form, Forms, Kind, cell, node, leaf, inner, trie, chain, pair, state, links_of, links_in, value_of, head_of, form_of}
use Rattle.node_heap.specs.Heap.{Heap, row_at, form_at, links_at}
use Rattle.node_heap.specs.Calls.{KeepsBelow, Extends}
use Rattle.node_heap.specs.InPlace.{ReachesAround, at_once}
use Rattle.node_heap.proofs.Reach.{Reaches-then, Reaches-by}
use Rattle.node_heap.proofs.Ways.{ReachesAround-then}
use Rattle.champ_chain.specs.Entry.{Entry, entry, key_at, key_of, first_value, SameSet, same_none, same_first, same_turned, same_through}
use Rattle.champ_chain.specs.Chain.{AreChainRows}
use Rattle.champ_chain.proofs.FrameLemmas.{links-form, form-live}
use Rattle.node_heap.proofs.BuildLemmas.{count-cons}
use Rattle.champ_chain.proofs.CopyLemmas.{one_at-same}
use Rattle.champ_trie.specs.Bits.{has, rank}
use Rattle.champ_trie.specs.Trie.{IsCanon, IsTrie, IsPlace, IsRow, part, place_of}
use Rattle.champ_trie.specs.Laws.{SameAround}
use Rattle.champ_trie.specs.declared.place.Place.{Place}
use Rattle.champ_trie.specs.declared.place.Place.TheVariants.{Entry as At, Node, Empty}
use Rattle.champ_trie.proofs.HoldLemmas.{count-at}
use Rattle.champ_trie.proofs.PlaceLemmas.{place-entry, place-node, place-empty, entry-in, node-in}

module _ {X : Type 0} (P : X → Type 0) where
  -- what holds of a set holds of it in any order
  pub all-same : (xs ys : List X) → SameSet xs ys → All P xs → All P ys
  all-same xs ys same_none all = all
  all-same xs ys (same_first x us vs s) all = All-cons P x vs (All-head P x us all) (all-same us vs s (All-tail P x us all))
  all-same xs ys (same_turned x y us) all =
      let rest = All-tail P x (y ∷ us) all in
      All-cons P y (x ∷ us) (All-head P y us rest) (All-cons P x us (All-head P x (y ∷ us) all) (All-tail P y us rest))
  all-same xs ys (same_through us vs ws s t) all = all-same vs ws t (all-same us vs s all)

  -- what holds of the parts by digits holds of all
  pub all-parts : (digit : X → ℕ) → ((x : X) → digit x < 32) → (xs : List X) → ((p : ℕ) → p < 32 → All P (filter (λ x. nat_eq (digit x) p) xs)) → All P xs
  all-parts digit low [] parts = All-nil P
  all-parts digit low (x ∷ xs) parts =
      All-cons P x xs (first (parts (digit x) (low x))) (all-parts digit low xs (λ p small. rest p (nat_eq (digit x) p) (parts p small)))
    where
      among : ℕ → List X
      among p = filter (λ y. nat_eq (digit y) p) xs

      first : All P (cond (nat_eq (digit x) (digit x)) (x ∷ among (digit x)) (among (digit x))) → P x
      first all = All-head P x (among (digit x)) (subst (λ b. All P (cond b (x ∷ among (digit x)) (among (digit x)))) (eq-eqb (digit x) (digit x) refl) all)

      rest : (p : ℕ) (b : Bool) → All P (cond b (x ∷ among p) (among p)) → All P (among p)
      rest p true all = All-tail P x (among p) all
      rest p false all = all

module _ {K : Type 0} where
  pub has-first : (F : Forms K) (l k : ℕ) (kind : Kind) (ks : List ℕ) → F l ≡ Some (node kind (k ∷ ks)) → HasLink (links_in F) l k
  has-first F l k kind ks is = omega (arith, ap (λ r. count k (links_of r)) is, count-cons k k ks, one_at-same k)

  pub has-next : (F : Forms K) (l k m : ℕ) (kind : Kind) → F l ≡ Some (node kind (k ∷ m ∷ [])) → HasLink (links_in F) l m
  has-next F l k m kind is = omega (arith, ap (λ r. count m (links_of r)) is, count-cons m k (m ∷ []), count-cons m m [], one_at-same m)

  -- a chain's rows reach their entries
  pub rows-reach : (F : Forms K) (l : ℕ) (es : List (Entry K)) (o : Option ℕ) → ((m : ℕ) → o ≡ Some m → Reaches (links_in F) l m) → AreChainRows F o es → All (λ e. Reaches (links_in F) l e.link) es
  unfolding AreChainRows
  rows-reach F l [] o down rows = All-nil (λ e. Reaches (links_in F) l e.link)
  rows-reach F l (e ∷ es) o down rows =
      let at : Reaches (links_in F) l rows.link = down rows.link rows.here in
      All-cons (λ e. Reaches (links_in F) l e.link) e es
      (Reaches-then (links_in F) l rows.link e.link at (has-first F rows.link e.link chain (option_to_list rows.next) rows.row))
      (rows-reach F l es rows.next (λ m is. Reaches-then (links_in F) l rows.link m at (has-next F rows.link e.link m chain (rows.row ∙ ap (λ n. Some (node chain (e.link ∷ option_to_list n))) is))) rows.rest)

  -- what stands at a position is among the row's links
  pub at-link : (F : Forms K) (l d e n p x : ℕ) (ls : List ℕ) → IsRow F l d e n ls → p < 32 → place_of e n ls p ≡ At x → HasLink (links_in F) l x
  at-link F l d e n p x ls row small is = elim (cases_Bool (has e p)) [
    | inl there ↦
        let found : x ≡ get_or ls (rank e p) 0 = (let both : At x ≡ At (get_or ls (rank e p) 0) = sym is ∙ place-entry e n ls p there in cc) in
        omega (arith, ap (λ r. count x (links_of r)) row.row, count-at ls (rank e p) x (entry-in e n ls p small row.sets there) (found ∙ get_or_default ls (rank e p) 0 x (entry-in e n ls p small row.sets there)))
    | inr absent ↦ elim (cases_Bool (has n p)) [
      | inl there ↦ absurd (let bad = sym is ∙ place-node e n ls p absent there in cc)
      | inr none ↦ absurd (let bad = sym is ∙ place-empty e n ls p absent none in cc)
    ]
  ]

  pub node-link : (F : Forms K) (l d e n p x : ℕ) (ls : List ℕ) → IsRow F l d e n ls → p < 32 → place_of e n ls p ≡ Node x → HasLink (links_in F) l x
  node-link F l d e n p x ls row small is = elim (cases_Bool (has e p)) [
    | inl there ↦ absurd (let bad = sym is ∙ place-entry e n ls p there in cc)
    | inr absent ↦ elim (cases_Bool (has n p)) [
      | inl there ↦
          let found : x ≡ get_or ls (rank e 32 + rank n p) 0 = (let both : Node x ≡ Node (get_or ls (rank e 32 + rank n p) 0) = sym is ∙ place-node e n ls p absent there in cc) in
          omega (arith, ap (λ r. count x (links_of r)) row.row, count-at ls (rank e 32 + rank n p) x (node-in e n ls p small row.sets there) (found ∙ get_or_default ls (rank e 32 + rank n p) 0 x (node-in e n ls p small row.sets there)))
      | inr none ↦ absurd (let bad = sym is ∙ place-empty e n ls p absent none in cc)
    ]
  ]

  module _ (cmp : K → K → Ordering) (code : K → ℕ) where
    -- a trie's root reaches its entries
    pub trie-reach : (F : Forms K) (left d l : ℕ) (E : List (Entry K)) → IsTrie cmp code F left d l E → All (λ e. Reaches (links_in F) l e.link) E
    unfolding IsTrie
    trie-reach F zero d l E is =
        all-same (λ e. Reaches (links_in F) l e.link) is.entries E is.same (rows-reach F l is.entries (Some l) (λ m same. subst (λ k. Reaches (links_in F) l k) (let e : Some l ≡ Some m = same in cc) (here l)) is.rows)
    trie-reach F (suc left) d l E is =
        all-parts (λ e. Reaches (links_in F) l e.link) (λ e. digit_at (code e.key) d) (λ e. omega arith) E
        (λ p small. by_place p small (λ k. trie-reach F left (suc d) k (part cmp code d p E)) (place_of is.entries is.nodes is.links p) refl (is.places p small))
      where
        by_place : (p : ℕ) → p < 32 → ((k : ℕ) → IsTrie cmp code F left (suc d) k (part cmp code d p E) → All (λ e. Reaches (links_in F) k e.link) (part cmp code d p E))
            → (place : Place) → place_of is.entries is.nodes is.links p ≡ place → IsPlace F (λ k P. IsTrie cmp code F left (suc d) k P) place (part cmp code d p E) → All (λ e. Reaches (links_in F) l e.link) (part cmp code d p E)
        by_place p small deeper Empty at none = subst (All (λ e. Reaches (links_in F) l e.link)) (sym none) (All-nil (λ e. Reaches (links_in F) l e.link))
        by_place p small deeper (At x) at one =
            subst (All (λ e. Reaches (links_in F) l e.link)) (sym one.1)
            (All-cons (λ e. Reaches (links_in F) l e.link) (entry one.0 x) [] (below l x x (at-link F l d is.entries is.nodes p x is.links is.row small at) (here x)) (All-nil (λ e. Reaches (links_in F) l e.link)))
        by_place p small deeper (Node k) at more =
            All-weaker (λ e. Reaches (links_in F) k e.link) (λ e. Reaches (links_in F) l e.link) (λ e down. below l k e.link (node-link F l d is.entries is.nodes p k is.links is.row small at) down) (part cmp code d p E) (deeper k more.1)

    pub canon-reach : (F : Forms K) (root : ℕ) (E : List (Entry K)) → IsCanon cmp code F root E → All (λ e. Reaches (links_in F) root e.link) E
    canon-reach F root E canon = trie-reach F LEVELS 0 root E canon.trie

  -- an entry keeps its key where its row is the same and a pair's key cell has the same value
  key-same : (F G : Forms K) (l : ℕ) (k : K) → G l ≡ F l → ((j : ℕ) (js : List ℕ) → F l ≡ Some (node pair (j ∷ js)) → value_of (F j) ≡ Some k → value_of (G j) ≡ Some k) → key_at F l ≡ Some k → key_at G l ≡ Some k
  key-same F G l k same cell_stays is = by_form (F l) refl is
    where
      by_links : (links : List ℕ) → F l ≡ Some (node pair links) → first_value F links ≡ Some k → first_value G links ≡ Some k
      by_links [] e is = absurd cc
      by_links (j ∷ js) e is = cell_stays j js e is

      by_form : (r : Option (Form K)) → F l ≡ r → key_of F r ≡ Some k → key_of G (G l) ≡ Some k
      by_form None e is = cc
      by_form (Some (cell y)) e is = ap (key_of G) (same ∙ e) ∙ is
      by_form (Some (node leaf links)) e is = cc
      by_form (Some (node (inner height) links)) e is = cc
      by_form (Some (node (trie d s n) links)) e is = cc
      by_form (Some (node chain links)) e is = cc
      by_form (Some (node pair links)) e is = ap (key_of G) (same ∙ e) ∙ by_links links e is
      by_form (Some (node state links)) e is = cc

  -- where P holds, rows of tries and chains are the same, entries keep their keys, and P holds of what such a row links to
  record KeepsWhere (F G : Forms K) (P : ℕ → Type 0) : Type 0 where
    rows : (l : ℕ) (kind : Kind) (ls : List ℕ) → P l → kind ≢ pair → F l ≡ Some (node kind ls) → G l ≡ F l
    keys : (l : ℕ) (k : K) → P l → key_at F l ≡ Some k → key_at G l ≡ Some k
    next : (l m : ℕ) (kind : Kind) (ls : List ℕ) → P l → kind ≢ pair → F l ≡ Some (node kind ls) → HasLink (links_in F) l m → P m

  module _ (F G : Forms K) (P : ℕ → Type 0) (keeps : KeepsWhere F G P) where
    rows-where : (o : Option ℕ) (es : List (Entry K)) → ((m : ℕ) → o ≡ Some m → P m) → AreChainRows F o es → AreChainRows G o es
    unfolding AreChainRows
    rows-where o [] there rows = rows
    rows-where o (e ∷ es) there rows =
        let at : P rows.link = there rows.link rows.here in
        let no_pair : chain ≢ pair = λ e. cc in
        let next : (m : ℕ) → HasLink (links_in F) rows.link m → P m = λ m has. keeps.next rows.link m chain (e.link ∷ option_to_list rows.next) at no_pair rows.row has in
        record {
          link = rows.link;
          next = rows.next;
          here = rows.here;
          row = keeps.rows rows.link chain (e.link ∷ option_to_list rows.next) at no_pair rows.row ∙ rows.row;
          key = keeps.keys e.link e.key (next e.link (has-first F rows.link e.link chain (option_to_list rows.next) rows.row)) rows.key;
          rest = rows-where rows.next es (λ m is. next m (has-next F rows.link e.link m chain (rows.row ∙ ap (λ n. Some (node chain (e.link ∷ option_to_list n))) is))) rows.rest;
        }

    module _ (cmp : K → K → Ordering) (code : K → ℕ) where
      trie-where : (left d l : ℕ) (E : List (Entry K)) → P l → IsTrie cmp code F left d l E → IsTrie cmp code G left d l E
      unfolding IsTrie
      trie-where zero d l E at is = record {
        entries = is.entries;
        rows = rows-where (Some l) is.entries (λ m same. subst P (let e : Some l ≡ Some m = same in cc) at) is.rows;
        rising = is.rising;
        same = is.same;
        two = is.two;
      }
      trie-where (suc left) d l E at is = record {
        entries = is.entries;
        nodes = is.nodes;
        links = is.links;
        row = record { row = keeps.rows l (trie d is.entries is.nodes) is.links at (no_pair is.entries is.nodes) is.row.row ∙ is.row.row; sets = is.row.sets };
        places = λ p small. by_place p small (λ k under. trie-where left (suc d) k (part cmp code d p E) under) (place_of is.entries is.nodes is.links p) refl (is.places p small);
      }
        where
          no_pair : (e n : ℕ) → trie d e n ≢ pair
          no_pair e n same = cc

          next : (m : ℕ) → HasLink (links_in F) l m → P m
          next m has = keeps.next l m (trie d is.entries is.nodes) is.links at (no_pair is.entries is.nodes) is.row.row has

          by_place : (p : ℕ) → p < 32 → ((k : ℕ) → P k → IsTrie cmp code F left (suc d) k (part cmp code d p E) → IsTrie cmp code G left (suc d) k (part cmp code d p E))
              → (place : Place) → place_of is.entries is.nodes is.links p ≡ place → IsPlace F (λ k P. IsTrie cmp code F left (suc d) k P) place (part cmp code d p E) → IsPlace G (λ k P. IsTrie cmp code G left (suc d) k P) place (part cmp code d p E)
          by_place p small deeper Empty at none = none
          by_place p small deeper (At x) at one = (one.0, one.1, keeps.keys x one.0 (next x (at-link F l d is.entries is.nodes p x is.links is.row small at)) one.2)
          by_place p small deeper (Node k) at more = (more.0, deeper k (next k (node-link F l d is.entries is.nodes p k is.links is.row small at)) more.1)

  module _ (F G : Forms K) (root : ℕ) (same : SameBelow (links_in F) F G root) where
    pub key-stays : (l : ℕ) (k : K) → Reaches (links_in F) root l → key_at F l ≡ Some k → key_at G l ≡ Some k
    key-stays l k down is = key-same F G l k (same l down) (λ j js e value. ap value_of (same j (Reaches-then (links_in F) root l j down (has-first F l j pair js e))) ∙ value) is

    reached-where : KeepsWhere F G (Reaches (links_in F) root)
    reached-where = record {
      rows = λ l kind ls down other is. same l down;
      keys = key-stays;
      next = λ l m kind ls down other is has. Reaches-then (links_in F) root l m down has;
    }

    pub rows-stay : (o : Option ℕ) (es : List (Entry K)) → ((m : ℕ) → o ≡ Some m → Reaches (links_in F) root m) → AreChainRows F o es → AreChainRows G o es
    rows-stay = rows-where F G (Reaches (links_in F) root) reached-where

    module _ (cmp : K → K → Ordering) (code : K → ℕ) where
      pub trie-stays : (left d l : ℕ) (E : List (Entry K)) → Reaches (links_in F) root l → IsTrie cmp code F left d l E → IsTrie cmp code G left d l E
      trie-stays = trie-where F G (Reaches (links_in F) root) reached-where cmp code

      pub canon-stays : (E : List (Entry K)) → IsCanon cmp code F root E → IsCanon cmp code G root E
      canon-stays E canon = record { trie = trie-stays LEVELS 0 root E (here root) canon.trie; distinct = canon.distinct }

  module _ (F G : Forms K) (root link : ℕ) (around : SameAround F G root link) where
    abbrev IsAround : ℕ → Type 0
    IsAround l = (l ≡ link) ⊎ ReachesAround (links_in F) link root l

    no-value : (k : K) (r : Option (Form K)) → head_of r ≡ Some pair → value_of r ≡ Some k → ⊥
    no-value k None head value = cc
    no-value k (Some (cell x)) head value = cc
    no-value k (Some (node kind ls)) head value = cc

    no-row : (l : ℕ) (kind : Kind) (ls : List ℕ) → l ≡ link → kind ≢ pair → F l ≡ Some (node kind ls) → ⊥
    no-row l kind ls at other is = let same : Some kind ≡ Some pair = sym (ap head_of is) ∙ ap (λ m. head_of (F m)) at ∙ around.is_pair in other cc

    pair-cell : (l j : ℕ) (js : List ℕ) (k : K) → ReachesAround (links_in F) link root l → F l ≡ Some (node pair (j ∷ js)) → value_of (F j) ≡ Some k → value_of (G j) ≡ Some k
    pair-cell l j js k way e value = elim (cases_eq j link) as (λ _. value_of (G j) ≡ Some k) [
      | inl at ↦ absurd (no-value k (F j) (ap (λ m. head_of (F m)) at ∙ around.is_pair) value)
      | inr other ↦ ap value_of (around.same j (ReachesAround-then (links_in F) link root l j way (has-first F l j pair js e) other)) ∙ value
    ]

    keys-around : (l : ℕ) (k : K) → IsAround l → key_at F l ≡ Some k → key_at G l ≡ Some k
    keys-around l k (inl at) is = ap (key_at G) at ∙ (around.has_key ∙ (sym around.had_key ∙ (ap (key_at F) (sym at) ∙ is)))
    keys-around l k (inr way) is = key-same F G l k (around.same l way) (λ j js e value. pair-cell l j js k way e value) is

    rows-around : (l : ℕ) (kind : Kind) (ls : List ℕ) → IsAround l → kind ≢ pair → F l ≡ Some (node kind ls) → G l ≡ F l
    rows-around l kind ls (inl at) other is = absurd (no-row l kind ls at other is)
    rows-around l kind ls (inr way) other is = around.same l way

    next-around : (l m : ℕ) (kind : Kind) (ls : List ℕ) → IsAround l → kind ≢ pair → F l ≡ Some (node kind ls) → HasLink (links_in F) l m → IsAround m
    next-around l m kind ls (inl at) other is has = absurd (no-row l kind ls at other is)
    next-around l m kind ls (inr way) other is has = elim (cases_eq m link) as (λ _. IsAround m) [
      | inl at ↦ inl at
      | inr apart ↦ inr (ReachesAround-then (links_in F) link root l m way has apart)
    ]

    around-where : KeepsWhere F G IsAround
    around-where = record { rows = rows-around; keys = keys-around; next = next-around }

    root-around : IsAround root
    root-around = elim (cases_eq root link) as (λ _. IsAround root) [
      | inl at ↦ inl at
      | inr other ↦ inr (at_once root other)
    ]

    -- a trie stays around one of its pairs
    pub canon-around : (cmp : K → K → Ordering) (code : K → ℕ) (E : List (Entry K)) → IsCanon cmp code F root E → IsCanon cmp code G root E
    canon-around cmp code E canon = record { trie = trie-where F G IsAround around-where cmp code LEVELS 0 root E root-around canon.trie; distinct = canon.distinct }

module _ {T : Type 0} where
  -- what a link reaches stays by its forms too
  pub forms-below : (old new : Heap T) (l : ℕ) → KeepsBelow old new l → SameBelow (links_in (form_at old)) (form_at old) (form_at new) l
  forms-below old new l keeps m down = ap (option_map form_of) (keeps m (Reaches-by (links_in (form_at old)) (links_at old) (λ k. sym (links-form old k)) l m down))

  -- a trie's root is there
  trie-live : (cmp : T → T → Ordering) (code : T → ℕ) (h : Heap T) (left d l : ℕ) (E : List (Entry T)) → IsTrie cmp code (form_at h) (suc left) d l E → IsSome (row_at h l)
  unfolding IsTrie
  trie-live cmp code h left d l E is = form-live h l _ is.row.row

  pub canon-live : (cmp : T → T → Ordering) (code : T → ℕ) (h : Heap T) (root : ℕ) (E : List (Entry T)) → IsCanon cmp code (form_at h) root E → IsSome (row_at h root)
  canon-live cmp code h root E canon = trie-live cmp code h DEEPEST 0 root E canon.trie

  -- a trie stays where every row stays
  pub canon-extended : (cmp : T → T → Ordering) (code : T → ℕ) (old new : Heap T) → Extends old new → (root : ℕ) (E : List (Entry T)) → IsCanon cmp code (form_at old) root E → IsCanon cmp code (form_at new) root E
  canon-extended cmp code old new ext root E canon =
      canon-stays (form_at old) (form_at new) root (forms-below old new root (ext.kept root (canon-live cmp code old root E canon))) cmp code E canon
