-- Paths over forms: they stay where all below their rows does, go down from row to row, miss what names other keys, and that to a pair begins with that of an edit.
use Rattle.std.proofs.Common.{◌≡◌, ◌≢◌, ℕ, suc, zero, ◌<◌, ◌≤◌, List, [], ◌∷◌, length, get_or, refl, ap, sym, subst, ◌∙◌, arith, Option, Some, None, ◌+◌, ◌++◌, take, min, inl, inr}
use Rattle.std.specs.Prelude.{option_to_list, ◌↔◌, ◌==◌, if◌then◌else◌}
use Rattle.std.specs.Ordering.{match_ordering}
use Rattle.std.specs.declared.cmp.Ordering.{Ordering}
use Rattle.std.specs.declared.cmp.Ordering.TheVariants.{Less, Equal, Greater}
use Rattle.std.proofs.lemmas.Bool.{cases_eq, cases_lt}
use Rattle.std.proofs.lemmas.List.{take_all, get_or-take, length-take}
use Rattle.elem_core.specs.Codes.{digit_at}
use Rattle.node_heap.specs.Links.{count, HasLink, SameBelow, here}
use Rattle.node_heap.specs.Forms.{Forms, node, chain, links_in, links_of}
use Rattle.node_heap.specs.Heap.{Heap, owners_at, one_at, form_at, links_at}
use Rattle.node_heap.specs.Owner.{KeepsAlone, alone, written}
use Rattle.node_heap.proofs.CallerLemmas.{test_other, count-link as count-cons, SameBelow-link, one_at-flip, alone-yes, alone-no, written-cons, down-end, down-then}
use Rattle.node_heap.proofs.BesidePath.{IsDown}
use Rattle.champ_chain.specs.Entry.{Entry, key_at, key_of}
use Rattle.champ_chain.specs.Chain.{IsChain, AreChainRows}
use Rattle.champ_chain.proofs.CallerLemmas.{links-form}
use Rattle.champ_trie.specs.Trie.{IsTrie, IsPlace, IsRow, part, place_of}
use Rattle.champ_trie.specs.declared.place.Place.{Place}
use Rattle.champ_trie.specs.declared.place.Place.TheVariants.{Entry as At, Node, Empty}
use Rattle.champ_trie.proofs.CallerLemmas.{at-link, node-link, has-first, has-next, key-stays}
use Rattle.edit_trie.specs.Path.{rows_to, rows_from_place, place_in, chain_rows, order_in, order_of, entry_in, next_in, own_entry, row_and_entry, edit_rows, pair_rows, KeepsShared}

-- what stays from a row on: each row without a key, the keys, and what a row without one leads to
pub record Stays {K : Type 0} (F G : Forms K) (S : ℕ → Type 0) : Type 0 where
  pub row : (l : ℕ) → S l → key_at F l ≡ None → G l ≡ F l
  pub key : (x : ℕ) (k : K) → S x → key_at F x ≡ Some k → key_at G x ≡ Some k
  pub next : (l m : ℕ) → S l → key_at F l ≡ None → HasLink (links_in F) l m → S m

-- where all below it is the same
pub stays-below : {K : Type 0} (F G : Forms K) → Stays F G (SameBelow (links_in F) F G)
stays-below F G = record {
  row = λ l same none. same l (here l);
  key = λ x k same keyed. key-stays F G x same x k (here x) keyed;
  next = λ l m same none has. SameBelow-link (links_in F) F G l m has same;
}

module _ {T : Type 0} (h : Heap T) where
  -- a row that names no entry: each row of a path that is followed by another
  abbrev pub IsKeyless : ℕ → Type 0
  IsKeyless l = key_at (form_at h) l ≡ None

  -- the first of the rows that go down from one is a link of it
  pub down-first : (l : ℕ) (ks : List ℕ) → IsDown IsKeyless h l ks → 1 ≤ length ks → HasLink (links_at h) l (get_or ks 0 0)
  unfolding IsDown
  down-first l [] goes some = absurd (omega (arith, some))
  down-first l (k ∷ ks) goes some = goes.0

  as-linked : (l k : ℕ) → 0 < count k (links_of (form_at h l)) → HasLink (links_at h) l k
  as-linked l k has = subst (λ xs. 0 < count k xs) (links-form h l) has

  -- and a chain row leads to the next
  pub next-linked : (l x : ℕ) (next : Option ℕ) → form_at h l ≡ Some (node chain (x ∷ option_to_list next)) → (m : ℕ) → next ≡ Some m → HasLink (links_at h) l m
  next-linked l x next row m is = as-linked l m (has-next (form_at h) l x m chain (row ∙ ap (λ (o : Option ℕ). Some (node chain (x ∷ option_to_list o))) is))

  module _ (cmp : T → T → Ordering) where
    -- what is said of an entry and of a chain goes down from a row without a key that leads there
    pub record GoesDown (E C : ℕ → List ℕ) : Type 0 where
      pub entry : (l x : ℕ) → HasLink (links_at h) l x → IsKeyless l → IsDown IsKeyless h l (E x)
      pub chain : (l k : ℕ) (P : List (Entry T)) → HasLink (links_at h) l k → IsKeyless l → IsChain cmp (form_at h) k P → IsDown IsKeyless h l (C k)

module _ {K : Type 0} where
  pub place-in : (F : Forms K) (l d e n p : ℕ) (ls : List ℕ) → IsRow F l d e n ls → place_in (F l) p ≡ place_of e n ls p
  place-in F l d e n p ls is = ap (λ f. place_in f p) is.row

  -- what a path has below a row
  abbrev pub rows_below : (ℕ → List ℕ) → (ℕ → List ℕ) → Forms K → ℕ → ℕ → ℕ → ℕ → List ℕ
  rows_below E C F left d c l = rows_from_place E (λ k. rows_to E C F left (suc d) c k) (place_in (F l) (digit_at c d))

  module _ (E C : ℕ → List ℕ) (F : Forms K) where
    pub rows-first : (left d c l : ℕ) → rows_to E C F (suc left) d c l ≡ l ∷ rows_below E C F left d c l
    unfolding rows_to
    rows-first left d c l = refl

    pub rows-last : (d c l : ℕ) → rows_to E C F zero d c l ≡ C l
    unfolding rows_to
    rows-last d c l = refl

  module _ (cmp : K → K → Ordering) (code : K → ℕ) where
    -- and is the same where it stays
    pub record SaysTheSame (F G : Forms K) (S : ℕ → Type 0) (E C E' C' : ℕ → List ℕ) : Type 0 where
      pub entry : (x : ℕ) (k : K) → S x → key_at F x ≡ Some k → E' x ≡ E x
      pub chain : (k : ℕ) (P : List (Entry K)) → S k → IsChain cmp F k P → C' k ≡ C k

    -- a kind of path: what it has of an entry, and of a chain, of which it has so many rows at most
    pub record Paths : Type 1 where
      pub entry : Forms K → ℕ → List ℕ
      pub chain : Forms K → ℕ → ℕ → List ℕ
      pub goes : (h : Heap K) (most : ℕ) → GoesDown h cmp (entry (form_at h)) (chain (form_at h) most)
      pub says : (F G : Forms K) (S : ℕ → Type 0) → Stays F G S → (most : ℕ) → SaysTheSame F G S (entry F) (chain F most) (entry G) (chain G most)

    module _ (F G : Forms K) {S : ℕ → Type 0} (stays : Stays F G S) (E C E' C' : ℕ → List ℕ) (says : SaysTheSame F G S E C E' C') where
      place-stays : (left d c l : ℕ) (P : List (Entry K)) (at : Place) → place_in (F l) (digit_at c d) ≡ at → ((x : ℕ) → at ≡ At x → S x) → ((k : ℕ) → at ≡ Node k → S k)
          → IsPlace F (λ j Q. IsTrie cmp code F left (suc d) j Q) at (part cmp code d (digit_at c d) P)
          → ((k : ℕ) (Q : List (Entry K)) → S k → IsTrie cmp code F left (suc d) k Q → rows_to E' C' G left (suc d) c k ≡ rows_to E C F left (suc d) c k)
          → rows_from_place E' (λ k. rows_to E' C' G left (suc d) c k) (place_in (F l) (digit_at c d)) ≡ rows_below E C F left d c l
      place-stays left d c l P Empty is on_entry on_node stands rec = ap (λ at. rows_from_place E' (λ k. rows_to E' C' G left (suc d) c k) at) is ∙ sym (ap (λ at. rows_from_place E (λ k. rows_to E C F left (suc d) c k) at) is)
      place-stays left d c l P (At x) is on_entry on_node stands rec =
          ap (λ at. rows_from_place E' (λ k. rows_to E' C' G left (suc d) c k) at) is ∙ says.entry x stands.0 (on_entry x refl) stands.2 ∙ sym (ap (λ at. rows_from_place E (λ k. rows_to E C F left (suc d) c k) at) is)
      place-stays left d c l P (Node k) is on_entry on_node stands rec =
          ap (λ at. rows_from_place E' (λ k. rows_to E' C' G left (suc d) c k) at) is ∙ rec k (part cmp code d (digit_at c d) P) (on_node k refl) stands.1 ∙ sym (ap (λ at. rows_from_place E (λ k. rows_to E C F left (suc d) c k) at) is)

      -- the path from a row on
      pub rows-stay : (left d c l : ℕ) (P : List (Entry K)) → S l → IsTrie cmp code F left d l P → rows_to E' C' G left d c l ≡ rows_to E C F left d c l
      unfolding IsTrie
      rows-stay zero d c l P same is = rows-last E' C' G d c l ∙ says.chain l P same is ∙ sym (rows-last E C F d c l)
      rows-stay (suc left) d c l P same is =
          rows-first E' C' G left d c l
          ∙ ap (λ ks. l ∷ ks) (ap (λ f. rows_from_place E' (λ k. rows_to E' C' G left (suc d) c k) (place_in f (digit_at c d))) (stays.row l same (ap (key_of F) is.row.row))
          ∙ place-stays left d c l P (place_of is.entries is.nodes is.links (digit_at c d)) (place-in F l d is.entries is.nodes (digit_at c d) is.links is.row)
          (λ x at. stays.next l x same (ap (key_of F) is.row.row) (at-link F l d is.entries is.nodes (digit_at c d) x is.links is.row (omega arith) at))
          (λ k at. stays.next l k same (ap (key_of F) is.row.row) (node-link F l d is.entries is.nodes (digit_at c d) k is.links is.row (omega arith) at)) (is.places (digit_at c d) (omega arith))
          (λ k Q same' is'. rows-stay left (suc d) c k Q same' is'))
          ∙ sym (rows-first E C F left d c l)

      -- below a row with the same links, below which all stays
      pub below-moved : (left d c l m : ℕ) (P : List (Entry K)) → G m ≡ F l → ((k : ℕ) → HasLink (links_in F) l k → S k) → IsTrie cmp code F (suc left) d l P → rows_below E' C' G left d c m ≡ rows_below E C F left d c l
      unfolding IsTrie
      below-moved left d c l m P moved same is =
          ap (λ f. rows_from_place E' (λ k. rows_to E' C' G left (suc d) c k) (place_in f (digit_at c d))) moved
          ∙ place-stays left d c l P (place_of is.entries is.nodes is.links (digit_at c d)) (place-in F l d is.entries is.nodes (digit_at c d) is.links is.row)
          (λ x at. same x (at-link F l d is.entries is.nodes (digit_at c d) x is.links is.row (omega arith) at)) (λ k at. same k (node-link F l d is.entries is.nodes (digit_at c d) k is.links is.row (omega arith) at)) (is.places (digit_at c d) (omega arith)) (λ k Q same' is'. rows-stay left (suc d) c k Q same' is')

  -- the row after a chain row
  pub next-row : (F : Forms K) (l x : ℕ) (next : Option ℕ) → F l ≡ Some (node chain (x ∷ option_to_list next)) → next_in (F l) ≡ next
  next-row F l x None is = ap next_in is
  next-row F l x (Some m) is = ap next_in is

  module _ (cmp : K → K → Ordering) (F : Forms K) (key : K) where
    pub chain-none : (own : ℕ → List ℕ) (n : ℕ) → chain_rows cmp F key own n None ≡ []
    unfolding chain_rows
    chain-none own zero = refl
    chain-none own (suc n) = refl

    pub chain-row : (own : ℕ → List ℕ) (n l : ℕ) → chain_rows cmp F key own (suc n) (Some l) ≡ match_ordering (order_in cmp F key (entry_in (F l))) (l ∷ chain_rows cmp F key own n (next_in (F l))) (own l) []
    unfolding chain_rows
    chain-row own n l = refl

    -- how the entry of a chain row, or an entry, stands to the key
    pub order-row : (l : ℕ) (e : Entry K) (next : Option ℕ) → F l ≡ Some (node chain (e.link ∷ option_to_list next)) → key_at F e.link ≡ Some e.key → order_in cmp F key (entry_in (F l)) ≡ cmp e.key key
    order-row l e next is keyed = ap (λ f. order_in cmp F key (entry_in f)) is ∙ ap (order_of cmp F key) keyed

    pub order-entry : (x : ℕ) (k : K) → key_at F x ≡ Some k → order_of cmp F key (key_at F x) ≡ cmp k key
    order-entry x k keyed = ap (order_of cmp F key) keyed

  module _ (cmp : K → K → Ordering) (code : K → ℕ) (F G : Forms K) {S : ℕ → Type 0} (stays : Stays F G S) (key : K) where
    -- the chain rows of a path are the same where they stay
    pub chain-stays : (own own' : ℕ → List ℕ) → ((l x : ℕ) (next : Option ℕ) → F l ≡ Some (node chain (x ∷ option_to_list next)) → S l → own' l ≡ own l)
        → (n : ℕ) (o : Option ℕ) (es : List (Entry K)) → ((m : ℕ) → o ≡ Some m → S m) → AreChainRows F o es → chain_rows cmp G key own' n o ≡ chain_rows cmp F key own n o
    unfolding chain_rows AreChainRows
    chain-stays own own' says zero o es same rows = refl
    chain-stays own own' says (suc n) None es same rows = refl
    chain-stays own own' says (suc n) (Some l) [] same rows = absurd cc
    chain-stays own own' says (suc n) (Some l) (e ∷ es) same rows =
        let at : rows.link ≡ l = cc in
        let row : F l ≡ Some (node chain (e.link ∷ option_to_list rows.next)) = ap F (sym at) ∙ rows.row in
        let below = same l refl in
        let keyless : key_at F l ≡ None = ap (key_of F) row in
        let moved : G l ≡ F l = stays.row l below keyless in
        let keyed : key_at G e.link ≡ Some e.key = stays.key e.link e.key (stays.next l e.link below keyless (has-first F l e.link chain (option_to_list rows.next) row)) rows.key in
        let order : order_in cmp G key (entry_in (G l)) ≡ order_in cmp F key (entry_in (F l)) = order-row cmp G key l e rows.next (moved ∙ row) keyed ∙ sym (order-row cmp F key l e rows.next row rows.key) in
        let rest : chain_rows cmp G key own' n rows.next ≡ chain_rows cmp F key own n rows.next = chain-stays own own' says n rows.next es (λ m is. stays.next l m below keyless (has-next F l e.link m chain (row ∙ ap (λ (p : Option ℕ). Some (node chain (e.link ∷ option_to_list p))) is))) rows.rest in
        ap (λ r. match_ordering r (l ∷ chain_rows cmp G key own' n (next_in (G l))) (own' l) []) order
        ∙ ap (λ ks. match_ordering (order_in cmp F key (entry_in (F l))) (l ∷ ks) (own' l) []) (ap (chain_rows cmp G key own' n) (next-row G l e.link rows.next (moved ∙ row)) ∙ rest ∙ sym (ap (chain_rows cmp F key own n) (next-row F l e.link rows.next row)))
        ∙ ap (λ ks. match_ordering (order_in cmp F key (entry_in (F l))) (l ∷ chain_rows cmp F key own n (next_in (F l))) ks []) (says l e.link rows.next row below)

    chain-says : (own own' : ℕ → List ℕ) → ((l x : ℕ) (next : Option ℕ) → F l ≡ Some (node chain (x ∷ option_to_list next)) → S l → own' l ≡ own l)
        → (n k : ℕ) (P : List (Entry K)) → S k → IsChain cmp F k P → chain_rows cmp G key own' n (Some k) ≡ chain_rows cmp F key own n (Some k)
    chain-says own own' says n k P same is = chain-stays own own' says n (Some k) is.entries (λ m e. let at : k ≡ m = cc in subst S at same) is.rows

    pub edit-says : (most : ℕ) → SaysTheSame cmp code F G S (λ _. []) (λ k. chain_rows cmp F key (λ _. []) most (Some k)) (λ _. []) (λ k. chain_rows cmp G key (λ _. []) most (Some k))
    edit-says most = record { entry = λ x k same keyed. refl; chain = chain-says (λ _. []) (λ _. []) (λ l x next is same. refl) most }

    pub pair-says : (most : ℕ) → SaysTheSame cmp code F G S (own_entry cmp F key) (λ k. chain_rows cmp F key (row_and_entry cmp F key) most (Some k)) (own_entry cmp G key) (λ k. chain_rows cmp G key (row_and_entry cmp G key) most (Some k))
    pair-says most = record {
      entry = λ x k same keyed. ap (λ r. match_ordering r [] (x ∷ []) []) (order-entry cmp G key x k (stays.key x k same keyed) ∙ sym (order-entry cmp F key x k keyed));
      chain = chain-says (row_and_entry cmp F key) (row_and_entry cmp G key) (λ l x next is same. ap (λ f. l ∷ option_to_list (entry_in f)) (stays.row l same (ap (key_of F) is))) most;
    }

-- paths go down from row to row
module _ {T : Type 0} (h : Heap T) (cmp : T → T → Ordering) where
  module _ (code : T → ℕ) (E C : ℕ → List ℕ) (says : GoesDown h cmp E C) where
    -- the path below a trie row, where it goes down below that
    below-by : (left d c l : ℕ) (P : List (Entry T)) → IsTrie cmp code (form_at h) (suc left) d l P
        → ((k : ℕ) (Q : List (Entry T)) → HasLink (links_at h) l k → IsKeyless h l → IsTrie cmp code (form_at h) left (suc d) k Q → IsDown (IsKeyless h) h l (rows_to E C (form_at h) left (suc d) c k)) → IsDown (IsKeyless h) h l (rows_below E C (form_at h) left d c l)
    unfolding IsTrie
    below-by left d c l P is rec = by_place (place_of is.entries is.nodes is.links (digit_at c d)) refl (is.places (digit_at c d) (omega arith))
      where
        keyless : IsKeyless h l
        keyless = ap (key_of (form_at h)) is.row.row

        below_is : (at : Place) → place_of is.entries is.nodes is.links (digit_at c d) ≡ at → IsDown (IsKeyless h) h l (rows_from_place E (λ k. rows_to E C (form_at h) left (suc d) c k) at) → IsDown (IsKeyless h) h l (rows_below E C (form_at h) left d c l)
        below_is at same goes =
            subst (λ p. IsDown (IsKeyless h) h l (rows_from_place E (λ k. rows_to E C (form_at h) left (suc d) c k) p)) (sym (place-in (form_at h) l d is.entries is.nodes (digit_at c d) is.links is.row ∙ same)) goes

        by_place : (at : Place) → place_of is.entries is.nodes is.links (digit_at c d) ≡ at → IsPlace (form_at h) (λ k Q. IsTrie cmp code (form_at h) left (suc d) k Q) at (part cmp code d (digit_at c d) P) → IsDown (IsKeyless h) h l (rows_below E C (form_at h) left d c l)
        by_place Empty at stands = below_is Empty at (down-end (IsKeyless h) h l)
        by_place (At x) at stands = below_is (At x) at (says.entry l x (as-linked h l x (at-link (form_at h) l d is.entries is.nodes (digit_at c d) x is.links is.row (omega arith) at)) keyless)
        by_place (Node k) at stands =
            let linked = as-linked h l k (node-link (form_at h) l d is.entries is.nodes (digit_at c d) k is.links is.row (omega arith) at) in
            below_is (Node k) at (rec k (part cmp code d (digit_at c d) P) linked keyless stands.1)

    -- the path from a trie row on, to which a row leads
    down-rows : (left d c k l : ℕ) (P : List (Entry T)) → HasLink (links_at h) l k → IsKeyless h l → IsTrie cmp code (form_at h) left d k P → IsDown (IsKeyless h) h l (rows_to E C (form_at h) left d c k)
    unfolding IsTrie
    down-rows zero d c k l P has keyless is = subst (IsDown (IsKeyless h) h l) (sym (rows-last E C (form_at h) d c k)) (says.chain l k P has keyless is)
    down-rows (suc left) d c k l P has keyless is =
        let under = below-by left d c k P is (λ j Q has' keyless' there. down-rows left (suc d) c j k Q has' keyless' there) in
        subst (IsDown (IsKeyless h) h l) (sym (rows-first E C (form_at h) left d c k)) (down-then (IsKeyless h) h l k (rows_below E C (form_at h) left d c k) has keyless under)

    pub down-below : (left d c l : ℕ) (P : List (Entry T)) → IsTrie cmp code (form_at h) (suc left) d l P → IsDown (IsKeyless h) h l (rows_below E C (form_at h) left d c l)
    down-below left d c l P is = below-by left d c l P is (λ k Q has keyless there. down-rows left (suc d) c k l Q has keyless there)

  module _ (key : T) (own : ℕ → List ℕ) (says : (l k : ℕ) (e : Entry T) (next : Option ℕ) → HasLink (links_at h) l k → IsKeyless h l → form_at h k ≡ Some (node chain (e.link ∷ option_to_list next)) → IsDown (IsKeyless h) h l (own k)) where
    -- the path along a chain
    down-chain : (n l : ℕ) (o : Option ℕ) (es : List (Entry T)) → ((k : ℕ) → o ≡ Some k → HasLink (links_at h) l k) → IsKeyless h l → AreChainRows (form_at h) o es → IsDown (IsKeyless h) h l (chain_rows cmp (form_at h) key own n o)
    unfolding chain_rows AreChainRows
    down-chain zero l o es has keyless rows = down-end (IsKeyless h) h l
    down-chain (suc n) l None es has keyless rows = down-end (IsKeyless h) h l
    down-chain (suc n) l (Some k) [] has keyless rows = absurd cc
    down-chain (suc n) l (Some k) (e ∷ es) has keyless rows =
        let at : rows.link ≡ k = cc in
        let row : form_at h k ≡ Some (node chain (e.link ∷ option_to_list rows.next)) = ap (form_at h) (sym at) ∙ rows.row in
        let next : next_in (form_at h k) ≡ rows.next = next-row (form_at h) k e.link rows.next row in
        let rest = down-chain n k rows.next es (next-linked h k e.link rows.next row) (ap (key_of (form_at h)) row) rows.rest in
        by_order (order_in cmp (form_at h) key (entry_in (form_at h k))) _ _
        (down-then (IsKeyless h) h l k (chain_rows cmp (form_at h) key own n (next_in (form_at h k))) (has k refl) keyless (subst (λ o. IsDown (IsKeyless h) h k (chain_rows cmp (form_at h) key own n o)) (sym next) rest))
        (says l k e rows.next (has k refl) keyless row)
      where
        by_order : (r : Ordering) (xs ys : List ℕ) → IsDown (IsKeyless h) h l xs → IsDown (IsKeyless h) h l ys → IsDown (IsKeyless h) h l (match_ordering r xs ys [])
        by_order Less xs ys on last = on
        by_order Equal xs ys on last = last
        by_order Greater xs ys on last = down-end (IsKeyless h) h l

    chain-down : (n l k : ℕ) (P : List (Entry T)) → HasLink (links_at h) l k → IsKeyless h l → IsChain cmp (form_at h) k P → IsDown (IsKeyless h) h l (chain_rows cmp (form_at h) key own n (Some k))
    chain-down n l k P has keyless is = down-chain n l (Some k) is.entries (λ m e. let at : k ≡ m = cc in subst (HasLink (links_at h) l) at has) keyless is.rows

  pub edit-goes : (key : T) (most : ℕ) → GoesDown h cmp (λ _. []) (λ k. chain_rows cmp (form_at h) key (λ _. []) most (Some k))
  edit-goes key most = record { entry = λ l x has keyless. down-end (IsKeyless h) h l; chain = chain-down key (λ _. []) (λ l k e next has keyless row. down-end (IsKeyless h) h l) most }

  pub pair-goes : (key : T) (most : ℕ) → GoesDown h cmp (own_entry cmp (form_at h) key) (λ k. chain_rows cmp (form_at h) key (row_and_entry cmp (form_at h) key) most (Some k))
  pair-goes key most = record { entry = at_entry; chain = chain-down key (row_and_entry cmp (form_at h) key) at_row most }
    where
      at_entry : (l x : ℕ) → HasLink (links_at h) l x → IsKeyless h l → IsDown (IsKeyless h) h l (own_entry cmp (form_at h) key x)
      at_entry l x has keyless = by_order (order_of cmp (form_at h) key (key_at (form_at h) x))
        where
          by_order : (r : Ordering) → IsDown (IsKeyless h) h l (match_ordering r [] (x ∷ []) [])
          by_order Less = down-end (IsKeyless h) h l
          by_order Equal = down-then (IsKeyless h) h l x [] has keyless (down-end (IsKeyless h) h x)
          by_order Greater = down-end (IsKeyless h) h l

      at_row : (l k : ℕ) (e : Entry T) (next : Option ℕ) → HasLink (links_at h) l k → IsKeyless h l → form_at h k ≡ Some (node chain (e.link ∷ option_to_list next)) → IsDown (IsKeyless h) h l (row_and_entry cmp (form_at h) key k)
      at_row l k e next has keyless row =
          let entry : entry_in (form_at h k) ≡ Some e.link = ap entry_in row in
          let pair_down = down-then (IsKeyless h) h k e.link [] (as-linked h k e.link (has-first (form_at h) k e.link chain (option_to_list next) row)) (ap (key_of (form_at h)) row) (down-end (IsKeyless h) h e.link) in
          subst (λ o. IsDown (IsKeyless h) h l (k ∷ option_to_list o)) (sym entry) (down-then (IsKeyless h) h l k (e.link ∷ []) has keyless pair_down)

-- what names a key is not on a path, but for the pair of the path's own key
module _ {K : Type 0} (cmp : K → K → Ordering) (code : K → ℕ) (F : Forms K) (x : ℕ) (k : K) (keyed : key_at F x ≡ Some k) where
  chain-avoids : (key : K) (own : ℕ → List ℕ) → ((l : ℕ) (e : Entry K) (next : Option ℕ) → F l ≡ Some (node chain (e.link ∷ option_to_list next)) → key_at F e.link ≡ Some e.key → cmp e.key key ≡ Equal → count x (own l) ≡ 0)
      → (n : ℕ) (a : Option ℕ) (es : List (Entry K)) → AreChainRows F a es → count x (chain_rows cmp F key own n a) ≡ 0
  unfolding chain_rows AreChainRows
  chain-avoids key own says zero a es rows = refl
  chain-avoids key own says (suc n) None es rows = refl
  chain-avoids key own says (suc n) (Some l) [] rows = absurd cc
  chain-avoids key own says (suc n) (Some l) (e ∷ es) rows =
      let at : rows.link ≡ l = cc in
      let row : F l ≡ Some (node chain (e.link ∷ option_to_list rows.next)) = ap F (sym at) ∙ rows.row in
      let other : x ≢ l = λ same. let bad : None ≡ Some k = sym (ap (key_of F) (ap F same ∙ row)) ∙ keyed in cc in
      let rest : count x (chain_rows cmp F key own n (next_in (F l))) ≡ 0 = ap (λ b. count x (chain_rows cmp F key own n b)) (next-row F l e.link rows.next row) ∙ chain-avoids key own says n rows.next es rows.rest in
      by_order l (cmp e.key key) (order-row cmp F key l e rows.next row rows.key) other rest (λ equal. says l e rows.next row rows.key equal)
    where
      by_order : (l : ℕ) (r : Ordering) → order_in cmp F key (entry_in (F l)) ≡ r → x ≢ l → count x (chain_rows cmp F key own n (next_in (F l))) ≡ 0 → (r ≡ Equal → count x (own l) ≡ 0)
          → count x (match_ordering (order_in cmp F key (entry_in (F l))) (l ∷ chain_rows cmp F key own n (next_in (F l))) (own l) []) ≡ 0
      by_order l Less is other rest equal = ap (λ r. count x (match_ordering r (l ∷ chain_rows cmp F key own n (next_in (F l))) (own l) [])) is ∙ omega (arith, count-cons x l (chain_rows cmp F key own n (next_in (F l))), test_other x l other, rest)
      by_order l Equal is other rest equal = ap (λ r. count x (match_ordering r (l ∷ chain_rows cmp F key own n (next_in (F l))) (own l) [])) is ∙ equal refl
      by_order l Greater is other rest equal = ap (λ r. count x (match_ordering r (l ∷ chain_rows cmp F key own n (next_in (F l))) (own l) [])) is

  rows-avoid : (E C : ℕ → List ℕ) → ((y : ℕ) → count x (E y) ≡ 0) → ((l : ℕ) (P : List (Entry K)) → IsChain cmp F l P → count x (C l) ≡ 0) → (left d c l : ℕ) (Q : List (Entry K)) → IsTrie cmp code F left d l Q → count x (rows_to E C F left d c l) ≡ 0
  unfolding IsTrie
  rows-avoid E C at_entry at_chain zero d c l Q is = ap (count x) (rows-last E C F d c l) ∙ at_chain l Q is
  rows-avoid E C at_entry at_chain (suc left) d c l Q is =
      let other : x ≢ l = λ same. let bad : None ≡ Some k = sym (ap (key_of F) (ap F same ∙ is.row.row)) ∙ keyed in cc in
      let rest = by_place (place_of is.entries is.nodes is.links (digit_at c d)) (place-in F l d is.entries is.nodes (digit_at c d) is.links is.row) (is.places (digit_at c d) (omega arith)) (λ j P there. rows-avoid E C at_entry at_chain left (suc d) c j P there) in
      ap (count x) (rows-first E C F left d c l) ∙ omega (arith, count-cons x l (rows_below E C F left d c l), test_other x l other, rest)
    where
      by_place : (at : Place) → place_in (F l) (digit_at c d) ≡ at → IsPlace F (λ j P. IsTrie cmp code F left (suc d) j P) at (part cmp code d (digit_at c d) Q)
          → ((j : ℕ) (P : List (Entry K)) → IsTrie cmp code F left (suc d) j P → count x (rows_to E C F left (suc d) c j) ≡ 0) → count x (rows_below E C F left d c l) ≡ 0
      by_place Empty at stands rec = ap (λ p. count x (rows_from_place E (λ j. rows_to E C F left (suc d) c j) p)) at
      by_place (At y) at stands rec = ap (λ p. count x (rows_from_place E (λ j. rows_to E C F left (suc d) c j) p)) at ∙ at_entry y
      by_place (Node j) at stands rec = ap (λ p. count x (rows_from_place E (λ q. rows_to E C F left (suc d) c q) p)) at ∙ rec j (part cmp code d (digit_at c d) Q) stands.1

  pub edit-avoids : (key : K) (most left d c l : ℕ) (Q : List (Entry K)) → IsTrie cmp code F left d l Q → count x (edit_rows cmp F key most left d c l) ≡ 0
  edit-avoids key most left d c l Q is =
      rows-avoid (λ _. []) (λ j. chain_rows cmp F key (λ _. []) most (Some j)) (λ y. refl) (λ j P there. chain-avoids key (λ _. []) (λ m e next row keys equal. refl) most (Some j) there.entries there.rows) left d c l Q is

  pub pair-avoids : (key : K) → (cmp k key ≡ Equal → ⊥) → (most left d c l : ℕ) (Q : List (Entry K)) → IsTrie cmp code F left d l Q → count x (pair_rows cmp F key most left d c l) ≡ 0
  pair-avoids key apart most left d c l Q is =
      rows-avoid (own_entry cmp F key) (λ j. chain_rows cmp F key (row_and_entry cmp F key) most (Some j)) at_entry
      (λ j P there. chain-avoids key (row_and_entry cmp F key) at_row most (Some j) there.entries there.rows) left d c l Q is
    where
      at_entry : (y : ℕ) → count x (own_entry cmp F key y) ≡ 0
      at_entry y = by_order (order_of cmp F key (key_at F y)) refl
        where
          by_order : (r : Ordering) → order_of cmp F key (key_at F y) ≡ r → count x (match_ordering r [] (y ∷ []) []) ≡ 0
          by_order Less is = refl
          by_order Equal is = omega (arith, count-cons x y [], test_other x y (λ same. apart (sym (ap (order_of cmp F key) keyed) ∙ ap (λ z. order_of cmp F key (key_at F z)) same ∙ is)))
          by_order Greater is = refl

      at_row : (l : ℕ) (e : Entry K) (next : Option ℕ) → F l ≡ Some (node chain (e.link ∷ option_to_list next)) → key_at F e.link ≡ Some e.key → cmp e.key key ≡ Equal → count x (row_and_entry cmp F key l) ≡ 0
      at_row l e next row has equal =
          let other : x ≢ l = λ same. let bad : None ≡ Some k = sym (ap (key_of F) (ap F same ∙ row)) ∙ keyed in cc in
          let off : x ≢ e.link = λ same. apart (let is : k ≡ e.key = (let both : Some k ≡ Some e.key = sym keyed ∙ ap (key_at F) same ∙ has in cc) in ap (λ z. cmp z key) is ∙ equal) in
          ap (λ f. count x (l ∷ option_to_list (entry_in f))) row ∙ omega (arith, count-cons x l (e.link ∷ []), count-cons x e.link [], test_other x l other, test_other x e.link off)

-- a path has the same rows of a chain by any number that is no less than its rows
module _ {K : Type 0} (cmp : K → K → Ordering) (F : Forms K) (key : K) (own : ℕ → List ℕ) where
  pub chain-fuel : (n m : ℕ) (a : Option ℕ) (es : List (Entry K)) → length es ≤ n → length es ≤ m → AreChainRows F a es → chain_rows cmp F key own n a ≡ chain_rows cmp F key own m a
  unfolding AreChainRows
  chain-fuel n m None es few few' rows = chain-none cmp F key own n ∙ sym (chain-none cmp F key own m)
  chain-fuel n m (Some l) [] few few' rows = absurd cc
  chain-fuel zero m (Some l) (e ∷ es) few few' rows = absurd (omega (arith, few))
  chain-fuel (suc n) zero (Some l) (e ∷ es) few few' rows = absurd (omega (arith, few'))
  chain-fuel (suc n) (suc m) (Some l) (e ∷ es) few few' rows =
      let at : rows.link ≡ l = cc in
      let row : F l ≡ Some (node chain (e.link ∷ option_to_list rows.next)) = ap F (sym at) ∙ rows.row in
      let rest = chain-fuel n m rows.next es (omega (arith, few)) (omega (arith, few')) rows.rest in
      let next : next_in (F l) ≡ rows.next = next-row F l e.link rows.next row in
      chain-row cmp F key own n l
      ∙ ap (λ ks. match_ordering (order_in cmp F key (entry_in (F l))) (l ∷ ks) (own l) []) (ap (chain_rows cmp F key own n) next ∙ rest ∙ sym (ap (chain_rows cmp F key own m) next))
      ∙ sym (chain-row cmp F key own m l)

module _ {K : Type 0} (cmp : K → K → Ordering) (code : K → ℕ) where
  -- the path of an edit of a key, and that to its pair
  abbrev pub edit-paths : K → Paths cmp code
  edit-paths key = record { entry = λ F x. []; chain = λ F most k. chain_rows cmp F key (λ _. []) most (Some k); goes = λ h. edit-goes h cmp key; says = λ F G S stays. edit-says cmp code F G stays key }

  abbrev pub pair-paths : K → Paths cmp code
  pair-paths key = record { entry = λ F. own_entry cmp F key; chain = λ F most k. chain_rows cmp F key (row_and_entry cmp F key) most (Some k); goes = λ h. pair-goes h cmp key; says = λ F G S stays. pair-says cmp code F G stays key }

module _ {K : Type 0} {cmp : K → K → Ordering} {code : K → ℕ} (p : Paths cmp code) where
  -- the path of a kind from a row on
  abbrev pub path_of : Forms K → ℕ → ℕ → ℕ → ℕ → ℕ → List ℕ
  path_of F most left d c l = rows_to (p.entry F) (p.chain F most) F left d c l

  -- by what stands at the digit of its first row
  pub path-at : (F : Forms K) (most left d c l e n : ℕ) (ls : List ℕ) → IsRow F l d e n ls → (place : Place) → place_of e n ls (digit_at c d) ≡ place
      → path_of F most (suc left) d c l ≡ l ∷ rows_from_place (p.entry F) (λ k. path_of F most left (suc d) c k) place
  path-at F most left d c l e n ls is place at =
      rows-first (p.entry F) (p.chain F most) F left d c l ∙ ap (λ q. l ∷ rows_from_place (p.entry F) (λ k. path_of F most left (suc d) c k) q) (place-in F l d e n (digit_at c d) ls is ∙ at)

module _ {K : Type 0} (cmp : K → K → Ordering) (F : Forms K) (key : K) where
  chain-after : (own : ℕ → List ℕ) (n : ℕ) (o : Option ℕ) → (rest : List ℕ) × (chain_rows cmp F key own n o ≡ chain_rows cmp F key (λ _. []) n o ++ rest)
  unfolding chain_rows
  chain-after own zero o = ([], refl)
  chain-after own (suc n) None = ([], refl)
  chain-after own (suc n) (Some l) = by_order (order_in cmp F key (entry_in (F l))) (chain-after own n (next_in (F l)))
    where
      by_order : (r : Ordering) → (rest : List ℕ) × (chain_rows cmp F key own n (next_in (F l)) ≡ chain_rows cmp F key (λ _. []) n (next_in (F l)) ++ rest)
          → (rest : List ℕ) × (match_ordering r (l ∷ chain_rows cmp F key own n (next_in (F l))) (own l) [] ≡ match_ordering r (l ∷ chain_rows cmp F key (λ _. []) n (next_in (F l))) [] [] ++ rest)
      by_order Less rec = (rec.0, ap (λ (ks : List ℕ). l ∷ ks) rec.1)
      by_order Equal rec = (own l, refl)
      by_order Greater rec = ([], refl)

  pub pair-after : (most left d c l : ℕ) → (rest : List ℕ) × (pair_rows cmp F key most left d c l ≡ edit_rows cmp F key most left d c l ++ rest)
  unfolding rows_to
  pair-after most zero d c l = chain-after (row_and_entry cmp F key) most (Some l)
  pair-after most (suc left) d c l = by_place (place_in (F l) (digit_at c d)) (λ k. pair-after most left (suc d) c k)
    where
      E : ℕ → List ℕ
      E = own_entry cmp F key

      C : ℕ → List ℕ
      C k = chain_rows cmp F key (row_and_entry cmp F key) most (Some k)

      D : ℕ → List ℕ
      D k = chain_rows cmp F key (λ _. []) most (Some k)

      by_place : (at : Place) → ((k : ℕ) → (rest : List ℕ) × (rows_to E C F left (suc d) c k ≡ rows_to (λ _. []) D F left (suc d) c k ++ rest))
          → (rest : List ℕ) × (l ∷ rows_from_place E (λ k. rows_to E C F left (suc d) c k) at ≡ (l ∷ rows_from_place (λ _. []) (λ k. rows_to (λ _. []) D F left (suc d) c k) at) ++ rest)
      by_place Empty rec = ([], refl)
      by_place (At x) rec = (E x, refl)
      by_place (Node k) rec = let r = rec k in (r.0, ap (λ (ks : List ℕ). l ∷ ks) r.1)

take-within : (n : ℕ) (xs ys : List ℕ) → n ≤ length xs → take n (xs ++ ys) ≡ take n xs
take-within zero xs ys le = refl
take-within (suc n) [] ys le = absurd (omega (arith, le))
take-within (suc n) (x ∷ xs) ys le = ap (λ (ks : List ℕ). x ∷ ks) (take-within n xs ys (omega (arith, le)))

take-least : (n : ℕ) (xs : List ℕ) → take (min (length xs) n) xs ≡ take n xs
take-least n xs = elim (cases_lt n (length xs)) as (λ _. take (min (length xs) n) xs ≡ take n xs) [
  | inl less ↦ ap (λ k. take k xs) (let is : min (length xs) n ≡ n = omega (arith, less) in is)
  | inr enough ↦ ap (λ k. take k xs) (let is : min (length xs) n ≡ length xs = omega (arith, enough) in is) ∙ take_all (length xs) xs (omega arith) ∙ sym (take_all n xs (omega (arith, enough)))
]

module _ {T : Type 0} where
  -- what isn't among the alone rows of a path isn't among those of its beginning
  pub written-before : (h : Heap T) (m : ℕ) (path rest : List ℕ) → count m (written h (path ++ rest)) ≡ 0 → count m (written h path) ≡ 0
  written-before h m [] rest off = refl
  written-before h m (x ∷ xs) rest off = elim (cases_eq (owners_at h x) 1) as (λ _. count m (written h (x ∷ xs)) ≡ 0) [
    | inl one ↦
        let all : count m (x ∷ written h (xs ++ rest)) ≡ 0 = subst (λ ks. count m ks ≡ 0) (written-cons h x (xs ++ rest) one) off in
        let later = written-before h m xs rest (omega (arith, all, count-cons m x (written h (xs ++ rest)))) in
        ap (count m) (written-cons h x xs one) ∙ omega (arith, all, later, count-cons m x (written h (xs ++ rest)), count-cons m x (written h xs))
    | inr more ↦ ap (λ (n : ℕ). count m (take n (x ∷ xs))) (alone-no h x xs more)
  ]

  -- the alone rows of a path that misses what came
  pub alone-missed : (g h : Heap T) (x y : ℕ) (path : List ℕ) → ((k : ℕ) → owners_at h k ≡ owners_at g k + (one_at x k + one_at y k)) → count x path ≡ 0 → count y path ≡ 0 → alone h path ≡ alone g path
  alone-missed g h x y [] owners off_x off_y = refl
  alone-missed g h x y (k ∷ ks) owners off_x off_y =
      let same : owners_at h k ≡ owners_at g k = omega (arith, owners k, count-cons x k ks, count-cons y k ks, off_x, off_y, one_at-flip x k, one_at-flip y k) in
      ap (λ n. if n == 1 then 1 + alone h ks else 0) same
      ∙ ap (λ (n : ℕ). if owners_at g k == 1 then 1 + n else 0) (alone-missed g h x y ks owners (omega (arith, off_x, count-cons x k ks)) (omega (arith, off_y, count-cons y k ks)))

  -- keeping alone rows is seen on the path alone
  pub keeps-missed : (g h : Heap T) (path path' : List ℕ) → alone h path ≡ alone g path → KeepsAlone h path path' → KeepsAlone g path path'
  keeps-missed g h path path' same keep = record {
    places = keep.places;
    same = λ j lt. (λ is. subst (λ n. j < n) same ((keep.same j lt).0 is), λ few. (keep.same j lt).1 (subst (λ n. j < n) (sym same) few));
  }

  -- of the beginnings of paths that keep alone rows, so far as both go, the same is true
  alone-take : (h : Heap T) (n j : ℕ) (path : List ℕ) → j < n → (j < alone h (take n path)) ↔ (j < alone h path)
  alone-take h zero j path lt = absurd (omega (arith, lt))
  alone-take h (suc n) j [] lt = (λ few. few, λ few. few)
  alone-take h (suc n) zero (x ∷ xs) lt = elim (cases_eq (owners_at h x) 1) as (λ _. (zero < alone h (x ∷ take n xs)) ↔ (zero < alone h (x ∷ xs))) [
    | inl one ↦ (λ _. omega (arith, alone-yes h x xs one), λ _. omega (arith, alone-yes h x (take n xs) one))
    | inr more ↦ (λ few. absurd (omega (arith, few, alone-no h x (take n xs) more)), λ few. absurd (omega (arith, few, alone-no h x xs more)))
  ]
  alone-take h (suc n) (suc j) (x ∷ xs) lt =
      let rec = alone-take h n j xs (omega (arith, lt)) in
      elim (cases_eq (owners_at h x) 1) as (λ _. (suc j < alone h (x ∷ take n xs)) ↔ (suc j < alone h (x ∷ xs))) [
        | inl one ↦ (λ few. omega (arith, alone-yes h x xs one, rec.0 (omega (arith, few, alone-yes h x (take n xs) one))), λ few. omega (arith, alone-yes h x (take n xs) one, rec.1 (omega (arith, few, alone-yes h x xs one))))
        | inr more ↦ (λ few. absurd (omega (arith, few, alone-no h x (take n xs) more)), λ few. absurd (omega (arith, few, alone-no h x xs more)))
      ]

  keeps-take : (h : Heap T) (n : ℕ) (path path' : List ℕ) → KeepsAlone h path path' → KeepsAlone h (take n path) (take n path')
  keeps-take h n path path' keep = record {
    places = omega (arith, keep.places, length-take n path, length-take n path');
    same = λ j lt.
        let few : j < n = omega (arith, lt, length-take n path) in
        let within : j < length path = omega (arith, lt, length-take n path) in
        let was = keep.same j within in
        let moved = alone-take h n j path few in
        let left : get_or (take n path) j 0 ≡ get_or path j 0 = get_or-take n path j 0 few in
        let right : get_or (take n path') j 0 ≡ get_or path' j 0 = get_or-take n path' j 0 few in
        (λ is. moved.1 (was.0 (sym right ∙ is ∙ left)), λ small. right ∙ was.1 (moved.0 small) ∙ sym left);
  }

  pub keeps-before : (h : Heap T) (path path' rest rest' : List ℕ) → KeepsAlone h (path ++ rest) (path' ++ rest') → KeepsShared h path path'
  keeps-before h path path' rest rest' keep =
      let m : ℕ = min (length path) (length path') in
      let one : take m (path ++ rest) ≡ take (length path') path = take-within m path rest (omega arith) ∙ take-least (length path') path in
      let turned : m ≡ min (length path') (length path) = omega arith in
      let two : take m (path' ++ rest') ≡ take (length path) path' = take-within m path' rest' (omega arith) ∙ ap (λ k. take k path') turned ∙ take-least (length path) path' in
      subst (λ ks. KeepsAlone h ks (take (length path) path')) one (subst (KeepsAlone h (take m (path ++ rest))) two (keeps-take h m (path ++ rest) (path' ++ rest') keep))
