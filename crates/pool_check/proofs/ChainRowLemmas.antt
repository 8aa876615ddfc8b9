-- The test of one chain row, made of what is kept of its entry and of the chain below it.
use Rattle.std.proofs.Common.{◌≡◌, ℕ, ◌<◌, ◌≤◌, Bool, true, false, ◌&&◌, cond, Option, Some, None, List, [], ◌∷◌, ◌++◌, map, length, refl, ap, sym, ◌∙◌, arith}
use Rattle.std.specs.Prelude.{nat_eq, is_some}
use Rattle.std.proofs.lemmas.List.Folds.{list_all-map}
use Rattle.node_heap.specs.Forms.{Form, Forms, cell, node, leaf, inner, trie, chain, pair, state, value_of, links_of, links_in}
use Rattle.champ_chain.specs.Entry.{Entry, entry, key_of, key_at}
use Rattle.pool_text.specs.Rows.{Bytes}
use Rattle.pool_check.specs.Tries.{entries_below, first_key, is_before, is_chain_row, all_same, is_canonical}
use Rattle.pool_check.specs.Keeping.{codes_below, cell_of, kept_node, kept_entry, kept_chain, kept_of, canonical_kept, AreKept}
use Rattle.pool_check.specs.declared.trie_row.KeptRow.{KeptRow}
use Rattle.pool_check.specs.declared.trie_row.KeptRow.TheVariants.{Entry as At, Node, Chain, Other}
use Rattle.pool_check.proofs.TestLemmas.{and-second, not-both}
use Rattle.pool_check.proofs.TrieTests.{chain-row-is}
use Rattle.pool_check.proofs.EntriesBelow.{own-is}
use Rattle.pool_check.proofs.CodeLists.{all-the-same}
use Rattle.pool_check.proofs.KeptLemmas.{Chained, chained-first, one-below, two-below, low-in, canonical-as, no-empty}

module _ (n : ℕ) (F : Forms Bytes) (code : Bytes → ℕ) (deepest : ℕ) where
  -- what is kept of a canonical row
  pub canonical-is : (l : ℕ) (r : Option (Form Bytes)) → F l ≡ r → is_canonical n F code deepest l r ≡ true → Some (kept_of n F code l r) ≡ canonical_kept n F code deepest l
  unfolding canonical_kept
  canonical-is l r is h = ap (λ x. Some (kept_of n F code l x)) (sym is) ∙ sym (ap (λ b. cond b (Some (kept_of n F code l (F l))) None) (ap (is_canonical n F code deepest l) is ∙ h))

  -- and nothing is of another
  pub refused-is : (l : ℕ) (r : Option (Form Bytes)) → F l ≡ r → is_canonical n F code deepest l r ≡ false → None ≡ canonical_kept n F code deepest l
  unfolding canonical_kept
  refused-is l r is h = sym (ap (λ b. cond b (Some (kept_of n F code l (F l))) None) (ap (is_canonical n F code deepest l) is ∙ h))

  -- the key's cell of an entry
  value-at : (k : ℕ) (r : Option (Form Bytes)) (key : Bytes) → F k ≡ r → key_of F r ≡ Some key → value_of (F (cell_of k r)) ≡ Some key
  value-at k None key is h = absurd (let e : None ≡ Some key = h in cc)
  value-at k (Some (cell x)) key is h = ap value_of is ∙ h
  value-at k (Some (node leaf ks)) key is h = absurd (let e : None ≡ Some key = h in cc)
  value-at k (Some (node (inner _) ks)) key is h = absurd (let e : None ≡ Some key = h in cc)
  value-at k (Some (node (trie _ _ _) ks)) key is h = absurd (let e : None ≡ Some key = h in cc)
  value-at k (Some (node chain ks)) key is h = absurd (let e : None ≡ Some key = h in cc)
  value-at k (Some (node pair [])) key is h = absurd (let e : None ≡ Some key = h in cc)
  value-at k (Some (node pair (j ∷ ks))) key is h = h
  value-at k (Some (node state ks)) key is h = absurd (let e : None ≡ Some key = h in cc)

  -- an entry is kept as one
  kept-key : (k : ℕ) (r : Option (Form Bytes)) (key : Bytes) → key_of F r ≡ Some key → kept_of n F code k r ≡ At (cell_of k r) (code key)
  kept-key k None key h = absurd (let e : None ≡ Some key = h in cc)
  kept-key k (Some (cell x)) key h = ap (kept_entry code k) h
  kept-key k (Some (node leaf ks)) key h = absurd (let e : None ≡ Some key = h in cc)
  kept-key k (Some (node (inner _) ks)) key h = absurd (let e : None ≡ Some key = h in cc)
  kept-key k (Some (node (trie _ _ _) ks)) key h = absurd (let e : None ≡ Some key = h in cc)
  kept-key k (Some (node chain ks)) key h = absurd (let e : None ≡ Some key = h in cc)
  kept-key k (Some (node pair [])) key h = absurd (let e : None ≡ Some key = h in cc)
  kept-key k (Some (node pair (j ∷ ks))) key h = ap (kept_entry code j) h
  kept-key k (Some (node state ks)) key h = absurd (let e : None ≡ Some key = h in cc)

  -- what is kept as an entry is one
  record EntryMeans (k : ℕ) (r : Option (Form Bytes)) (place c : ℕ) : Type 0 where
    pub key : Bytes
    pub is : key_of F r ≡ Some key
    pub code_is : code key ≡ c
    pub place_is : cell_of k r ≡ place

  entry-means : (k : ℕ) (r : Option (Form Bytes)) (place c : ℕ) → kept_of n F code k r ≡ At place c → EntryMeans k r place c
  entry-means k r place c h = by_form r h
    where
      by_key : (j : ℕ) (o : Option Bytes) → kept_entry code j o ≡ At place c → (key : Bytes) × (o ≡ Some key) × (code key ≡ c) × (j ≡ place)
      by_key j None h = absurd (let e : Other ≡ At place c = h in cc)
      by_key j (Some key) h =
          let e : At j (code key) ≡ At place c = h in
          let codes : code key ≡ c = cc in
          let places : j ≡ place = cc in (key, refl, codes, places)

      by_form : (r : Option (Form Bytes)) → kept_of n F code k r ≡ At place c → EntryMeans k r place c
      by_form None h = absurd (let e : Other ≡ At place c = h in cc)
      by_form (Some (cell x)) h = let m = by_key k (Some x) h in record { key = m.0; is = m.1; code_is = m.2; place_is = m.3 }
      by_form (Some (node leaf ks)) h = absurd (let e : Other ≡ At place c = h in cc)
      by_form (Some (node (inner _) ks)) h = absurd (let e : Other ≡ At place c = h in cc)
      by_form (Some (node (trie d _ _) ks)) h = absurd (by_codes (codes_below n F code k) h)
        where
          by_codes : (cs : List ℕ) → kept_node d cs ≡ At place c → ⊥
          by_codes [] h = absurd (let e : Other ≡ At place c = h in cc)
          by_codes (b ∷ cs) h = absurd (let e : Node d b ≡ At place c = h in cc)
      by_form (Some (node chain [])) h = absurd (let e : Other ≡ At place c = h in cc)
      by_form (Some (node chain (j ∷ ks))) h = absurd (by_first (nat_eq (length ks) 1) (key_at F j) h)
        where
          by_first : (two : Bool) (o : Option Bytes) → kept_chain code two (cell_of j (F j)) o ≡ At place c → ⊥
          by_first two None h = absurd (let e : Other ≡ At place c = h in cc)
          by_first two (Some key) h = absurd (let e : Chain (cell_of j (F j)) (code key) two ≡ At place c = h in cc)
      by_form (Some (node pair [])) h = absurd (let e : Other ≡ At place c = h in cc)
      by_form (Some (node pair (j ∷ ks))) h = let m = by_key j (value_of (F j)) h in record { key = m.0; is = m.1; code_is = m.2; place_is = m.3 }
      by_form (Some (node state ks)) h = absurd (let e : Other ≡ At place c = h in cc)

  -- what is kept as a chain row is one
  record ChainMeans (r : Option (Form Bytes)) (place c : ℕ) : Type 0 where
    pub first : ℕ
    pub rest : List ℕ
    pub row : r ≡ Some (node chain (first ∷ rest))
    pub key : Bytes
    pub is : key_at F first ≡ Some key
    pub code_is : code key ≡ c
    pub place_is : cell_of first (F first) ≡ place

  chain-means : (k : ℕ) (r : Option (Form Bytes)) (place c : ℕ) (two : Bool) → kept_of n F code k r ≡ Chain place c two → ChainMeans r place c
  chain-means k r place c two h = by_form r h
    where
      not-entry : (j : ℕ) (o : Option Bytes) → kept_entry code j o ≡ Chain place c two → ⊥
      not-entry j None h = absurd (let e : Other ≡ Chain place c two = h in cc)
      not-entry j (Some key) h = absurd (let e : At j (code key) ≡ Chain place c two = h in cc)

      by_form : (r : Option (Form Bytes)) → kept_of n F code k r ≡ Chain place c two → ChainMeans r place c
      by_form None h = absurd (let e : Other ≡ Chain place c two = h in cc)
      by_form (Some (cell x)) h = absurd (not-entry k (Some x) h)
      by_form (Some (node leaf ks)) h = absurd (let e : Other ≡ Chain place c two = h in cc)
      by_form (Some (node (inner _) ks)) h = absurd (let e : Other ≡ Chain place c two = h in cc)
      by_form (Some (node (trie d _ _) ks)) h = absurd (by_codes (codes_below n F code k) h)
        where
          by_codes : (cs : List ℕ) → kept_node d cs ≡ Chain place c two → ⊥
          by_codes [] h = absurd (let e : Other ≡ Chain place c two = h in cc)
          by_codes (b ∷ cs) h = absurd (let e : Node d b ≡ Chain place c two = h in cc)
      by_form (Some (node chain [])) h = absurd (let e : Other ≡ Chain place c two = h in cc)
      by_form (Some (node chain (j ∷ ks))) h = by_first (nat_eq (length ks) 1) (key_at F j) refl h
        where
          by_first : (b : Bool) (o : Option Bytes) → key_at F j ≡ o → kept_chain code b (cell_of j (F j)) o ≡ Chain place c two → ChainMeans (Some (node chain (j ∷ ks))) place c
          by_first b None is h = absurd (let e : Other ≡ Chain place c two = h in cc)
          by_first b (Some key) is h =
              let e : Chain (cell_of j (F j)) (code key) b ≡ Chain place c two = h in
              let codes : code key ≡ c = cc in
              let places : cell_of j (F j) ≡ place = cc in
              record { first = j; rest = ks; row = refl; key = key; is = is; code_is = codes; place_is = places }
      by_form (Some (node pair [])) h = absurd (let e : Other ≡ Chain place c two = h in cc)
      by_form (Some (node pair (j ∷ ks))) h = absurd (not-entry j (value_of (F j)) h)
      by_form (Some (node state ks)) h = absurd (let e : Other ≡ Chain place c two = h in cc)

  -- where an entry's and a chain's key cells are
  pub entry-cell : (k place c : ℕ) → kept_of n F code k (F k) ≡ At place c → (key : Bytes) × (value_of (F place) ≡ Some key)
  entry-cell k place c h =
      let m = entry-means k (F k) place c h in
      (m.key, ap (λ j. value_of (F j)) (sym m.place_is) ∙ value-at k (F k) m.key refl m.is)

  pub chain-cell : (k place c : ℕ) (two : Bool) → kept_of n F code k (F k) ≡ Chain place c two → (key : Bytes) × (value_of (F place) ≡ Some key)
  chain-cell k place c two h =
      let m = chain-means k (F k) place c two h in
      (m.key, ap (λ j. value_of (F j)) (sym m.place_is) ∙ value-at m.first (F m.first) m.key refl m.is)

  -- a link that is kept as no entry names none
  pub no-key : (k : ℕ) → ((place c : ℕ) → kept_of n F code k (F k) ≡ At place c → ⊥) → key_at F k ≡ None
  no-key k other = by_key (key_at F k) refl
    where
      by_key : (o : Option Bytes) → key_at F k ≡ o → o ≡ None
      by_key None is = refl
      by_key (Some key) is = absurd (other (cell_of k (F k)) (code key) (kept-key k (F k) key is))

  module _ (kept : List KeptRow) (are : AreKept n F code deepest kept) (l : ℕ) (low : l < n) where
    abbrev Es : ℕ → List (Entry Bytes)
    Es = entries_below n F

    module _ (k : ℕ) (is : F l ≡ Some (node chain (k ∷ []))) where
      -- a chain row of one entry
      pub one-kept : (place c : ℕ) → kept_of n F code k (F k) ≡ At place c → Some (Chain place c false) ≡ canonical_kept n F code deepest l
      one-kept place c h =
          let m = entry-means k (F k) place c h in
          ap (λ j. Some (Chain j c false)) (sym m.place_is) ∙ ap (λ b. Some (Chain (cell_of k (F k)) b false)) (sym m.code_is)
          ∙ sym (ap (λ o. Some (kept_chain code false (cell_of k (F k)) o)) m.is)
          ∙ canonical-is l (Some (node chain (k ∷ []))) is (ap is_some m.is)

      pub one-refused : ((place c : ℕ) → kept_of n F code k (F k) ≡ At place c → ⊥) → None ≡ canonical_kept n F code deepest l
      one-refused other = refused-is l (Some (node chain (k ∷ []))) is (ap is_some (no-key k other))

    -- a chain row of no link, or of more than two
    pub none-refused : (ks : List ℕ) → F l ≡ Some (node chain ks) → length ks < 1 → None ≡ canonical_kept n F code deepest l
    none-refused [] is few = refused-is l (Some (node chain [])) is refl
    none-refused (k ∷ ks) is few = absurd (omega (arith, few))

    pub many-refused : (ks : List ℕ) → F l ≡ Some (node chain ks) → 3 ≤ length ks → None ≡ canonical_kept n F code deepest l
    many-refused [] is many = absurd (omega (arith, many))
    many-refused (k ∷ []) is many = absurd (omega (arith, many))
    many-refused (k ∷ m ∷ []) is many = absurd (omega (arith, many))
    many-refused (k ∷ m ∷ j ∷ ks) is many = refused-is l (Some (node chain (k ∷ m ∷ j ∷ ks))) is refl

    -- all keys of a canonical chain have one code
    one-code : (m j : ℕ) (ks : List ℕ) → m < length kept → F m ≡ Some (node chain (j ∷ ks)) → all_same (map (λ e. code e.key) (Es m)) ≡ true
    one-code m j [] low_m is =
        let first = chained-first n F code deepest kept are m j [] low_m is in
        ap (λ E. all_same (map (λ e. code e.key) E)) (one-below n F code deepest kept are m j (low-in n F code deepest kept are m low_m) is ∙ own-is F j first.first.key first.key)
    one-code m j (i ∷ []) low_m is =
        and-second (is_chain_row (F i) && is_before (key_at F j) (first_key F (links_in F i))) (all_same (map (λ e. code e.key) (Es m))) (canonical-as n F code deepest kept are m (Some (node chain (j ∷ i ∷ []))) low_m is)
    one-code m j (i ∷ h ∷ ks) low_m is = absurd (not-both (canonical-as n F code deepest kept are m (Some (node chain (j ∷ i ∷ h ∷ ks))) low_m is))

    module _ (k m : ℕ) (is : F l ≡ Some (node chain (k ∷ m ∷ []))) where
      pub entry-refused : ((place c : ℕ) → kept_of n F code k (F k) ≡ At place c → ⊥) → None ≡ canonical_kept n F code deepest l
      entry-refused other = refused-is l (Some (node chain (k ∷ m ∷ []))) is
          (ap (λ o. is_chain_row (F m) && is_before o (first_key F (links_in F m)) && all_same (map (λ e. code e.key) (Es l))) (no-key k other) ∙ middle (is_chain_row (F m)) (all_same (map (λ e. code e.key) (Es l))))
        where
          middle : (a b : Bool) → (a && false && b) ≡ false
          middle true b = refl
          middle false b = refl

      pub next-refused : m < length kept → ((place c : ℕ) (two : Bool) → kept_of n F code m (F m) ≡ Chain place c two → ⊥) → None ≡ canonical_kept n F code deepest l
      next-refused low_m other =
          refused-is l (Some (node chain (k ∷ m ∷ []))) is (ap (λ b. b && is_before (key_at F k) (first_key F (links_in F m)) && all_same (map (λ e. code e.key) (Es l))) (by_kind (is_chain_row (F m)) refl))
        where
          kept-so : (ks : List ℕ) → F m ≡ Some (node chain ks) → ⊥
          kept-so [] is = no-empty n F code deepest kept are m low_m is
          kept-so (j ∷ ks) is =
              let first = chained-first n F code deepest kept are m j ks low_m is in
              other (cell_of j (F j)) (code first.first.key) (nat_eq (length ks) 1) (ap (kept_of n F code m) is ∙ ap (kept_chain code (nat_eq (length ks) 1) (cell_of j (F j))) first.key)

          by_kind : (b : Bool) → is_chain_row (F m) ≡ b → b ≡ false
          by_kind false h = refl
          by_kind true h = absurd (let row = chain-row-is (F m) h in kept-so row.0 row.1)

      module _ (place c next_place next_code : ℕ) (two : Bool) (low_m : m < length kept) (entry_kept : kept_of n F code k (F k) ≡ At place c) (next_kept : kept_of n F code m (F m) ≡ Chain next_place next_code two) where
        a : EntryMeans k (F k) place c
        a = entry-means k (F k) place c entry_kept

        b : ChainMeans (F m) next_place next_code
        b = chain-means m (F m) next_place next_code two next_kept

        before-same : is_before (key_at F k) (first_key F (links_in F m)) ≡ is_before (value_of (F place)) (value_of (F next_place))
        before-same =
            ap (λ r. is_before (key_at F k) (first_key F (links_of r))) b.row
            ∙ ap (λ o. is_before o (key_at F b.first)) (a.is ∙ sym (ap (λ j. value_of (F j)) (sym a.place_is) ∙ value-at k (F k) a.key refl a.is))
            ∙ ap (is_before (value_of (F place))) (b.is ∙ sym (ap (λ j. value_of (F j)) (sym b.place_is) ∙ value-at b.first (F b.first) b.key refl b.is))

        first : Chained n F code deepest kept are m b.first
        first = chained-first n F code deepest kept are m b.first b.rest low_m b.row

        first-code : code first.first.key ≡ next_code
        first-code = let e : Some first.first.key ≡ Some b.key = sym first.key ∙ b.is in let same : first.first.key ≡ b.key = cc in ap code same ∙ b.code_is

        codes-same : all_same (map (λ e. code e.key) (Es l)) ≡ nat_eq c next_code
        codes-same =
            let same : all_same (map (λ e. code e.key) (first.first ∷ first.rest)) ≡ true = ap (λ E. all_same (map (λ e. code e.key) E)) (sym first.is) ∙ one-code m b.first b.rest low_m b.row in
            ap (λ E. all_same (map (λ e. code e.key) E)) (two-below n F code deepest kept are l k m low is ∙ ap (λ E. E ++ Es m) (own-is F k a.key a.is) ∙ ap (λ E. entry a.key k ∷ E) first.is)
            ∙ list_all-map (nat_eq (code a.key)) (λ e. code e.key) (first.first ∷ first.rest)
            ∙ all-the-same (λ e. code e.key) (λ e. nat_eq (code a.key) (code e.key)) first.first (λ e same_code. ap (nat_eq (code a.key)) (sym same_code)) first.rest same
            ∙ ap (λ x. nat_eq x (code first.first.key)) a.code_is
            ∙ ap (nat_eq c) first-code

        verdict : is_canonical n F code deepest l (Some (node chain (k ∷ m ∷ []))) ≡ (is_before (value_of (F place)) (value_of (F next_place)) && nat_eq c next_code)
        verdict =
            ap (λ r. is_chain_row r && is_before (key_at F k) (first_key F (links_in F m)) && all_same (map (λ e. code e.key) (Es l))) b.row
            ∙ ap (λ v. v && all_same (map (λ e. code e.key) (Es l))) before-same
            ∙ ap (λ v. is_before (value_of (F place)) (value_of (F next_place)) && v) codes-same

        pub pair-kept : is_before (value_of (F place)) (value_of (F next_place)) ≡ true → nat_eq c next_code ≡ true → Some (Chain place c true) ≡ canonical_kept n F code deepest l
        pair-kept before same =
            ap (λ j. Some (Chain j c true)) (sym a.place_is) ∙ ap (λ x. Some (Chain (cell_of k (F k)) x true)) (sym a.code_is)
            ∙ sym (ap (λ o. Some (kept_chain code true (cell_of k (F k)) o)) a.is)
            ∙ canonical-is l (Some (node chain (k ∷ m ∷ []))) is (verdict ∙ ap (λ v. v && nat_eq c next_code) before ∙ same)

        pub order-refused : is_before (value_of (F place)) (value_of (F next_place)) ≡ false → None ≡ canonical_kept n F code deepest l
        order-refused before = refused-is l (Some (node chain (k ∷ m ∷ []))) is (verdict ∙ ap (λ v. v && nat_eq c next_code) before)

        pub codes-refused : nat_eq c next_code ≡ false → None ≡ canonical_kept n F code deepest l
        codes-refused other = refused-is l (Some (node chain (k ∷ m ∷ []))) is (verdict ∙ ap (λ v. is_before (value_of (F place)) (value_of (F next_place)) && v) other ∙ ends (is_before (value_of (F place)) (value_of (F next_place))))
          where
            ends : (v : Bool) → (v && false) ≡ false
            ends true = refl
            ends false = refl
