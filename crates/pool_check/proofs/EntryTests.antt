-- A test of all entries below a row, by the row's own entries and the rows below it.
use Rattle.std.proofs.Common.{◌≡◌, ℕ, ◌<◌, ◌≤◌, Bool, true, false, ◌&&◌, List, [], ◌∷◌, length, map, take, drop, refl, ap, ◌∙◌, arith}
use Rattle.std.specs.Prelude.{Option, Some, None, is_some, option_map, option_to_list}
use Rattle.std.specs.List.{flat_map, list_all}
use Rattle.std.proofs.lemmas.Bool.{and_parts, and_from}
use Rattle.std.proofs.lemmas.List.{length-take}
use Rattle.std.proofs.lemmas.List.Folds.{list_all-append}
use lib.Pointwise.{pointwise}
use Rattle.node_heap.specs.Links.{LeadsDown}
use Rattle.node_heap.specs.Forms.{Form, Forms, cell, node, leaf, inner, trie, chain, pair, state, links_in}
use Rattle.champ_chain.specs.Entry.{Entry, entry, key_at}
use Rattle.champ_trie.specs.Bits.{rank}
use Rattle.champ_trie.specs.Walk.{own_entries, rows_below}
use Rattle.pool_text.specs.Rows.{Bytes}
use Rattle.pool_check.specs.Tries.{entries_below, entry_passes, first_key, positions, is_before, is_sub_node, is_chain_row, has_digit, is_entry_at, is_node_at, agree_above, are_branches, all_same, is_canonical}
use Rattle.pool_check.proofs.GroupLemmas.{positions-length, pointwise-length}
use Rattle.pool_check.proofs.TestLemmas.{not-both}
use Rattle.pool_check.proofs.EntriesBelow.{own, entries-is}

list_all-flat_map : {X Y : Type 0} (q : Y → Bool) (g : X → List Y) (xs : List X) → list_all q (flat_map g xs) ≡ list_all (λ x. list_all q (g x)) xs
list_all-flat_map q g [] = refl
list_all-flat_map q g (x ∷ xs) = list_all-append q (g x) (flat_map g xs) ∙ ap (λ b. list_all q (g x) && b) (list_all-flat_map q g xs)

-- two tests are one where a third one is passed
pub list_all-same : {X : Type 0} (r p q : X → Bool) → ((x : X) → r x ≡ true → p x ≡ q x) → (xs : List X) → list_all r xs ≡ true → list_all p xs ≡ list_all q xs
list_all-same r p q same [] h = refl
list_all-same r p q same (x ∷ xs) h =
    let parts = and_parts (r x) (list_all r xs) h in
    ap (λ b. b && list_all p xs) (same x parts.0) ∙ ap (λ b. q x && b) (list_all-same r p q same xs parts.1)

-- what each second element passes where both lists are tested in pairs
pub pointwise-second : {A B : Type 0} (E : A → B → Bool) (q : B → Bool) → ((a : A) (b : B) → E a b ≡ true → q b ≡ true) → (xs : List A) (ys : List B) → pointwise E xs ys ≡ true → list_all q ys ≡ true
pointwise-second E q says [] [] h = refl
pointwise-second E q says [] (y ∷ ys) h = absurd (not-both h)
pointwise-second E q says (x ∷ xs) [] h = absurd (not-both h)
pointwise-second E q says (x ∷ xs) (y ∷ ys) h =
    let parts = and_parts (E x y) (pointwise E xs ys) h in
    and_from (q y) (list_all q ys) (says x y parts.0) (pointwise-second E q says xs ys parts.1)

-- whether the row is a trie row or a chain row
abbrev pub is_entry_row : Option (Form Bytes) → Bool
is_entry_row (Some (node (trie _ _ _) _)) = true
is_entry_row (Some (node chain _)) = true
is_entry_row _ = false

module _ (F : Forms Bytes) (falls : LeadsDown (λ l. l) (links_in F)) (n : ℕ) where
  module _ (test : ℕ → Bool) where
    own-passes : (k : ℕ) → is_some (key_at F k) ≡ true → list_all (λ (e : Entry Bytes). test e.link) (own F k) ≡ test k
    own-passes k some = by_key (key_at F k) some
      where
        and-true : (b : Bool) → (b && true) ≡ b
        and-true true = refl
        and-true false = refl

        by_key : (o : Option Bytes) → is_some o ≡ true → list_all (λ (e : Entry Bytes). test e.link) (option_to_list (option_map (λ key. entry key k) o)) ≡ test k
        by_key None h = absurd (not-both h)
        by_key (Some key) h = and-true (test k)

    -- a test of all entries below a row whose own entries have keys
    pub entries-pass : (l : ℕ) → l < n → list_all (λ k. is_some (key_at F k)) (own_entries (F l)) ≡ true
        → list_all (λ (e : Entry Bytes). test e.link) (entries_below n F l) ≡ (list_all test (own_entries (F l)) && list_all (λ k. list_all (λ (e : Entry Bytes). test e.link) (entries_below n F k)) (rows_below (F l)))
    entries-pass l low keyed =
        let q : Entry Bytes → Bool = λ e. test e.link in
        let below : Bool = list_all (λ k. list_all q (entries_below n F k)) (rows_below (F l)) in
        ap (list_all q) (entries-is F falls n l low)
        ∙ list_all-append q (flat_map (own F) (own_entries (F l))) (flat_map (entries_below n F) (rows_below (F l)))
        ∙ ap (λ b. list_all q (flat_map (own F) (own_entries (F l))) && b) (list_all-flat_map q (entries_below n F) (rows_below (F l)))
        ∙ ap (λ b. b && below)
        (list_all-flat_map q (own F) (own_entries (F l)) ∙ list_all-same (λ k. is_some (key_at F k)) (λ k. list_all q (own F k)) test own-passes (own_entries (F l)) keyed)

  module _ (code : Bytes → ℕ) where
    entry-keyed : (depth p k : ℕ) → is_entry_at n F code depth p k ≡ true → is_some (key_at F k) ≡ true
    entry-keyed depth p k h = by_key (key_at F k) h
      where
        by_key : (o : Option Bytes) → entry_passes (has_digit n F code depth p) (option_map (λ key. entry key k) o) ≡ true → is_some o ≡ true
        by_key None h = absurd (not-both h)
        by_key (Some key) h = refl

    sub-node-row : (deepest depth : ℕ) (r : Option (Form Bytes)) → is_sub_node deepest depth r ≡ true → is_entry_row r ≡ true
    sub-node-row deepest depth None h = absurd (not-both h)
    sub-node-row deepest depth (Some (cell _)) h = absurd (not-both h)
    sub-node-row deepest depth (Some (node leaf _)) h = absurd (not-both h)
    sub-node-row deepest depth (Some (node (inner _) _)) h = absurd (not-both h)
    sub-node-row deepest depth (Some (node (trie _ _ _) _)) h = refl
    sub-node-row deepest depth (Some (node chain _)) h = refl
    sub-node-row deepest depth (Some (node pair _)) h = absurd (not-both h)
    sub-node-row deepest depth (Some (node state _)) h = absurd (not-both h)

    chain-row : (r : Option (Form Bytes)) → is_chain_row r ≡ true → is_entry_row r ≡ true
    chain-row None h = absurd (not-both h)
    chain-row (Some (cell _)) h = absurd (not-both h)
    chain-row (Some (node leaf _)) h = absurd (not-both h)
    chain-row (Some (node (inner _) _)) h = absurd (not-both h)
    chain-row (Some (node (trie _ _ _) _)) h = absurd (not-both h)
    chain-row (Some (node chain _)) h = refl
    chain-row (Some (node pair _)) h = absurd (not-both h)
    chain-row (Some (node state _)) h = absurd (not-both h)

    before-some : (a b : Option Bytes) → is_before a b ≡ true → is_some a ≡ true
    before-some None b h = absurd (not-both h)
    before-some (Some a) b h = refl

    -- a canonical row's own entries have keys, and the rows below it have entries
    pub record HasRows (entries below : List ℕ) : Type 0 where
      pub keyed : list_all (λ k. is_some (key_at F k)) entries ≡ true
      pub rows : list_all (λ k. is_entry_row (F k)) below ≡ true

    pub trie-has : (deepest l depth e d : ℕ) (ks : List ℕ) → is_canonical n F code deepest l (Some (node (trie depth e d) ks)) ≡ true → HasRows (take (rank e 32) ks) (drop (rank e 32) ks)
    unfolding are_branches
    trie-has deepest l depth e d ks h =
        let branches = (and_parts (are_branches n F code deepest depth e d ks) (agree_above n F code depth l) (and_parts (are_branches n F code deepest depth e d ks && agree_above n F code depth l) _ h).0).0 in
        let x : Bool = pointwise (is_entry_at n F code depth) (positions e) (take (rank e 32) ks) in
        let y : Bool = pointwise (is_node_at n F code deepest depth) (positions d) (drop (rank e 32) ks) in
        let two = and_parts _ y branches in
        record {
          keyed = pointwise-second (is_entry_at n F code depth) (λ k. is_some (key_at F k)) (entry-keyed depth) (positions e) (take (rank e 32) ks) (and_parts _ x two.0).1;
          rows = pointwise-second (is_node_at n F code deepest depth) (λ k. is_entry_row (F k))
              (λ p k here. sub-node-row deepest depth (F k) (and_parts (is_sub_node deepest depth (F k)) (list_all (has_digit n F code depth p) (entries_below n F k)) here).0) (positions d) (drop (rank e 32) ks) two.1;
        }

    rank-zero : (set : ℕ) → rank set 0 ≡ 0
    unfolding rank
    rank-zero set = refl

    -- a canonical row has links for its entries
    pub trie-long : (deepest l depth e d : ℕ) (ks : List ℕ) → is_canonical n F code deepest l (Some (node (trie depth e d) ks)) ≡ true → rank e 32 ≤ length ks
    unfolding are_branches
    trie-long deepest l depth e d ks h =
        let branches = (and_parts (are_branches n F code deepest depth e d ks) (agree_above n F code depth l) (and_parts (are_branches n F code deepest depth e d ks && agree_above n F code depth l) _ h).0).0 in
        let x : Bool = pointwise (is_entry_at n F code depth) (positions e) (take (rank e 32) ks) in
        let y : Bool = pointwise (is_node_at n F code deepest depth) (positions d) (drop (rank e 32) ks) in
        let long = pointwise-length (is_entry_at n F code depth) (positions e) (take (rank e 32) ks) (and_parts _ x (and_parts _ y branches).0).1 in
        omega (arith, long, positions-length e 0 32, rank-zero e, length-take (rank e 32) ks)

    pub chain-has : (deepest l : ℕ) (ks : List ℕ) → is_canonical n F code deepest l (Some (node chain ks)) ≡ true → HasRows (take 1 ks) (drop 1 ks)
    chain-has deepest l [] h = absurd (not-both h)
    chain-has deepest l (k ∷ []) h = record { keyed = and_from (is_some (key_at F k)) true h refl; rows = refl }
    chain-has deepest l (k ∷ m ∷ []) h =
        let a : Bool = is_chain_row (F m) in
        let b : Bool = is_before (key_at F k) (first_key F (links_in F m)) in
        let two = and_parts a b (and_parts (a && b) (all_same (map (λ (e : Entry Bytes). code e.key) (entries_below n F l))) h).0 in
        record {
          keyed = and_from (is_some (key_at F k)) true (before-some (key_at F k) (first_key F (links_in F m)) two.1) refl;
          rows = and_from (is_entry_row (F m)) true (chain-row (F m) two.0) refl;
        }
    chain-has deepest l (k ∷ m ∷ j ∷ ks) h = absurd (not-both h)
