-- What a walk meets at the rows of a pool's tries: their first links are entries, and the others rows of tries.
use Rattle.std.proofs.Common.{◌≡◌, ℕ, ◌+◌, ◌≤◌, refl, ap, arith, inl, inr, Bool, true, ◌&&◌, List, [], ◌∷◌, length, take, drop, Option, Some, None, IsSome}
use Rattle.std.specs.Prelude.{is_some, option_map}
use Rattle.std.specs.List.{All}
use lib.Pointwise.{pointwise}
use Rattle.std.proofs.lemmas.List.{length-take}
use Rattle.std.proofs.lemmas.List.Elements.{All-nil, All-cons}
use Rattle.node_heap.specs.Forms.{Form, Forms, cell, node, leaf, inner, trie, chain, pair, state, links_of, links_in}
use Rattle.champ_chain.specs.Entry.{entry, key_at}
use Rattle.champ_trie.specs.Bits.{rank}
use Rattle.champ_trie.specs.Walk.{entry_count, own_entries, rows_below}
use Rattle.pool_text.specs.Rows.{Bytes}
use Rattle.pool_check.specs.Tries.{entry_passes, first_key, positions, are_apart, is_before, is_sub_node, is_chain_row, has_digit, is_entry_at, is_node_at, agree_above, are_branches, are_chained, is_canonical}
use Rattle.pool_check.proofs.GroupLemmas.{positions-length, pointwise-length}
use Rattle.pool_check.proofs.TestLemmas.{and-first, and-second, not-both}
use Rattle.pool_check.proofs.TrieTests.{chain-row-is, sub-node-is}
use Rattle.pool_carry.specs.Carried.{is_of_trie}

-- what each pair of a pointwise test gives of the second
pointwise-all : {A B : Type 0} (E : A → B → Bool) (Q : B → Type 0) → ((a : A) (b : B) → E a b ≡ true → Q b) → (xs : List A) (ys : List B) → pointwise E xs ys ≡ true → All Q ys
pointwise-all E Q gives [] [] is = All-nil Q
pointwise-all E Q gives [] (y ∷ ys) is = absurd (not-both is)
pointwise-all E Q gives (x ∷ xs) [] is = absurd (not-both is)
pointwise-all E Q gives (x ∷ xs) (y ∷ ys) is = All-cons Q y ys (gives x y (and-first (E x y) (pointwise E xs ys) is)) (pointwise-all E Q gives xs ys (and-second (E x y) (pointwise E xs ys) is))

module _ (n : ℕ) (F : Forms Bytes) (code : Bytes → ℕ) (deepest : ℕ) where
  -- the first links of a row of a trie are entries, and the others rows of tries
  pub record IsWalked (r : Option (Form Bytes)) : Type 0 where
    pub count : entry_count r ≤ length (links_of r)
    pub keys : All (λ k. IsSome (key_at F k)) (own_entries r)
    pub rows : All (λ k. is_of_trie (F k) ≡ true) (rows_below r)

  some-key : (o : Option Bytes) → is_some o ≡ true → IsSome o
  some-key None is = absurd (not-both is)
  some-key (Some x) is = refl

  entry-key : (depth p k : ℕ) → is_entry_at n F code depth p k ≡ true → IsSome (key_at F k)
  entry-key depth p k is = by_key (key_at F k) is
    where
      by_key : (o : Option Bytes) → entry_passes (has_digit n F code depth p) (option_map (λ key. entry key k) o) ≡ true → IsSome o
      by_key None is = absurd (not-both is)
      by_key (Some key) is = refl

  sub-node : (depth : ℕ) (r : Option (Form Bytes)) → is_sub_node deepest depth r ≡ true → is_of_trie r ≡ true
  sub-node depth r is = elim (sub-node-is deepest depth r is) as (λ _. is_of_trie r ≡ true) [
    | inl row ↦ ap is_of_trie row.3
    | inr row ↦ ap is_of_trie row.1
  ]

  chain-row : (r : Option (Form Bytes)) → is_chain_row r ≡ true → is_of_trie r ≡ true
  chain-row r is = ap is_of_trie (chain-row-is r is).1

  branches-walked : (depth e d : ℕ) (ks : List ℕ) → are_branches n F code deepest depth e d ks ≡ true → IsWalked (Some (node (trie depth e d) ks))
  unfolding are_branches rank
  branches-walked depth e d ks is =
      let apart : Bool = are_apart e d in
      let first : Bool = pointwise (is_entry_at n F code depth) (positions e) (take (rank e 32) ks) in
      let second : Bool = pointwise (is_node_at n F code deepest depth) (positions d) (drop (rank e 32) ks) in
      let entries : first ≡ true = and-second apart first (and-first (apart && first) second is) in
      let nodes : second ≡ true = and-second (apart && first) second is in
      let long : length (positions e) ≡ length (take (rank e 32) ks) = pointwise-length (is_entry_at n F code depth) (positions e) (take (rank e 32) ks) entries in
      let many : length (positions e) + rank e 0 ≡ rank e 32 = positions-length e 0 32 in
      record {
        count = omega (arith, long, many, length-take (rank e 32) ks);
        keys = pointwise-all (is_entry_at n F code depth) (λ k. IsSome (key_at F k)) (entry-key depth) (positions e) (take (rank e 32) ks) entries;
        rows = pointwise-all (is_node_at n F code deepest depth) (λ k. is_of_trie (F k) ≡ true) (λ p k is. sub-node depth (F k) (and-first (is_sub_node deepest depth (F k)) _ is)) (positions d) (drop (rank e 32) ks) nodes;
      }

  before-some : (a b : Option Bytes) → is_before a b ≡ true → IsSome a
  before-some None b is = absurd (not-both is)
  before-some (Some x) b is = refl

  chained-walked : (l : ℕ) (ks : List ℕ) → are_chained n F code l ks ≡ true → IsWalked (Some (node chain ks))
  chained-walked l [] is = absurd (not-both is)
  chained-walked l (k ∷ []) is = record {
    count = omega arith;
    keys = All-cons (λ j. IsSome (key_at F j)) k [] (some-key (key_at F k) is) (All-nil (λ j. IsSome (key_at F j)));
    rows = All-nil (λ j. is_of_trie (F j) ≡ true);
  }
  chained-walked l (k ∷ m ∷ []) is =
      let row : Bool = is_chain_row (F m) in
      let before : Bool = is_before (key_at F k) (first_key F (links_in F m)) in
      let both : (row && before) ≡ true = and-first (row && before) _ is in
      record {
        count = omega arith;
        keys = All-cons (λ j. IsSome (key_at F j)) k [] (before-some (key_at F k) (first_key F (links_in F m)) (and-second row before both)) (All-nil (λ j. IsSome (key_at F j)));
        rows = All-cons (λ j. is_of_trie (F j) ≡ true) m [] (chain-row (F m) (and-first row before both)) (All-nil (λ j. is_of_trie (F j) ≡ true));
      }
  chained-walked l (k ∷ m ∷ j ∷ ks) is = absurd (not-both is)

  pub walked : (l : ℕ) (r : Option (Form Bytes)) → is_of_trie r ≡ true → is_canonical n F code deepest l r ≡ true → IsWalked r
  walked l None of_trie is = absurd (not-both of_trie)
  walked l (Some (cell x)) of_trie is = absurd (not-both of_trie)
  walked l (Some (node leaf links)) of_trie is = absurd (not-both of_trie)
  walked l (Some (node (inner height) links)) of_trie is = absurd (not-both of_trie)
  walked l (Some (node (trie depth e d) links)) of_trie is =
      branches-walked depth e d links (and-first (are_branches n F code deepest depth e d links) (agree_above n F code depth l) (and-first (are_branches n F code deepest depth e d links && agree_above n F code depth l) _ is))
  walked l (Some (node chain links)) of_trie is = chained-walked l links is
  walked l (Some (node pair links)) of_trie is = absurd (not-both of_trie)
  walked l (Some (node state links)) of_trie is = absurd (not-both of_trie)
