-- What is kept of canonical rows, and what it says of the entries below them.
use Rattle.std.proofs.Common.{◌≡◌, ℕ, zero, suc, ◌+◌, ◌*◌, ◌%◌, ◌^◌, ◌<◌, ◌≤◌, Bool, true, false, ◌&&◌, ◌||◌, cond, Option, Some, None, List, [], ◌∷◌, ◌++◌, map, length, length-append, get_or, slice_get, refl, ap, sym, subst, ◌∙◌, arith, inl, inr}
use Rattle.std.specs.Prelude.{nat_eq, nat_le, ◌==◌, option_map, option_to_list}
use Rattle.std.specs.List.{list_all, flat_map, All}
use Rattle.std.proofs.lemmas.Bool.{leb-true, ne_eqb}
use Rattle.std.proofs.lemmas.List.{append-nil}
use Rattle.std.proofs.lemmas.List.Folds.{list_all-map}
use Rattle.elem_core.specs.Codes.{digit_at}
use Rattle.node_heap.specs.Forms.{Form, Forms, cell, node, leaf, inner, trie, chain, pair, state, value_of, links_in}
use Rattle.champ_chain.specs.Entry.{Entry, entry, key_of, key_at}
use Rattle.champ_trie.specs.Walk.{own_entries, rows_below}
use Rattle.pool_text.specs.Rows.{Bytes}
use Rattle.pool_check.specs.Tries.{entries_below, entry_passes, first_key, is_before, is_sub_node, is_chain_row, has_digit, is_entry_at, is_node_at, agree_above, are_branches, are_chained, all_same, is_canonical}
use Rattle.pool_check.specs.Keeping.{code_at, codes_below, code_of_entry, code_of_node, cell_of, kept_node, kept_entry, kept_chain, kept_of, AreKept}
use Rattle.pool_check.specs.declared.trie_row.KeptRow.{KeptRow}
use Rattle.pool_check.specs.declared.trie_row.Part.TheVariants.{Entries, Nodes}
use Rattle.pool_check.proofs.TestLemmas.{and-first, and-second, not-both}
use Rattle.pool_check.proofs.TrieTests.{some-is, chain-row-is, sub-node-is}
use Rattle.pool_check.proofs.EntriesBelow.{own, own-is, rows-low, entries-is}
use Rattle.pool_check.proofs.CodeLists.{all-the-same, one-deeper, Stand, OneSays}

-- a smaller key is a key
before-some : (a b : Option Bytes) → is_before a b ≡ true → (key : Bytes) × (a ≡ Some key)
before-some None b h = absurd (not-both h)
before-some (Some a) b h = (a, refl)

or-second : (a b : Bool) → a ≡ false → (a || b) ≡ true → b ≡ true
or-second true b not_a h = absurd (not-both (sym not_a))
or-second false b not_a h = h

module _ (n : ℕ) (F : Forms Bytes) (code : Bytes → ℕ) (deepest : ℕ) (kept : List KeptRow) (are : AreKept n F code deepest kept) where
  abbrev Es : ℕ → List (Entry Bytes)
  Es = entries_below n F

  pub canonical-as : (l : ℕ) (r : Option (Form Bytes)) → l < length kept → F l ≡ r → is_canonical n F code deepest l r ≡ true
  canonical-as l r low is = ap (λ x. is_canonical n F code deepest l x) (sym is) ∙ are.canonical l low

  pub low-in : (l : ℕ) → l < length kept → l < n
  low-in l low = omega (arith, low, are.low)

  -- a list with its first element
  record Begins (l : ℕ) : Type 0 where
    pub first : Entry Bytes
    pub rest : List (Entry Bytes)
    pub is : Es l ≡ first ∷ rest

  -- a chain row of a key, whose place is in range
  pub record Chained (l k : ℕ) : Type 0 where
    pub first : Entry Bytes
    pub rest : List (Entry Bytes)
    pub is : Es l ≡ first ∷ rest
    pub key : key_at F k ≡ Some first.key

  -- the entries below a chain row
  pub one-below : (l k : ℕ) → l < n → F l ≡ Some (node chain (k ∷ [])) → Es l ≡ own F k
  one-below l k low is =
      entries-is F are.falls n l low ∙ ap (λ r. flat_map (own F) (own_entries r) ++ flat_map Es (rows_below r)) is ∙ append-nil (own F k ++ []) ∙ append-nil (own F k)

  pub two-below : (l k m : ℕ) → l < n → F l ≡ Some (node chain (k ∷ m ∷ [])) → Es l ≡ own F k ++ Es m
  two-below l k m low is =
      entries-is F are.falls n l low ∙ ap (λ r. flat_map (own F) (own_entries r) ++ flat_map Es (rows_below r)) is
      ∙ ap (λ es. es ++ (Es m ++ [])) (append-nil (own F k)) ∙ ap (λ es. own F k ++ es) (append-nil (Es m))

  -- a canonical chain row begins with its own entry
  pub chained-first : (l k : ℕ) (ks : List ℕ) → l < length kept → F l ≡ Some (node chain (k ∷ ks)) → Chained l k
  chained-first l k ks low is = by_rest ks is (canonical-as l (Some (node chain (k ∷ ks))) low is)
    where
      by_rest : (ks : List ℕ) → F l ≡ Some (node chain (k ∷ ks)) → are_chained n F code l (k ∷ ks) ≡ true → Chained l k
      by_rest [] is h =
          let key = some-is (key_at F k) h in
          record { first = entry key.0 k; rest = []; is = one-below l k (low-in l low) is ∙ own-is F k key.0 key.1; key = key.1 }
      by_rest (m ∷ []) is h =
          let before = and-second (is_chain_row (F m)) (is_before (key_at F k) (first_key F (links_in F m)))
          (and-first (is_chain_row (F m) && is_before (key_at F k) (first_key F (links_in F m))) (all_same (map (λ e. code e.key) (Es l))) h) in
          let key = before-some (key_at F k) (first_key F (links_in F m)) before in
          record { first = entry key.0 k; rest = Es m; is = two-below l k m (low-in l low) is ∙ ap (λ es. es ++ Es m) (own-is F k key.0 key.1); key = key.1 }
      by_rest (m ∷ j ∷ ks) is h = absurd (not-both h)

  pub no-empty : (l : ℕ) → l < length kept → F l ≡ Some (node chain []) → ⊥
  no-empty l low is = not-both (canonical-as l (Some (node chain [])) low is)

  -- the entries below a sub-node: two or more, for which a test answers the same where it asks no more than a digit and those above
  pub record AnswersAsFirst (depth k : ℕ) : Type 0 where
    pub first : Entry Bytes
    pub rest : List (Entry Bytes)
    pub is : Es k ≡ first ∷ rest
    pub two : 2 ≤ length (first ∷ rest)
    pub as_first : (q : Entry Bytes → Bool) → ((e : Entry Bytes) → digit_at (code e.key) depth ≡ digit_at (code first.key) depth → code e.key % 2 ^ (5 * depth) ≡ code first.key % 2 ^ (5 * depth) → q e ≡ q first)
        → list_all q (first ∷ rest) ≡ q first

  -- so it is where all of them agree on what says as much
  agree-as-first : (depth k : ℕ) (m : Entry Bytes → ℕ) → ((x y : Entry Bytes) → m x ≡ m y → (digit_at (code x.key) depth ≡ digit_at (code y.key) depth) × (code x.key % 2 ^ (5 * depth) ≡ code y.key % 2 ^ (5 * depth)))
      → all_same (map m (Es k)) ≡ true → 2 ≤ length (Es k) → AnswersAsFirst depth k
  agree-as-first depth k m says agree two = by_entries (Es k) refl agree two
    where
      by_entries : (E : List (Entry Bytes)) → Es k ≡ E → all_same (map m E) ≡ true → 2 ≤ length E → AnswersAsFirst depth k
      by_entries [] is h two = absurd (omega (arith, two))
      by_entries (x ∷ xs) is h two = record {
        first = x;
        rest = xs;
        is = is;
        two = two;
        as_first = λ q follows. all-the-same m q x (λ y same. let both = says y x (sym same) in follows y both.0 both.1) xs h;
      }

  trie-as-first : (depth k e d : ℕ) (ks : List ℕ) → k < length kept → F k ≡ Some (node (trie (depth + 1) e d) ks) → AnswersAsFirst depth k
  trie-as-first depth k e d ks low is = agree-as-first depth k m (λ x y same. one-deeper depth (code x.key) (code y.key) same) agree two
    where
      m : Entry Bytes → ℕ
      m x = code x.key % 2 ^ (5 * (depth + 1))

      h : is_canonical n F code deepest k (Some (node (trie (depth + 1) e d) ks)) ≡ true
      h = canonical-as k (Some (node (trie (depth + 1) e d) ks)) low is

      agree : all_same (map m (Es k)) ≡ true
      agree = and-second (are_branches n F code deepest (depth + 1) e d ks) (agree_above n F code (depth + 1) k)
          (and-first (are_branches n F code deepest (depth + 1) e d ks && agree_above n F code (depth + 1) k) ((depth + 1 == 0) || nat_le 2 (length (Es k))) h)

      two : 2 ≤ length (Es k)
      two = leb-true 2 (length (Es k)) (or-second (depth + 1 == 0) (nat_le 2 (length (Es k))) (ne_eqb (depth + 1) 0 (λ z. absurd (omega (arith, z))))
          (and-second (are_branches n F code deepest (depth + 1) e d ks && agree_above n F code (depth + 1) k) ((depth + 1 == 0) || nat_le 2 (length (Es k))) h))

  chain-as-first : (depth k : ℕ) (ks : List ℕ) → k < length kept → F k ≡ Some (node chain ks) → length ks ≡ 2 → AnswersAsFirst depth k
  chain-as-first depth k [] low is two = absurd (omega (arith, two))
  chain-as-first depth k (j ∷ []) low is two = absurd (omega (arith, two))
  chain-as-first depth k (j ∷ i ∷ m ∷ ks) low is two = absurd (omega (arith, two))
  chain-as-first depth k (j ∷ m ∷ []) low is two = agree-as-first depth k (λ e. code e.key) (λ x y alike. (ap (λ c. digit_at c depth) alike, ap (λ c. c % 2 ^ (5 * depth)) alike)) same more
    where
      h : are_chained n F code k (j ∷ m ∷ []) ≡ true
      h = canonical-as k (Some (node chain (j ∷ m ∷ []))) low is

      a : Bool
      a = is_chain_row (F m)

      b : Bool
      b = is_before (key_at F j) (first_key F (links_in F m))

      same : all_same (map (λ e. code e.key) (Es k)) ≡ true
      same = and-second (a && b) (all_same (map (λ e. code e.key) (Es k))) h

      row : (ks : List ℕ) × (F m ≡ Some (node chain ks))
      row = chain-row-is (F m) (and-first a b (and-first (a && b) (all_same (map (λ e. code e.key) (Es k))) h))

      below : m < k
      below = subst (λ xs. All (λ i. i < k) xs) (ap rows_below is) (rows-low F are.falls k) 0 0 (omega arith)

      next : (ks : List ℕ) → F m ≡ Some (node chain ks) → 1 ≤ length (Es m)
      next [] is = absurd (no-empty m (omega (arith, below, low)) is)
      next (i ∷ ks) is = let first = chained-first m i ks (omega (arith, below, low)) is in omega (arith, ap length first.is)

      more : 2 ≤ length (Es k)
      more =
          let first = chained-first k j (m ∷ []) low is in
          let all : length (Es k) ≡ length (own F j) + length (Es m) = ap length (two-below k j m (low-in k low) is) ∙ length-append (own F j) (Es m) in
          let one : length (own F j) ≡ 1 = ap length (own-is F j first.first.key first.key) in
          omega (arith, all, one, next row.0 row.1)

  pub sub-as-first : (depth k : ℕ) → k < length kept → is_sub_node deepest depth (F k) ≡ true → AnswersAsFirst depth k
  sub-as-first depth k low h = elim (sub-node-is deepest depth (F k) h) as (λ _. AnswersAsFirst depth k) [
    | inl row ↦ trie-as-first depth k row.0 row.1 row.2 low row.3
    | inr row ↦ chain-as-first depth k row.0 low row.1 row.2
  ]

  -- what the code of the key at a link says, where the link is to name an entry
  pub entry-says : (depth k : ℕ) → OneSays code depth (λ p. is_entry_at n F code depth p k) (own F k) (code_at n F code deepest Entries depth k)
  entry-says depth k = by_key (key_at F k)
    where
      by_key : (o : Option Bytes) → OneSays code depth (λ p. entry_passes (has_digit n F code depth p) (option_map (λ key. entry key k) o)) (option_to_list (option_map (λ key. entry key k) o)) (option_map code o)
      by_key None = record {
        none = λ e p. refl;
        digit = λ c e p. absurd (let f : None ≡ Some c = e in cc);
        stand = λ c e. absurd (let f : None ≡ Some c = e in cc);
      }
      by_key (Some key) = record {
        none = λ e p. absurd (let f : Some (code key) ≡ None = e in cc);
        digit = λ c e p. let f : Some (code key) ≡ Some c = e in let is : code key ≡ c = cc in ap (λ x. nat_eq (digit_at x depth) p) is;
        stand = λ c e.
            let f : Some (code key) ≡ Some c = e in
            let is : code key ≡ c = cc in
            let one : Stand code depth (entry key k ∷ []) (code key ∷ []) = record { head = refl; same = λ x. refl; long = omega arith } in
            subst (λ x. Stand code depth (entry key k ∷ []) (x ∷ [])) is one;
      }

  -- what the code of the first key at a link says, where the link is to name a sub-node
  pub node-says : (depth k : ℕ) → k < length kept → OneSays code depth (λ p. is_node_at n F code deepest depth p k) (Es k) (code_at n F code deepest Nodes depth k)
  node-says depth k low = by_kind (is_sub_node deepest depth (F k)) refl
    where
      by_kind : (b : Bool) → is_sub_node deepest depth (F k) ≡ b → OneSays code depth (λ p. b && list_all (has_digit n F code depth p) (Es k)) (Es k) (cond b (slice_get (codes_below n F code k) 0) None)
      by_kind false h = record {
        none = λ e p. refl;
        digit = λ c e p. absurd (let f : None ≡ Some c = e in cc);
        stand = λ c e. absurd (let f : None ≡ Some c = e in cc);
      }
      by_kind true h = by_first (sub-as-first depth k low h)
        where
          by_first : AnswersAsFirst depth k → OneSays code depth (λ p. true && list_all (has_digit n F code depth p) (Es k)) (Es k) (slice_get (codes_below n F code k) 0)
          by_first below = record {
            none = λ e p. absurd (let f : Some (code below.first.key) ≡ None = sym head ∙ e in cc);
            digit = λ c e p.
                let f : Some (code below.first.key) ≡ Some c = sym head ∙ e in
                let is : code below.first.key ≡ c = cc in
                ap (list_all (has_digit n F code depth p)) below.is
                ∙ below.as_first (has_digit n F code depth p) (λ x same _. ap (λ d. nat_eq d p) same)
                ∙ ap (λ x. nat_eq (digit_at x depth) p) is;
            stand = λ c e.
                let f : Some (code below.first.key) ≡ Some c = sym head ∙ e in
                let is : code below.first.key ≡ c = cc in
                let one : Stand code depth (below.first ∷ below.rest) (code below.first.key ∷ []) = record { head = refl; same = same; long = omega arith } in
                subst (λ x. Stand code depth (Es k) (x ∷ [])) is (subst (λ es. Stand code depth es (code below.first.key ∷ [])) (sym below.is) one);
          }
            where
              head : slice_get (codes_below n F code k) 0 ≡ Some (code below.first.key)
              head = ap (λ es. slice_get (map (λ e. code e.key) es) 0) below.is

              and-true : (b : Bool) → b ≡ (b && true)
              and-true true = refl
              and-true false = refl

              same : (x : ℕ) → list_all (nat_eq x) (map (λ e. code e.key % 2 ^ (5 * depth)) (below.first ∷ below.rest)) ≡ list_all (nat_eq x) (map (λ c. c % 2 ^ (5 * depth)) (code below.first.key ∷ []))
              same x =
                  list_all-map (nat_eq x) (λ e. code e.key % 2 ^ (5 * depth)) (below.first ∷ below.rest)
                  ∙ below.as_first (λ e. nat_eq x (code e.key % 2 ^ (5 * depth))) (λ e _ high. ap (nat_eq x) high)
                  ∙ and-true (nat_eq x (code below.first.key % 2 ^ (5 * depth)))

  no-code : (b : Bool) → ◌≡◌ {A = Option ℕ} None (cond b None None)
  no-code true = refl
  no-code false = refl

  -- the code that is kept of an entry is its key's
  pub entry-code : (k : ℕ) (r : Option (Form Bytes)) → code_of_entry (kept_of n F code k r) ≡ option_map code (key_of F r)
  entry-code k None = refl
  entry-code k (Some (cell x)) = refl
  entry-code k (Some (node leaf ks)) = refl
  entry-code k (Some (node (inner height) ks)) = refl
  entry-code k (Some (node (trie d e m) ks)) = by_codes (codes_below n F code k)
    where
      by_codes : (cs : List ℕ) → code_of_entry (kept_node d cs) ≡ None
      by_codes [] = refl
      by_codes (c ∷ cs) = refl
  entry-code k (Some (node chain [])) = refl
  entry-code k (Some (node chain (j ∷ ks))) = by_key (key_at F j)
    where
      by_key : (o : Option Bytes) → code_of_entry (kept_chain code (length ks == 1) (cell_of j (F j)) o) ≡ None
      by_key None = refl
      by_key (Some key) = refl
  entry-code k (Some (node pair [])) = refl
  entry-code k (Some (node pair (j ∷ ks))) = by_key (value_of (F j))
    where
      by_key : (o : Option Bytes) → code_of_entry (kept_entry code j o) ≡ option_map code o
      by_key None = refl
      by_key (Some key) = refl
  entry-code k (Some (node state ks)) = refl

  -- the code that is kept of a sub-node is that of the first key below it
  pub node-code : (depth k : ℕ) (r : Option (Form Bytes)) → k < length kept → F k ≡ r → code_of_node deepest depth (kept_of n F code k r) ≡ cond (is_sub_node deepest depth r) (slice_get (codes_below n F code k) 0) None
  node-code depth k None low is = refl
  node-code depth k (Some (cell x)) low is = refl
  node-code depth k (Some (node leaf ks)) low is = refl
  node-code depth k (Some (node (inner height) ks)) low is = refl
  node-code depth k (Some (node (trie d e m) ks)) low is = by_codes (codes_below n F code k)
    where
      by_codes : (cs : List ℕ) → code_of_node deepest depth (kept_node d cs) ≡ cond (d == depth + 1) (slice_get cs 0) None
      by_codes [] = no-code (d == depth + 1)
      by_codes (c ∷ cs) = refl
  node-code depth k (Some (node chain [])) low is = absurd (no-empty k low is)
  node-code depth k (Some (node chain (j ∷ []))) low is =
      let first = chained-first k j [] low is in
      ap (λ o. code_of_node deepest depth (kept_chain code false (cell_of j (F j)) o)) first.key ∙ other (depth == deepest)
    where
      other : (b : Bool) → cond (b && false) (Some (code (chained-first k j [] low is).first.key)) None ≡ cond (b && false) (slice_get (codes_below n F code k) 0) None
      other true = refl
      other false = refl
  node-code depth k (Some (node chain (j ∷ m ∷ []))) low is =
      let first = chained-first k j (m ∷ []) low is in
      ap (λ o. code_of_node deepest depth (kept_chain code true (cell_of j (F j)) o)) first.key
      ∙ ap (λ o. cond ((depth == deepest) && true) o None) (sym (ap (λ es. slice_get (map (λ e. code e.key) es) 0) first.is))
  node-code depth k (Some (node chain (j ∷ m ∷ i ∷ ks))) low is = absurd (not-both (canonical-as k (Some (node chain (j ∷ m ∷ i ∷ ks))) low is))
  node-code depth k (Some (node pair [])) low is = refl
  node-code depth k (Some (node pair (j ∷ ks))) low is = by_key (value_of (F j))
    where
      by_key : (o : Option Bytes) → code_of_node deepest depth (kept_entry code j o) ≡ None
      by_key None = refl
      by_key (Some key) = refl
  node-code depth k (Some (node state ks)) low is = refl

  pub kept-at : (x : KeptRow) (k : ℕ) → k < length kept → get_or kept k x ≡ kept_of n F code k (F k)
  kept-at x k low = read kept k low (are.kept k low)
    where
      read : (xs : List KeptRow) (i : ℕ) → i < length xs → slice_get xs i ≡ Some (kept_of n F code k (F k)) → get_or xs i x ≡ kept_of n F code k (F k)
      read [] i low is = absurd (omega arith)
      read (y ∷ xs) zero low is = let e : Some y ≡ Some (kept_of n F code k (F k)) = is in let f : y ≡ kept_of n F code k (F k) = cc in f
      read (y ∷ xs) (suc i) low is = read xs i (omega arith) is

  pub entry-code-at : (x : KeptRow) (depth k : ℕ) → k < length kept → code_of_entry (get_or kept k x) ≡ code_at n F code deepest Entries depth k
  entry-code-at x depth k low = ap code_of_entry (kept-at x k low) ∙ entry-code k (F k)

  pub node-code-at : (x : KeptRow) (depth k : ℕ) → k < length kept → code_of_node deepest depth (get_or kept k x) ≡ code_at n F code deepest Nodes depth k
  node-code-at x depth k low = ap (code_of_node deepest depth) (kept-at x k low) ∙ node-code depth k (F k) low refl
