-- The test of one trie row, made of the codes of one key at each of its links.
use Rattle.std.proofs.Common.{◌≡◌, ◌≢◌, ℕ, zero, suc, ◌+◌, ◌*◌, ◌%◌, ◌^◌, ◌<◌, ◌≤◌, Bool, true, false, ◌&&◌, ◌||◌, not, cond, Option, Some, None, List, [], ◌∷◌, ◌++◌, map, length, length-append, take, drop, slice_get, min, w32, length-drop, refl, ap, sym, subst, ◌∙◌, arith, inl, inr}
use Rattle.std.specs.Prelude.{count_ones, nat_lt, nat_le, ◌==◌, option_map, option_and_then, option_to_list}
use Rattle.std.specs.List.{list_all, flat_map, range_with_len}
use Rattle.std.specs.Int.{bit_at, trailing_zeros}
use Rattle.std.specs.Int.Bits.{bit_and}
use Rattle.std.proofs.lemmas.Bool.{ltb-true, cases_eq}
use Rattle.std.proofs.lemmas.Bool.Decides.{nat_tests}
use Rattle.std.proofs.lemmas.List.{append-nil, length-take, length-take-le, take-append-drop}
use Rattle.std.proofs.lemmas.List.Folds.{list_all-append}
use Rattle.std.proofs.lemmas.Nat.{and_le_l}
use Rattle.std.proofs.lemmas.Nat.Bits.{bit_at_and, bit_at-zero, bit_at-lt, bit_at-trailing_zeros}
use lib.Pointwise.{pointwise}
use Rattle.node_heap.specs.Forms.{Forms, node, trie}
use Rattle.champ_chain.specs.Entry.{Entry, entry, key_at}
use Rattle.champ_trie.specs.Bits.{has, rank}
use Rattle.champ_trie.specs.Walk.{own_entries, rows_below}
use Rattle.champ_trie.proofs.BitLemmas.{bit-has, has-bit, count-rank}
use Rattle.pool_text.specs.Rows.{Bytes}
use Rattle.pool_check.specs.Tries.{entries_below, positions, are_apart, is_sub_node, is_entry_at, is_node_at, agree_above, are_branches, all_same, is_canonical}
use Rattle.pool_check.specs.Keeping.{code_at, codes_below, codes_by, codes_in, digits_are, codes_stand, kept_node, kept_of, canonical_kept, AreKept}
use Rattle.pool_check.specs.declared.trie_row.KeptRow.{KeptRow}
use Rattle.pool_check.specs.declared.trie_row.KeptRow.TheVariants.{Node}
use Rattle.pool_check.specs.declared.trie_row.Part.TheVariants.{Entries, Nodes}
use Rattle.pool_check.proofs.TestLemmas.{and-first, and-second}
use Rattle.pool_check.proofs.GroupLemmas.{positions-length, pointwise-length}
use Rattle.pool_check.proofs.EntriesBelow.{own, entries-is}
use Rattle.pool_check.proofs.CodeLists.{Stand, stand-append, stand-agree, tests-codes, tests-fail, stand-all, codes-length, cons-some}
use Rattle.pool_check.proofs.KeptLemmas.{sub-as-first, entry-says, node-says}

le-true : (a b : ℕ) → a ≤ b → nat_le a b ≡ true
le-true a b h = grind (arith, nat_tests)

lt-true : (a b : ℕ) → a < b → nat_lt a b ≡ true
lt-true a b h = grind (arith, nat_tests)

lt-false : (a b : ℕ) → b ≤ a → nat_lt a b ≡ false
lt-false a b h = grind (arith, nat_tests)

rank-zero : (s : ℕ) → rank s 0 ≡ 0
unfolding rank
rank-zero s = refl

and-false : (a : Bool) → (a && false) ≡ false
and-false true = refl
and-false false = refl

-- the two parts of a row's codes
in-parts : (a b : Option (List ℕ)) (cs : List ℕ) → option_and_then (λ cs. option_map (λ ds. cs ++ ds) b) a ≡ Some cs → (es : List ℕ) × (ds : List ℕ) × (a ≡ Some es) × (b ≡ Some ds) × (cs ≡ es ++ ds)
in-parts None b cs h = absurd (let e : None ≡ Some cs = h in cc)
in-parts (Some es) None cs h = absurd (let e : None ≡ Some cs = h in cc)
in-parts (Some es) (Some ds) cs h = let e : Some (es ++ ds) ≡ Some cs = h in let same : cs ≡ es ++ ds = cc in (es, ds, refl, refl, same)

-- where there are no codes, one part has none
data Lacks (a b : Option (List ℕ)) : Type 0 where
  lacks_first : a ≡ None → Lacks a b
  lacks_second : b ≡ None → Lacks a b

lacking : (a b : Option (List ℕ)) → option_and_then (λ cs. option_map (λ ds. cs ++ ds) b) a ≡ None → Lacks a b
lacking None b h = lacks_first refl
lacking (Some es) None h = lacks_second refl
lacking (Some es) (Some ds) h = absurd (let e : Some (es ++ ds) ≡ None = h in cc)

pub low-parts : (p : ℕ → Bool) (i : ℕ) (ks : List ℕ) → list_all p ks ≡ true → (list_all p (take i ks) ≡ true) × (list_all p (drop i ks) ≡ true)
low-parts p i ks h =
    let e : (list_all p (take i ks) && list_all p (drop i ks)) ≡ true = sym (list_all-append p (take i ks) (drop i ks)) ∙ ap (list_all p) (take-append-drop i ks) ∙ h in
    (and-first (list_all p (take i ks)) (list_all p (drop i ks)) e, and-second (list_all p (take i ks)) (list_all p (drop i ks)) e)

take-front : (es ds : List ℕ) (i : ℕ) → length es ≡ i → (take i (es ++ ds) ≡ es) × (drop i (es ++ ds) ≡ ds)
take-front [] ds zero h = (refl, refl)
take-front [] ds (suc i) h = absurd (omega (arith, h))
take-front (e ∷ es) ds zero h = absurd (omega (arith, h))
take-front (e ∷ es) ds (suc i) h = let rest = take-front es ds i (omega (arith, h)) in (ap (λ xs. e ∷ xs) rest.0, rest.1)

-- sets with a position in common
both-have : (e d p : ℕ) → bit_at (bit_and e d) p ≡ 1 → (has e p && has d p) ≡ true
both-have e d p h = here (min-one (bit_at e p) (bit_at d p) (sym (bit_at_and e d p) ∙ h))
  where
    min-one : (a b : ℕ) → min a b ≡ 1 → 1 ≤ a × 1 ≤ b
    min-one a b h = (omega (arith, h), omega (arith, h))

    here : (1 ≤ bit_at e p) × (1 ≤ bit_at d p) → (has e p && has d p) ≡ true
    here some =
        let first : bit_at e p ≡ 1 = omega (arith, some.0, bit_at-lt e p) in
        let second : bit_at d p ≡ 1 = omega (arith, some.1, bit_at-lt d p) in
        ap (λ b. b && has d p) (has-bit e p first) ∙ has-bit d p second

pub range-fails : (q : ℕ → Bool) (a m p : ℕ) → a ≤ p → p < a + m → q p ≡ false → list_all q (range_with_len a m) ≡ false
range-fails q a zero p from to h = absurd (omega (arith, from, to))
range-fails q a (suc m) p from to h = elim (cases_eq a p) as (λ _. list_all q (range_with_len a (suc m)) ≡ false) [
  | inl same ↦ ap (λ b. b && list_all q (range_with_len (a + 1) m)) (ap q same ∙ h)
  | inr other ↦ ap (λ b. q a && b) (range-fails q (a + 1) m p (omega (arith, from, other)) (omega (arith, to)) h) ∙ and-false (q a)
]

range-holds : (q : ℕ → Bool) (a m : ℕ) → ((p : ℕ) → q p ≡ true) → list_all q (range_with_len a m) ≡ true
range-holds q a zero each = refl
range-holds q a (suc m) each = ap (λ b. b && list_all q (range_with_len (a + 1) m)) (each a) ∙ range-holds q (a + 1) m each

not-apart : (e d : ℕ) → e < 2 ^ 32 → bit_and e d ≢ 0 → are_apart e d ≡ false
not-apart e d small some =
    let low : bit_and e d < 2 ^ 32 = omega (arith, and_le_l e d, small) in
    let place = bit_at-trailing_zeros w32 (bit_and e d) (omega (arith, some)) low in
    range-fails (λ p. not (has e p && has d p)) 0 32 (trailing_zeros w32 (bit_and e d)) (omega arith) (omega (arith, place.0)) (ap not (both-have e d (trailing_zeros w32 (bit_and e d)) place.1))

apart : (e d : ℕ) → bit_and e d ≡ 0 → are_apart e d ≡ true
apart e d none = range-holds (λ p. not (has e p && has d p)) 0 32 (λ p. by_tests (has e p) (has d p) p refl refl)
  where
    by_tests : (a b : Bool) (p : ℕ) → has e p ≡ a → has d p ≡ b → not (a && b) ≡ true
    by_tests true true p here there =
        let zero_bit : min (bit_at e p) (bit_at d p) ≡ 0 = sym (bit_at_and e d p) ∙ ap (λ s. bit_at s p) none ∙ bit_at-zero p in
        let first : bit_at e p ≡ 1 = bit-has e p here in
        let second : bit_at d p ≡ 1 = bit-has d p there in
        absurd (omega (arith, zero_bit, first, second))
    by_tests true false p here there = refl
    by_tests false b p here there = refl

-- the entries of links that each name one
own-few : (F : Forms Bytes) (ks : List ℕ) → length (flat_map (own F) ks) ≤ length ks
own-few F [] = omega arith
own-few F (k ∷ ks) = omega (arith, length-append (own F k) (flat_map (own F) ks), one (key_at F k), own-few F ks)
  where
    one : (o : Option Bytes) → length (option_to_list (option_map (λ key. entry key k) o)) ≤ 1
    one None = omega arith
    one (Some key) = omega arith

-- a trie row of these sets and links, and what is kept of the rows that it names
pub record IsTrieRow (n : ℕ) (F : Forms Bytes) (code : Bytes → ℕ) (deepest : ℕ) (kept : List KeptRow) (depth e d l : ℕ) (ks : List ℕ) : Type 0 where
  pub are : AreKept n F code deepest kept
  pub low : l < n
  pub is : F l ≡ Some (node (trie depth e d) ks)
  pub below : list_all (λ k. nat_lt k (length kept)) ks ≡ true
  pub small : e < 2 ^ 32

module _ {n : ℕ} {F : Forms Bytes} {code : Bytes → ℕ} {deepest : ℕ} {kept : List KeptRow} {depth e d l : ℕ} {ks : List ℕ} (row : IsTrieRow n F code deepest kept depth e d l ks) where
  abbrev r : ℕ
  r = rank e 32

  own-is : count_ones e ≡ r
  own-is = count-rank e row.small

  abbrev Es : ℕ → List (Entry Bytes)
  Es = entries_below n F

  abbrev verdict : Bool
  verdict = are_branches n F code deepest depth e d ks && agree_above n F code depth l && ((depth == 0) || nat_le 2 (length (Es l)))

  refused : verdict ≡ false → None ≡ canonical_kept n F code deepest l
  unfolding canonical_kept
  refused h = sym (ap (λ b. cond b (Some (kept_of n F code l (F l))) None) (ap (is_canonical n F code deepest l) row.is ∙ h))

  branches-refused : are_branches n F code deepest depth e d ks ≡ false → None ≡ canonical_kept n F code deepest l
  branches-refused h = refused (ap (λ b. b && agree_above n F code depth l && ((depth == 0) || nat_le 2 (length (Es l)))) h)

  entries-refused : pointwise (is_entry_at n F code depth) (positions e) (take r ks) ≡ false → None ≡ canonical_kept n F code deepest l
  unfolding are_branches
  entries-refused h =
      branches-refused (ap (λ b. are_apart e d && b && pointwise (is_node_at n F code deepest depth) (positions d) (drop r ks)) h ∙ both_false (are_apart e d) (pointwise (is_node_at n F code deepest depth) (positions d) (drop r ks)))
    where
      both_false : (a b : Bool) → (a && false && b) ≡ false
      both_false true b = refl
      both_false false b = refl

  nodes-refused : pointwise (is_node_at n F code deepest depth) (positions d) (drop r ks) ≡ false → None ≡ canonical_kept n F code deepest l
  unfolding are_branches
  nodes-refused h =
      branches-refused (ap (λ b. are_apart e d && pointwise (is_entry_at n F code depth) (positions e) (take r ks) && b) h ∙ and-false (are_apart e d && pointwise (is_entry_at n F code depth) (positions e) (take r ks)))

  pub shared-refused : bit_and e d ≢ 0 → None ≡ canonical_kept n F code deepest l
  unfolding are_branches
  shared-refused some =
      branches-refused (ap (λ b. b && pointwise (is_entry_at n F code depth) (positions e) (take r ks) && pointwise (is_node_at n F code deepest depth) (positions d) (drop r ks)) (not-apart e d row.small some))

  pub short-refused : length ks < count_ones e → None ≡ canonical_kept n F code deepest l
  short-refused short = by_test (pointwise (is_entry_at n F code depth) (positions e) (take r ks)) refl
    where
      by_test : (b : Bool) → pointwise (is_entry_at n F code depth) (positions e) (take r ks) ≡ b → None ≡ canonical_kept n F code deepest l
      by_test false h = entries-refused h
      by_test true h =
          let long = pointwise-length (is_entry_at n F code depth) (positions e) (take r ks) h in
          let most : length (take r ks) ≤ length ks = omega (arith, length-take r ks) in
          absurd (omega (arith, positions-length e 0 32, rank-zero e, long, most, short, own-is))

  low-own : list_all (λ k. nat_lt k (length kept)) (take r ks) ≡ true
  low-own = (low-parts (λ k. nat_lt k (length kept)) r ks row.below).0

  low-nodes : list_all (λ k. nat_lt k (length kept)) (drop r ks) ≡ true
  low-nodes = (low-parts (λ k. nat_lt k (length kept)) r ks row.below).1

  pub codes-refused : codes_in n F code deepest depth (count_ones e) ks ≡ None → None ≡ canonical_kept n F code deepest l
  codes-refused none = by_part (lacking (codes_by (code_at n F code deepest Entries depth) (take r ks)) (codes_by (code_at n F code deepest Nodes depth) (drop r ks)) (ap (λ i. codes_in n F code deepest depth i ks) (sym own-is) ∙ none))
    where
      by_part : Lacks (codes_by (code_at n F code deepest Entries depth) (take r ks)) (codes_by (code_at n F code deepest Nodes depth) (drop r ks)) → None ≡ canonical_kept n F code deepest l
      by_part (lacks_first h) =
          entries-refused (tests-fail code depth (is_entry_at n F code depth) (own F) (code_at n F code deepest Entries depth) (length kept) (λ k _. entry-says n F code deepest kept row.are depth k) (take r ks) (positions e) low-own h)
      by_part (lacks_second h) =
          nodes-refused (tests-fail code depth (is_node_at n F code deepest depth) Es (code_at n F code deepest Nodes depth) (length kept) (λ k below. node-says n F code deepest kept row.are depth k below) (drop r ks) (positions d) low-nodes h)

  entries-are : Es l ≡ flat_map (own F) (take r ks) ++ flat_map Es (drop r ks)
  entries-are = entries-is F row.are.falls n l row.low ∙ ap (λ x. flat_map (own F) (own_entries x) ++ flat_map Es (rows_below x)) row.is

  module _ {cs : List ℕ} (codes : codes_in n F code deepest depth (count_ones e) ks ≡ Some cs) (enough : count_ones e ≤ length ks) (disjoint : bit_and e d ≡ 0) where
    parts : (es : List ℕ) × (ds : List ℕ) × (codes_by (code_at n F code deepest Entries depth) (take r ks) ≡ Some es) × (codes_by (code_at n F code deepest Nodes depth) (drop r ks) ≡ Some ds) × (cs ≡ es ++ ds)
    parts = in-parts (codes_by (code_at n F code deepest Entries depth) (take r ks)) (codes_by (code_at n F code deepest Nodes depth) (drop r ks)) cs (ap (λ i. codes_in n F code deepest depth i ks) (sym own-is) ∙ codes)

    own-enough : r ≤ length ks
    own-enough = omega (arith, own-is, enough)

    stands : Stand code depth (Es l) cs
    stands =
        subst (λ xs. Stand code depth (Es l) xs) (sym parts.4) (subst (λ E. Stand code depth E (parts.0 ++ parts.1)) (sym entries-are) (stand-append code depth (flat_map (own F) (take r ks)) (flat_map Es (drop r ks)) parts.0 parts.1
        (stand-all code depth (is_entry_at n F code depth) (own F) (code_at n F code deepest Entries depth) (length kept) (λ k _. entry-says n F code deepest kept row.are depth k) (take r ks) parts.0 low-own parts.2)
        (stand-all code depth (is_node_at n F code deepest depth) Es (code_at n F code deepest Nodes depth) (length kept) (λ k below. node-says n F code deepest kept row.are depth k below) (drop r ks) parts.1 low-nodes parts.3)))

    halves : (take r cs ≡ parts.0) × (drop r cs ≡ parts.1)
    halves =
        let long : length parts.0 ≡ r = codes-length (code_at n F code deepest Entries depth) (take r ks) parts.0 parts.2 ∙ length-take-le r ks own-enough in
        let front = take-front parts.0 parts.1 r long in
        (ap (take r) parts.4 ∙ front.0, ap (drop r) parts.4 ∙ front.1)

    own-tests : pointwise (is_entry_at n F code depth) (positions e) (take r ks) ≡ digits_are depth e (take r cs)
    unfolding digits_are
    own-tests =
        tests-codes code depth (is_entry_at n F code depth) (own F) (code_at n F code deepest Entries depth) (length kept) (λ k _. entry-says n F code deepest kept row.are depth k) (take r ks) parts.0 (positions e) low-own parts.2
        ∙ sym (ap (digits_are depth e) halves.0)

    node-tests : pointwise (is_node_at n F code deepest depth) (positions d) (drop r ks) ≡ digits_are depth d (drop r cs)
    unfolding digits_are
    node-tests =
        tests-codes code depth (is_node_at n F code deepest depth) Es (code_at n F code deepest Nodes depth) (length kept) (λ k below. node-says n F code deepest kept row.are depth k below) (drop r ks) parts.1 (positions d) low-nodes parts.3
        ∙ sym (ap (digits_are depth d) halves.1)

    two-there : nat_le 2 (length (Es l)) ≡ (nat_lt r (length ks) || nat_le 2 r)
    two-there = by_rest (drop r ks) refl low-nodes parts.3
      where
        some-nodes : (k : ℕ) (js : List ℕ) → drop r ks ≡ k ∷ js → k < length kept → is_sub_node deepest depth (F k) ≡ true → nat_le 2 (length (Es l)) ≡ (nat_lt r (length ks) || nat_le 2 r)
        some-nodes k js rest low_k sub =
            let here = sub-as-first n F code deepest kept row.are depth k low_k sub in
            let most : length (Es l) ≡ length (flat_map (own F) (take r ks)) + length (flat_map Es (drop r ks)) = ap length entries-are ∙ length-append (flat_map (own F) (take r ks)) (flat_map Es (drop r ks)) in
            let first : length (flat_map Es (drop r ks)) ≡ length (Es k) + length (flat_map Es js) = ap (λ xs. length (flat_map Es xs)) rest ∙ length-append (Es k) (flat_map Es js) in
            let two : 2 ≤ length (Es l) = omega (arith, most, first, ap length here.is, here.two) in
            let more : r < length ks = omega (arith, ap length rest, length-drop r ks) in
            le-true 2 (length (Es l)) two ∙ sym (ap (λ b. b || nat_le 2 r) (lt-true r (length ks) more))

        is-sub : (b : Bool) (o : Option ℕ) (c : ℕ) → cond b o None ≡ Some c → b ≡ true
        is-sub true o c h = refl
        is-sub false o c h = absurd (let f : None ≡ Some c = h in cc)

        by_rest : (js : List ℕ) → drop r ks ≡ js → list_all (λ k. nat_lt k (length kept)) js ≡ true → codes_by (code_at n F code deepest Nodes depth) js ≡ Some parts.1 → nat_le 2 (length (Es l)) ≡ (nat_lt r (length ks) || nat_le 2 r)
        by_rest [] rest low_rest h =
            let none : length ks ≡ r = omega (arith, ap length rest, length-drop r ks, own-enough) in
            let all : length (Es l) ≡ length (flat_map (own F) (take r ks)) = ap length (entries-are ∙ ap (λ xs. flat_map (own F) (take r ks) ++ flat_map Es xs) rest ∙ append-nil (flat_map (own F) (take r ks))) in
            let least : length cs ≤ length (Es l) = stands.long in
            let codes_long : length cs ≡ length parts.0 + length parts.1 = ap length parts.4 ∙ length-append parts.0 parts.1 in
            let own_long : length parts.0 ≡ r = codes-length (code_at n F code deepest Entries depth) (take r ks) parts.0 parts.2 ∙ length-take-le r ks own-enough in
            let few : length (flat_map (own F) (take r ks)) ≤ r = omega (arith, own-few F (take r ks), length-take-le r ks own-enough) in
            let same : length (Es l) ≡ r = omega (arith, all, least, codes_long, own_long, few) in
            ap (nat_le 2) same ∙ sym (ap (λ b. b || nat_le 2 r) (lt-false r (length ks) (omega (arith, none))))
        by_rest (k ∷ js) rest low_rest h =
            let first = cons-some (code_at n F code deepest Nodes depth k) (codes_by (code_at n F code deepest Nodes depth) js) parts.1 h in
            some-nodes k js rest (ltb-true k (length kept) (and-first (nat_lt k (length kept)) (list_all (λ j. nat_lt j (length kept)) js) low_rest)) (is-sub (is_sub_node deepest depth (F k)) (slice_get (codes_below n F code k) 0) first.0 first.2)

    verdict-is : verdict ≡ (codes_stand depth e d cs && ((depth == 0) || (nat_lt r (length ks) || nat_le 2 r)))
    unfolding codes_stand are_branches
    verdict-is =
        let two : Bool = (depth == 0) || nat_le 2 (length (Es l)) in
        ap (λ b. (b && pointwise (is_entry_at n F code depth) (positions e) (take r ks) && pointwise (is_node_at n F code deepest depth) (positions d) (drop r ks)) && agree_above n F code depth l && two) (apart e d disjoint)
        ∙ ap (λ b. (b && pointwise (is_node_at n F code deepest depth) (positions d) (drop r ks)) && agree_above n F code depth l && two) own-tests
        ∙ ap (λ b. (digits_are depth e (take r cs) && b) && agree_above n F code depth l && two) node-tests
        ∙ ap (λ b. (digits_are depth e (take r cs) && digits_are depth d (drop r cs)) && b && two) (stand-agree code depth (Es l) cs stands)
        ∙ ap (λ b. (digits_are depth e (take r cs) && digits_are depth d (drop r cs)) && all_same (map (λ c. c % 2 ^ (5 * depth)) cs) && ((depth == 0) || b)) two-there

    pub stand-refused : codes_stand depth e d cs ≡ false → None ≡ canonical_kept n F code deepest l
    stand-refused h = refused (verdict-is ∙ ap (λ b. b && ((depth == 0) || (nat_lt r (length ks) || nat_le 2 r))) h)

    -- the test of how many entries there are, as it is made
    enough-is : (b : Bool) → ((depth == 0) || (nat_lt (count_ones e) (length ks) || nat_le 2 (count_ones e))) ≡ b → ((depth == 0) || (nat_lt r (length ks) || nat_le 2 r)) ≡ b
    enough-is b h = ap (λ i. (depth == 0) || (nat_lt i (length ks) || nat_le 2 i)) (sym own-is) ∙ h

    pub few-refused : ((depth == 0) || (nat_lt (count_ones e) (length ks) || nat_le 2 (count_ones e))) ≡ false → None ≡ canonical_kept n F code deepest l
    few-refused h = refused (verdict-is ∙ ap (λ b. codes_stand depth e d cs && b) (enough-is false h) ∙ and-false (codes_stand depth e d cs))

    pub row-kept : codes_stand depth e d cs ≡ true → ((depth == 0) || (nat_lt (count_ones e) (length ks) || nat_le 2 (count_ones e))) ≡ true → Some (kept_node depth cs) ≡ canonical_kept n F code deepest l
    unfolding canonical_kept
    row-kept stand two =
        let yes : verdict ≡ true = verdict-is ∙ ap (λ b. b && ((depth == 0) || (nat_lt r (length ks) || nat_le 2 r))) stand ∙ enough-is true two in
        ap Some (same (codes_below n F code l) cs stands.head ∙ sym (ap (kept_of n F code l) row.is)) ∙ sym (ap (λ b. cond b (Some (kept_of n F code l (F l))) None) (ap (is_canonical n F code deepest l) row.is ∙ yes))
      where
        same : (bs cs : List ℕ) → slice_get bs 0 ≡ slice_get cs 0 → kept_node depth cs ≡ kept_node depth bs
        same [] [] h = refl
        same [] (c ∷ cs) h = absurd (let f : None ≡ Some c = h in cc)
        same (b ∷ bs) [] h = absurd (let f : Some b ≡ None = h in cc)
        same (b ∷ bs) (c ∷ cs) h = let f : Some b ≡ Some c = h in let g : b ≡ c = cc in ap (Node depth) (sym g)
