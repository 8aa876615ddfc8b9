-- In a pool that passes the tests a trie row of depth 0 is the canonical trie of the entries below it.
use Rattle.std.proofs.Common.{◌≡◌, ℕ, zero, suc, ◌+◌, ◌<◌, ◌≤◌, ◌^◌, Bool, true, false, ◌&&◌, ◌||◌, not, cond, List, [], ◌∷◌, ◌++◌, length, take, drop, map, refl, ap, sym, subst, ◌∙◌, arith, inl, inr, length-append}
use Rattle.std.specs.Prelude.{Option, Some, None, nat_eq, nat_lt, nat_le, ◌==◌, slice_index, option_map, option_to_list, count_by}
use Rattle.std.specs.List.{filter, flat_map, list_all, range_with_len, All}
use Rattle.std.specs.Ordering.{is_eq}
use Rattle.std.specs.declared.cmp.Ordering.{Ordering}
use Rattle.std.specs.declared.cmp.Ordering.TheVariants.{Less, Equal, Greater}
use Rattle.std.proofs.Math.Nat.{mod-lt}
use Rattle.std.proofs.lemmas.Bool.{cases_eq, cases_Bool, ne_eqb, eq-eqb, ltb-true, leb-true}
use Rattle.std.proofs.lemmas.List.{append-nil, get_or-take, get_or-drop}
use Rattle.std.proofs.lemmas.List.Elements.{filter-append}
use lib.Pointwise.{pointwise}
use Rattle.elem_core.specs.Codes.{digit_at}
use Rattle.node_heap.specs.Links.{LeadsDown}
use Rattle.node_heap.specs.Forms.{Form, Forms, node, trie, chain, links_of, links_in}
use Rattle.champ_chain.specs.Entry.{Entry, entry, key_at}
use Rattle.champ_trie.specs.Bits.{has, rank}
use Rattle.champ_trie.specs.Walk.{own_entries, rows_below}
use Rattle.pool_text.specs.Rows.{Bytes}
use Rattle.std.specs.FinMap.{nat_cmp-IsAntisymmetric, slice_cmp-IsAntisymmetric}
use Rattle.std.proofs.lemmas.Cmp.{nat_list_cmp_total}
use Rattle.std.proofs.lemmas.List.{take-append-drop}
use Rattle.champ_chain.specs.Entry.{has_key, SameSet}
use Rattle.champ_chain.specs.Chain.{AreChainRows, IsRising, IsChain}
use Rattle.champ_chain.proofs.SetLemmas.{same-refl, same-count, count-cons}
use Rattle.champ_chain.proofs.RisingLemmas.{above-less, rising-distinct}
use Rattle.champ_trie.specs.Trie.{AreSets, place_of, IsPlace, part, IsTrie, IsCanonTo}
use Rattle.champ_trie.proofs.BitLemmas.{rank-lt}
use Rattle.champ_trie.proofs.PlaceLemmas.{place-entry, place-node, place-empty}
use Rattle.pool_text.specs.Rows.{is_in_range_to}
use Rattle.pool_check.specs.Tries.{entry_at, entries_below, entry_passes, first_key, positions, are_apart, is_before, is_sub_node, is_chain_row, has_digit, is_entry_at, is_node_at, agree_above, are_branches, are_chained, all_same, is_canonical}
use Rattle.pool_check.proofs.EntriesBelow.{own, own-is, rows-low, entries-is}
use Rattle.pool_check.proofs.GroupLemmas.{positions-length, pointwise-length, AtLink, found}
use Rattle.pool_check.proofs.TestLemmas.{and-first, and-second, not-both}
use Rattle.pool_check.proofs.TrieTests.{by_bytes, before-is, some-is, chain-row-is, sub-node-is}

module _ (F : Forms Bytes) (falls : LeadsDown (λ l. l) (links_in F)) (n : ℕ) (code : Bytes → ℕ) (deepest : ℕ) (canonical : (l : ℕ) → is_canonical n F code deepest l (F l) ≡ true) where
  -- the chain from a row on
  record ChainAt (l : ℕ) : Type 0 where
    pub first : Entry Bytes
    pub rest : List (Entry Bytes)
    pub is : entries_below n F l ≡ first ∷ rest
    pub rows : AreChainRows F (Some l) (first ∷ rest)
    pub rising : IsRising by_bytes (first ∷ rest)
    pub key : first_key F (links_in F l) ≡ Some first.key

  chain-at : (m l : ℕ) → l < m → l < n → (ks : List ℕ) → F l ≡ Some (node chain ks) → ChainAt l
  unfolding AreChainRows
  chain-at zero l fuel low ks is = absurd (omega (arith, fuel))
  chain-at (suc m) l fuel low ks is = by_links ks is (ap (λ r. is_canonical n F code deepest l r) (sym is) ∙ canonical l) (chain-at m)
    where
      by_links : (ks : List ℕ) → F l ≡ Some (node chain ks) → are_chained n F code l ks ≡ true → ((l : ℕ) → l < m → l < n → (ks : List ℕ) → F l ≡ Some (node chain ks) → ChainAt l) → ChainAt l
      by_links [] is h deeper = absurd (not-both h)
      by_links (k ∷ []) is h deeper =
          let key = some-is (key_at F k) h in
          record {
            first = entry key.0 k;
            rest = [];
            is = entries-is F falls n l low ∙ ap (λ r. flat_map (own F) (own_entries r) ++ flat_map (entries_below n F) (rows_below r)) is ∙ ap (λ es. (es ++ []) ++ []) (own-is F k key.0 key.1);
            rows = record { link = l; next = None; here = refl; row = is; key = key.1; rest = refl };
            rising = (tt, tt);
            key = ap (λ r. first_key F (links_of r)) is ∙ key.1;
          }
      by_links (k ∷ j ∷ []) is h deeper =
          let a : Bool = is_chain_row (F j) in
          let b : Bool = is_before (key_at F k) (first_key F (links_in F j)) in
          let c : Bool = all_same (map (λ e. code e.key) (entries_below n F l)) in
          let ab : (a && b) ≡ true = and-first (a && b) c h in
          let row = chain-row-is (F j) (and-first a b ab) in
          let below : j < l = subst (λ xs. All (λ i. i < l) xs) (ap rows_below is) (rows-low F falls l) 0 0 (omega arith) in
          let next : ChainAt j = deeper j (omega (arith, below, fuel)) (omega (arith, below, low)) row.0 row.1 in
          let key = before-is (key_at F k) next.first.key (ap (is_before (key_at F k)) (sym next.key) ∙ and-second a b ab) in
          record {
            first = entry key.0 k;
            rest = next.first ∷ next.rest;
            is = entries-is F falls n l low ∙ ap (λ r. flat_map (own F) (own_entries r) ++ flat_map (entries_below n F) (rows_below r)) is
                ∙ ap (λ es. (es ++ []) ++ (entries_below n F j ++ [])) (own-is F k key.0 key.1) ∙ ap (λ es. entry key.0 k ∷ es) (append-nil (entries_below n F j) ∙ next.is);
            rows = record { link = l; next = Some j; here = refl; row = is; key = key.1; rest = next.rows };
            rising = ((key.2, above-less by_bytes nat_list_cmp_total key.0 next.first.key key.2 next.rest next.rising.0), next.rising);
            key = ap (λ r. first_key F (links_of r)) is ∙ key.1;
          }
      by_links (k ∷ j ∷ i ∷ ks) is h deeper = absurd (not-both h)

  -- a chain row of two links is the chain of the entries below it
  chain-two : (l : ℕ) → l < n → (ks : List ℕ) → F l ≡ Some (node chain ks) → length ks ≡ 2 → (2 ≤ length (entries_below n F l)) × IsChain by_bytes F l (entries_below n F l)
  chain-two l low [] is two = absurd (omega (arith, two))
  chain-two l low (k ∷ []) is two = absurd (omega (arith, two))
  chain-two l low (k ∷ j ∷ i ∷ ks) is two = absurd (omega (arith, two))
  chain-two l low (k ∷ j ∷ []) is two =
      let at : ChainAt l = chain-at (suc l) l (omega arith) low (k ∷ j ∷ []) is in
      let below : j < l = subst (λ xs. All (λ i. i < l) xs) (ap rows_below is) (rows-low F falls l) 0 0 (omega arith) in
      let row = chain-row-is (F j) (and-first (is_chain_row (F j)) (is_before (key_at F k) (first_key F (links_in F j)))
      (and-first (is_chain_row (F j) && is_before (key_at F k) (first_key F (links_in F j))) (all_same (map (λ e. code e.key) (entries_below n F l))) (ap (λ r. is_canonical n F code deepest l r) (sym is) ∙ canonical l))) in
      let next : ChainAt j = chain-at (suc j) j (omega arith) (omega (arith, below, low)) row.0 row.1 in
      let split : entries_below n F l ≡ (own F k ++ []) ++ (entries_below n F j ++ []) =
      entries-is F falls n l low ∙ ap (λ r. flat_map (own F) (own_entries r) ++ flat_map (entries_below n F) (rows_below r)) is in
      let lower : length (entries_below n F j) ≡ suc (length next.rest) = ap length next.is in
      let upper : length (entries_below n F l) ≡ length (own F k ++ []) + length (entries_below n F j ++ []) = ap length split ∙ length-append (own F k ++ []) (entries_below n F j ++ []) in
      let keyed : (key : Bytes) × (key_at F k ≡ Some key) = let key = before-is (key_at F k) next.first.key (ap (is_before (key_at F k)) (sym next.key) ∙ and-second (is_chain_row (F j)) (is_before (key_at F k) (first_key F (links_in F j)))
      (and-first (is_chain_row (F j) && is_before (key_at F k) (first_key F (links_in F j))) (all_same (map (λ e. code e.key) (entries_below n F l))) (ap (λ r. is_canonical n F code deepest l r) (sym is) ∙ canonical l))) in (key.0, key.1) in
      let one : length (own F k ++ []) ≡ 1 = ap (λ es. length (es ++ [])) (own-is F k keyed.0 keyed.1) in
      let rest : length (entries_below n F j ++ []) ≡ length (entries_below n F j) = ap length (append-nil (entries_below n F j)) in
      let two_entries : 2 ≤ length (entries_below n F l) = omega (arith, upper, one, rest, lower) in (
        two_entries,
        record {
          entries = at.first ∷ at.rest;
          rows = at.rows;
          rising = at.rising;
          same = subst (λ es. SameSet (at.first ∷ at.rest) es) (sym at.is) (same-refl (at.first ∷ at.rest));
          two = two_entries;
        },
      )

pub range-all : (q : ℕ → Bool) (a m p : ℕ) → list_all q (range_with_len a m) ≡ true → a ≤ p → p < a + m → q p ≡ true
range-all q a zero p h from to = absurd (omega (arith, from, to))
range-all q a (suc m) p h from to = elim (cases_eq a p) as (λ _. q p ≡ true) [
  | inl same ↦ ap q (sym same) ∙ and-first (q a) (list_all q (range_with_len (a + 1) m)) h
  | inr other ↦ range-all q (a + 1) m p (and-second (q a) (list_all q (range_with_len (a + 1) m)) h) (omega (arith, from, other)) (omega (arith, to))
]

apart-is : (e d : Bool) → not (e && d) ≡ true → e ≡ true → d ≡ false
apart-is true true h there = absurd (not-both h)
apart-is true false h there = refl
apart-is false d h there = absurd (not-both there)

entry-passed : (F : Forms Bytes) (test : Entry Bytes → Bool) (l : ℕ) → entry_passes test (entry_at F l) ≡ true → (key : Bytes) × (key_at F l ≡ Some key) × (list_all test (option_to_list (entry_at F l)) ≡ true)
entry-passed F test l h = by_key (key_at F l) refl h
  where
    by_key : (o : Option Bytes) → key_at F l ≡ o → entry_passes test (option_map (λ key. entry key l) o) ≡ true → (key : Bytes) × (key_at F l ≡ Some key) × (list_all test (option_to_list (option_map (λ key. entry key l) (key_at F l))) ≡ true)
    by_key None is h = absurd (not-both h)
    by_key (Some key) is h = (key, is, ap (λ o. list_all test (option_to_list (option_map (λ key. entry key l) o))) is ∙ ap (λ b. b && true) h)

module _ (F : Forms Bytes) (falls : LeadsDown (λ l. l) (links_in F)) (n : ℕ) (code : Bytes → ℕ) (deepest : ℕ) (canonical : (l : ℕ) → is_canonical n F code deepest l (F l) ≡ true)
    (ranged : (l : ℕ) (r : Form Bytes) → F l ≡ Some r → is_in_range_to deepest r ≡ true) where
  abbrev Es : ℕ → List (Entry Bytes)
  Es = entries_below n F

  abbrev digit : ℕ → Entry Bytes → ℕ
  digit depth e = digit_at (code e.key) depth

  -- what the test of a trie row says
  record Row (depth e d l : ℕ) (ks : List ℕ) : Type 0 where
    pub row : F l ≡ Some (node (trie depth e d) ks)
    pub low : depth ≤ deepest
    pub few_entries : e < 2 ^ 32
    pub few_nodes : d < 2 ^ 32
    pub apart : (p : ℕ) → p < 32 → has e p ≡ true → has d p ≡ false
    pub entries : pointwise (is_entry_at n F code depth) (positions e) (take (rank e 32) ks) ≡ true
    pub nodes : pointwise (is_node_at n F code deepest depth) (positions d) (drop (rank e 32) ks) ≡ true
    pub two : ((depth == 0) || nat_le 2 (length (Es l))) ≡ true

  row-is : (depth e d l : ℕ) (ks : List ℕ) → F l ≡ Some (node (trie depth e d) ks) → Row depth e d l ks
  unfolding are_branches
  row-is depth e d l ks is =
      let h : is_canonical n F code deepest l (Some (node (trie depth e d) ks)) ≡ true = ap (λ r. is_canonical n F code deepest l r) (sym is) ∙ canonical l in
      let ab : (are_branches n F code deepest depth e d ks && agree_above n F code depth l) ≡ true = and-first (are_branches n F code deepest depth e d ks && agree_above n F code depth l) ((depth == 0) || nat_le 2 (length (Es l))) h in
      let branches : are_branches n F code deepest depth e d ks ≡ true = and-first (are_branches n F code deepest depth e d ks) (agree_above n F code depth l) ab in
      let x : Bool = are_apart e d in
      let y : Bool = pointwise (is_entry_at n F code depth) (positions e) (take (rank e 32) ks) in
      let z : Bool = pointwise (is_node_at n F code deepest depth) (positions d) (drop (rank e 32) ks) in
      let xy : (x && y) ≡ true = and-first (x && y) z branches in
      let r : is_in_range_to {K = Bytes} deepest (node (trie depth e d) ks) ≡ true = ranged l (node (trie depth e d) ks) is in
      let r3 = and-first (nat_le depth deepest && nat_lt e (2 ^ 32) && nat_lt d (2 ^ 32)) (nat_le (length ks) 32) r in
      let r2 = and-first (nat_le depth deepest && nat_lt e (2 ^ 32)) (nat_lt d (2 ^ 32)) r3 in
      record {
        row = is;
        low = leb-true depth deepest (and-first (nat_le depth deepest) (nat_lt e (2 ^ 32)) r2);
        few_entries = ltb-true e (2 ^ 32) (and-second (nat_le depth deepest) (nat_lt e (2 ^ 32)) r2);
        few_nodes = ltb-true d (2 ^ 32) (and-second (nat_le depth deepest && nat_lt e (2 ^ 32)) (nat_lt d (2 ^ 32)) r3);
        apart = λ p small there. apart-is (has e p) (has d p) (range-all (λ q. not (has e q && has d q)) 0 32 p (and-first x y xy) (omega arith) (omega (arith, small))) there;
        entries = and-second x y xy;
        nodes = and-second (x && y) z branches;
        two = and-second (are_branches n F code deepest depth e d ks && agree_above n F code depth l) ((depth == 0) || nat_le 2 (length (Es l))) h;
      }

  rank-zero : (s : ℕ) → rank s 0 ≡ 0
  unfolding rank
  rank-zero s = refl

  entries-long : (depth e d l : ℕ) (ks : List ℕ) → Row depth e d l ks → rank e 32 ≡ length (take (rank e 32) ks)
  entries-long depth e d l ks row = omega (arith, positions-length e 0 32, rank-zero e, pointwise-length (is_entry_at n F code depth) (positions e) (take (rank e 32) ks) row.entries)

  nodes-long : (depth e d l : ℕ) (ks : List ℕ) → Row depth e d l ks → rank d 32 ≡ length (drop (rank e 32) ks)
  nodes-long depth e d l ks row = omega (arith, positions-length d 0 32, rank-zero d, pointwise-length (is_node_at n F code deepest depth) (positions d) (drop (rank e 32) ks) row.nodes)

  sets-are : (depth e d l : ℕ) (ks : List ℕ) → Row depth e d l ks → AreSets e d ks
  sets-are depth e d l ks row = record {
    entries_small = row.few_entries;
    nodes_small = row.few_nodes;
    apart = row.apart;
    count = ap length (sym (take-append-drop (rank e 32) ks)) ∙ length-append (take (rank e 32) ks) (drop (rank e 32) ks) ∙ omega (arith, entries-long depth e d l ks row, nodes-long depth e d l ks row);
  }

  -- the entries with a digit: those of the entry there, and those below the node there
  part-is : (depth e d l : ℕ) (ks : List ℕ) → Row depth e d l ks → l < n → (p : ℕ)
      → part by_bytes code depth p (Es l) ≡ filter (λ x. nat_eq (digit depth x) p) (flat_map (own F) (take (rank e 32) ks)) ++ filter (λ x. nat_eq (digit depth x) p) (flat_map Es (drop (rank e 32) ks))
  part-is depth e d l ks row low p =
      ap (λ es. filter (λ x. nat_eq (digit depth x) p) es) (entries-is F falls n l low ∙ ap (λ r. flat_map (own F) (own_entries r) ++ flat_map Es (rows_below r)) row.row)
      ∙ filter-append (λ x. nat_eq (digit depth x) p) (flat_map (own F) (take (rank e 32) ks)) (flat_map Es (drop (rank e 32) ks))

  entry-says : (depth q k : ℕ) → is_entry_at n F code depth q k ≡ true → list_all (λ x. nat_eq (digit depth x) q) (own F k) ≡ true
  entry-says depth q k h = (entry-passed F (has_digit n F code depth q) k h).2

  node-says : (depth q k : ℕ) → is_node_at n F code deepest depth q k ≡ true → list_all (λ x. nat_eq (digit depth x) q) (Es k) ≡ true
  node-says depth q k h = and-second (is_sub_node deepest depth (F k)) (list_all (has_digit n F code depth q) (Es k)) h

  -- what stands for these entries below a row of a depth
  abbrev IsNode : ℕ → ℕ → ℕ → List (Entry Bytes) → Type 0
  IsNode left depth k P = IsTrie by_bytes code F left (suc depth) k P

  or-second : (a b : Bool) → a ≡ false → (a || b) ≡ true → b ≡ true
  or-second true b not_a h = absurd (not-both (sym not_a))
  or-second false b not_a h = h

  node-stands : (left depth k : ℕ) → depth + suc left ≡ deepest + 1 → k < n → ((e d : ℕ) (ks : List ℕ) → F k ≡ Some (node (trie (suc depth) e d) ks) → IsNode left depth k (Es k)) → is_sub_node deepest depth (F k) ≡ true → (2 ≤ length (Es k)) × IsNode left depth k (Es k)
  unfolding IsTrie
  node-stands left depth k levels low each h = elim (sub-node-is deepest depth (F k) h) as (λ _. (2 ≤ length (Es k)) × IsNode left depth k (Es k)) [
    | inl deeper ↦
        let one : depth + 1 ≡ suc depth = omega arith in
        let is : F k ≡ Some (node (trie (suc depth) deeper.0 deeper.1) deeper.2) = deeper.3 ∙ ap (λ x. Some (node (trie x deeper.0 deeper.1) deeper.2)) one in
        let two = (row-is (suc depth) deeper.0 deeper.1 k deeper.2 is).two in
        (leb-true 2 (length (Es k)) (or-second (suc depth == 0) (nat_le 2 (length (Es k))) (ne_eqb (suc depth) 0 (λ e. absurd (omega (arith, e)))) two), each deeper.0 deeper.1 deeper.2 is)
    | inr last ↦
        let none : left ≡ 0 = omega (arith, levels, last.3) in
        let chained = chain-two F falls n code deepest canonical k low last.0 last.1 last.2 in
        (chained.0, subst (λ m. IsNode m depth k (Es k)) (sym none) chained.1)
  ]

  places-are : (left depth e d l : ℕ) (ks : List ℕ) → depth + suc left ≡ deepest + 1 → l < n → Row depth e d l ks
      → ((k : ℕ) → k < n → (e d : ℕ) (ks : List ℕ) → F k ≡ Some (node (trie (suc depth) e d) ks) → IsNode left depth k (Es k))
      → (p : ℕ) → p < 32 → IsPlace F (IsNode left depth) (place_of e d ks p) (part by_bytes code depth p (Es l))
  places-are left depth e d l ks levels low row each p small = elim (cases_Bool (has e p)) as (λ _. IsPlace F (IsNode left depth) (place_of e d ks p) E) [
    | inl there ↦
        let found_entry = entries.here there in
        let key = entry-passed F (has_digit n F code depth p) (slice_index (take r ks) (rank e p)) found_entry.1 in
        let same : slice_index (take r ks) (rank e p) ≡ slice_index ks (rank e p) = get_or-take r ks (rank e p) 0 (rank-lt e p 32 small there) in
        let stands : StandsFor (slice_index (take r ks) (rank e p)) = (
          key.0,
          part-is depth e d l ks row low p ∙ ap (λ es. es ++ filter (λ x. nat_eq (digit depth x) p) (flat_map Es (drop r ks))) found_entry.0
              ∙ ap (λ es. own F (slice_index (take r ks) (rank e p)) ++ es) (nodes.gone (row.apart p small there)) ∙ append-nil (own F (slice_index (take r ks) (rank e p)))
              ∙ ap (λ o. option_to_list (option_map (λ x. entry x (slice_index (take r ks) (rank e p))) o)) key.1,
          key.1,
        ) in
        subst (λ place. IsPlace F (IsNode left depth) place E) (sym (place-entry e d ks p there)) (subst StandsFor same stands)
    | inr absent ↦ elim (cases_Bool (has d p)) as (λ _. IsPlace F (IsNode left depth) (place_of e d ks p) E) [
      | inl there ↦
          let found_node = nodes.here there in
          let k : ℕ = slice_index (drop r ks) (rank d p) in
          let index : rank d p < length (drop r ks) = omega (arith, rank-lt d p 32 small there, nodes-long depth e d l ks row) in
          let below : k < l = subst (λ xs. All (λ j. j < l) xs) (ap rows_below row.row) (rows-low F falls l) (rank d p) 0 index in
          let same : k ≡ slice_index ks (r + rank d p) = get_or-drop r ks (rank d p) 0 in
          let node_is = node-stands left depth k levels (omega (arith, below, low)) (each k (omega (arith, below, low))) (and-first (is_sub_node deepest depth (F k)) (list_all (has_digit n F code depth p) (Es k)) found_node.1) in
          let is_part : E ≡ Es k = part-is depth e d l ks row low p ∙ ap (λ es. es ++ filter (λ x. nat_eq (digit depth x) p) (flat_map Es (drop r ks))) (entries.gone absent) ∙ found_node.0 in
          let stands : NodeFor k = subst (λ es. (2 ≤ length es) × IsNode left depth k es) (sym is_part) node_is in
          subst (λ place. IsPlace F (IsNode left depth) place E) (sym (place-node e d ks p absent there)) (subst NodeFor same stands)
      | inr none ↦
          let empty : E ≡ [] = part-is depth e d l ks row low p ∙ ap (λ es. es ++ filter (λ x. nat_eq (digit depth x) p) (flat_map Es (drop r ks))) (entries.gone absent) ∙ nodes.gone none in
          subst (λ place. IsPlace F (IsNode left depth) place E) (sym (place-empty e d ks p absent none)) empty
    ]
  ]
    where
      r : ℕ
      r = rank e 32

      E : List (Entry Bytes)
      E = part by_bytes code depth p (Es l)

      StandsFor : ℕ → Type 0
      StandsFor x = (key : Bytes) × (E ≡ entry key x ∷ []) × (key_at F x ≡ Some key)

      NodeFor : ℕ → Type 0
      NodeFor k = (2 ≤ length E) × IsNode left depth k E

      entries : AtLink (digit depth) (own F) (is_entry_at n F code depth) (entry-says depth) e p (take r ks) (rank e p)
      entries = found (digit depth) (own F) (is_entry_at n F code depth) (entry-says depth) e 0 32 (take r ks) p (rank e p) row.entries (omega arith) (omega (arith, small)) (omega (arith, rank-zero e))

      nodes : AtLink (digit depth) Es (is_node_at n F code deepest depth) (node-says depth) d p (drop r ks) (rank d p)
      nodes = found (digit depth) Es (is_node_at n F code deepest depth) (node-says depth) d 0 32 (drop r ks) p (rank d p) row.nodes (omega arith) (omega (arith, small)) (omega (arith, rank-zero d))

  pub trie-at : (left depth e d l : ℕ) (ks : List ℕ) → depth + left ≡ deepest + 1 → l < n → F l ≡ Some (node (trie depth e d) ks) → IsTrie by_bytes code F left depth l (Es l)
  unfolding IsTrie
  trie-at zero depth e d l ks levels low is = absurd (omega (arith, levels, (row-is depth e d l ks is).low))
  trie-at (suc left) depth e d l ks levels low is = record {
    entries = e;
    nodes = d;
    links = ks;
    row = record { row = is; sets = sets-are depth e d l ks (row-is depth e d l ks is) };
    places = places-are left depth e d l ks levels low (row-is depth e d l ks is) (λ k low' e' d' ks' is'. trie-at left (suc depth) e' d' k ks' (omega (arith, levels)) low' is');
  }

equal-is : (r : Ordering) → is_eq r ≡ true → r ≡ Equal
equal-is Less h = absurd (not-both h)
equal-is Equal h = refl
equal-is Greater h = absurd (not-both h)

key-is : (key : Bytes) (e : Entry Bytes) → has_key by_bytes key e ≡ true → key ≡ e.key
key-is key e h = slice_cmp-IsAntisymmetric nat_cmp-IsAntisymmetric key e.key (equal-is (by_bytes key e.key) h)

module _ (F : Forms Bytes) (code : Bytes → ℕ) where
  -- all entries with a key have its digit
  count-part : (key : Bytes) (depth : ℕ) (E : List (Entry Bytes)) → count_by (has_key by_bytes key) E ≡ count_by (has_key by_bytes key) (part by_bytes code depth (digit_at (code key) depth) E)
  count-part key depth [] = refl
  count-part key depth (e ∷ E) = by_digit (nat_eq (digit_at (code e.key) depth) (digit_at (code key) depth)) refl (count-part key depth E)
    where
      p : ℕ
      p = digit_at (code key) depth

      by_digit : (b : Bool) → nat_eq (digit_at (code e.key) depth) p ≡ b → count_by (has_key by_bytes key) E ≡ count_by (has_key by_bytes key) (part by_bytes code depth p E)
          → count_by (has_key by_bytes key) (e ∷ E) ≡ count_by (has_key by_bytes key) (cond b (e ∷ part by_bytes code depth p E) (part by_bytes code depth p E))
      by_digit true h rest = omega (arith, rest, count-cons (has_key by_bytes key) e E, count-cons (has_key by_bytes key) e (part by_bytes code depth p E))
      by_digit false h rest = elim (cases_Bool (has_key by_bytes key e)) as (λ _. count_by (has_key by_bytes key) (e ∷ E) ≡ count_by (has_key by_bytes key) (part by_bytes code depth p E)) [
        | inl same ↦ absurd (not-both (sym h ∙ eq-eqb (digit_at (code e.key) depth) p (ap (λ k. digit_at (code k) depth) (sym (key-is key e same)))))
        | inr other ↦ let one_if : Bool → ℕ = λ b. cond b 1 0 in let none : one_if (has_key by_bytes key e) ≡ 0 = ap one_if other in omega (arith, rest, count-cons (has_key by_bytes key) e E, none)
      ]

  trie-once : (left depth l : ℕ) (E : List (Entry Bytes)) → IsTrie by_bytes code F left depth l E → (key : Bytes) → count_by (has_key by_bytes key) E ≤ 1
  unfolding IsTrie
  trie-once zero depth l E chained key =
      let same = same-count (has_key by_bytes key) chained.entries E chained.same in
      let once = (rising-distinct by_bytes nat_list_cmp_total chained.entries chained.rising).once key in
      omega (arith, same, once)
  trie-once (suc left) depth l E row key = by_place (trie-once left)
    where
      p : ℕ
      p = digit_at (code key) depth

      P : List (Entry Bytes)
      P = part by_bytes code depth p E

      by_place : ((depth l : ℕ) (E : List (Entry Bytes)) → IsTrie by_bytes code F left depth l E → (key : Bytes) → count_by (has_key by_bytes key) E ≤ 1) → count_by (has_key by_bytes key) E ≤ 1
      by_place below =
          let here = row.places p (mod-lt _ (omega arith)) in
          let split = count-part key depth E in
          elim (cases_Bool (has row.entries p)) as (λ _. count_by (has_key by_bytes key) E ≤ 1) [
            | inl there ↦
                let one = subst (λ place. IsPlace F (λ k Q. IsTrie by_bytes code F left (suc depth) k Q) place P) (place-entry row.entries row.nodes row.links p there) here in
                let few : count_by (has_key by_bytes key) (entry one.0 (slice_index row.links (rank row.entries p)) ∷ []) ≤ 1 = count-one (has_key by_bytes key) (entry one.0 (slice_index row.links (rank row.entries p))) in
                omega (arith, split, ap (count_by (has_key by_bytes key)) one.1, few)
            | inr absent ↦ elim (cases_Bool (has row.nodes p)) as (λ _. count_by (has_key by_bytes key) E ≤ 1) [
              | inl there ↦
                  let node_is = subst (λ place. IsPlace F (λ k Q. IsTrie by_bytes code F left (suc depth) k Q) place P) (place-node row.entries row.nodes row.links p absent there) here in
                  omega (arith, split, below (suc depth) _ P node_is.1 key)
              | inr none ↦
                  let empty : P ≡ [] = subst (λ place. IsPlace F (λ k Q. IsTrie by_bytes code F left (suc depth) k Q) place P) (place-empty row.entries row.nodes row.links p absent none) here in
                  omega (arith, split, ap (count_by (has_key by_bytes key)) empty)
            ]
          ]
        where
          count-one : {X : Type 0} (q : X → Bool) (x : X) → count_by q (x ∷ []) ≤ 1
          count-one q x = elim (cases_Bool (q x)) as (λ _. count_by q (x ∷ []) ≤ 1) [
            | inl there ↦ let one_if : Bool → ℕ = λ b. cond b 1 0 in let n : one_if (q x) ≡ 1 = ap one_if there in omega (arith, n, count-cons q x [])
            | inr none ↦ let one_if : Bool → ℕ = λ b. cond b 1 0 in let n : one_if (q x) ≡ 0 = ap one_if none in omega (arith, n, count-cons q x [])
          ]

-- a trie row of depth 0 is the canonical trie of the entries below it
pub canon-at : (F : Forms Bytes) (falls : LeadsDown (λ l. l) (links_in F)) (n : ℕ) (code : Bytes → ℕ) (deepest : ℕ) → ((l : ℕ) → is_canonical n F code deepest l (F l) ≡ true)
    → ((l : ℕ) (r : Form Bytes) → F l ≡ Some r → is_in_range_to deepest r ≡ true) → (l e d : ℕ) (ks : List ℕ) → l < n → F l ≡ Some (node (trie 0 e d) ks) → IsCanonTo by_bytes code deepest F l (entries_below n F l)
canon-at F falls n code deepest canonical ranged l e d ks low is =
    let trie_is = trie-at F falls n code deepest canonical ranged (deepest + 1) 0 e d l ks (omega arith) low is in
    record { trie = trie_is; distinct = record { once = trie-once F code (deepest + 1) 0 l (entries_below n F l) trie_is } }
