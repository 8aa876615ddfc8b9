-- The rows of canonical tries, and of chains, pass their test.
use Rattle.std.proofs.Common.{◌≡◌, ℕ, zero, suc, ◌+◌, ◌*◌, ◌%◌, ◌^◌, ◌<◌, ◌≤◌, Bool, true, false, ◌&&◌, ◌||◌, not, List, [], ◌∷◌, Option, Some, None, length, take, drop, map, get_or, refl, ap, sym, subst, ◌∙◌, arith, inl, inr, length-take, length-drop}
use Rattle.std.specs.Prelude.{nat_le, nat_eq, ◌==◌, is_some, option_map, option_to_list}
use Rattle.std.specs.List.{All, filter_map, list_all, cons_option}
use Rattle.std.specs.Ordering.{nat_cmp, is_lt}
use Rattle.std.specs.declared.cmp.Ordering.TheVariants.{Less}
use Rattle.std.specs.Cmp.Lexicographic.{slice_cmp}
use Rattle.std.proofs.lemmas.Bool.{cases_Bool, and_from, eq-eqb}
use Rattle.std.proofs.lemmas.List.{get_or-take, get_or-drop}
use Rattle.std.proofs.lemmas.List.Elements.{All-head, All-map, filter_passes}
use Rattle.std.proofs.lemmas.List.Sums.{list_all-from_AllPass}
use lib.Pointwise.{pointwise}
use Rattle.elem_core.specs.Codes.{digit_at}
use Rattle.node_heap.specs.Links.{count, LeadsDown}
use Rattle.node_heap.specs.Forms.{Forms, links_of, links_in}
use Rattle.rrb_core.proofs.LinkCounts.{count-at}
use Rattle.champ_chain.specs.Entry.{Entry, entry, key_at, IsEntry, SameSet}
use Rattle.champ_chain.specs.Chain.{AreChainRows, AreAbove, IsRising}
use Rattle.champ_chain.proofs.SetLemmas.{Among, same-refl, same-sym, same-length}
use Rattle.champ_chain.proofs.SpotLemmas.{FirstRow, first-row, rows-none}
use Rattle.champ_trie.specs.Bits.{has, rank}
use Rattle.champ_trie.specs.Trie.{IsPlace, IsTrie, IsTrieRow, part}
use Rattle.champ_trie.specs.Walk.{rows_from, entries_of}
use Rattle.champ_trie.proofs.BitLemmas.{rank-lt}
use Rattle.champ_trie.proofs.PlaceLemmas.{place-entry, place-node, node-in}
use Rattle.champ_trie.proofs.WalkLemmas.{trie-walk, trie-entries}
use Rattle.champ_kinds.proofs.ZipLemmas.{all-turned}
use Rattle.pool_check.specs.Tries.{all_same, positions, are_apart, entry_at, entry_passes, first_key, is_before, is_sub_node, is_chain_row, entries_below, has_digit, is_entry_at, is_node_at, agree_above, are_branches, are_chained, is_canonical}
use Rattle.pool_check.proofs.TestLemmas.{not-both}
use Rattle.pool_check.proofs.EntriesBelow.{rows-deep}
use Rattle.shell_terms.specs.Edit.{Bytes}
use Rattle.state_rows.proofs.PassesLists.{or-from, most-test, range-pass, same-pass, positions-pass, found-any_order}

-- entries are what their links name
entries-back : (F : Forms Bytes) (E : List (Entry Bytes)) → ((e : Entry Bytes) → Among e E → IsEntry F e) → filter_map (entry_at F) (map (λ e. e.link) E) ≡ E
entries-back F [] each = refl
entries-back F (e ∷ es) each =
    ap (λ o. cons_option (option_map (λ key. entry key e.link) o) (filter_map (entry_at F) (map (λ e. e.link) es))) (each e (inl refl))
    ∙ ap (λ ys. e ∷ ys) (entries-back F es (λ d among. each d (inr among)))

many-test : (depth k : ℕ) → (0 < depth → 2 ≤ k) → ((depth == 0) || nat_le 2 k) ≡ true
many-test zero k many = refl
many-test (suc depth) k many = or-from (suc depth == 0) (nat_le 2 k) (most-test 2 k (many (omega arith)))

apart-test : (e d : Bool) → (e ≡ true → d ≡ false) → not (e && d) ≡ true
apart-test false d apart = refl
apart-test true d apart = ap (λ b. not (true && b)) (apart refl)

module _ (F : Forms Bytes) (falls : LeadsDown (λ l. l) (links_in F)) (n : ℕ) (code : Bytes → ℕ) (deepest : ℕ) where
  -- the entries below a canonical trie row, or below a chain, are those that it has, in some order
  pub entries-same : (left depth l : ℕ) (E : List (Entry Bytes)) → l < n → IsTrie (slice_cmp nat_cmp) code F left depth l E → SameSet (entries_below n F l) E
  unfolding entries_below
  entries-same left depth l E low is =
      let a : ℕ = left + length E + n in
      let walk : SameSet (entries_of F (rows_from a F l)) (map (λ e. e.link) E) = trie-walk (slice_cmp nat_cmp) code F left depth l E is a (length E) (omega arith) (omega arith) in
      let same : SameSet (entries_of F (rows_from n F l)) (map (λ e. e.link) E) = subst (λ rows. SameSet (entries_of F rows) (map (λ e. e.link) E)) (rows-deep F falls a n l (omega (arith, low)) low) walk in
      subst (λ es. SameSet (filter_map (entry_at F) (entries_of F (rows_from n F l))) es) (entries-back F E (trie-entries (slice_cmp nat_cmp) code F left depth l E is))
      (found-any_order (entry_at F) (entries_of F (rows_from n F l)) (map (λ e. e.link) E) same)

  -- what is so of all entries that a trie row has is so of those below it
  pub each-below : (test : Entry Bytes → Bool) (left depth l : ℕ) (E : List (Entry Bytes)) → l < n → IsTrie (slice_cmp nat_cmp) code F left depth l E → All (λ e. test e ≡ true) E → list_all test (entries_below n F l) ≡ true
  each-below test left depth l E low is all =
      list_all-from_AllPass test (entries_below n F l) (all-turned (λ e. test e ≡ true) E (entries_below n F l) (same-sym (entries_below n F l) E (entries-same left depth l E low is)) all)

  alike-below : (f : Entry Bytes → ℕ) (c left depth l : ℕ) (E : List (Entry Bytes)) → l < n → IsTrie (slice_cmp nat_cmp) code F left depth l E → All (λ e. f e ≡ c) E → all_same (map f (entries_below n F l)) ≡ true
  alike-below f c left depth l E low is all =
      same-pass c (map f (entries_below n F l))
      (All-map (λ k. k ≡ c) f (entries_below n F l) (all-turned (λ e. f e ≡ c) E (entries_below n F l) (same-sym (entries_below n F l) E (entries-same left depth l E low is)) all))

  -- a chain row has a second link where more rows follow
  two-links : (x : ℕ) (next : Option ℕ) (es : List (Entry Bytes)) → 1 ≤ length es → AreChainRows F next es → length (x ∷ option_to_list next) ≡ 2
  two-links x None es some rows = absurd (omega (arith, some, ap length (rows-none F es rows)))
  two-links x (Some m) es some rows = refl

  -- what stands below a trie row of a depth may stand there
  sub-node-passes : (left depth k : ℕ) (P : List (Entry Bytes)) → depth + suc left ≡ deepest + 1 → 2 ≤ length P → IsTrie (slice_cmp nat_cmp) code F left (suc depth) k P → is_sub_node deepest depth (F k) ≡ true
  unfolding IsTrie
  sub-node-passes zero depth k P levels two is =
      let at = first-row F k is.entries is.rows in
      let long : 2 ≤ length is.entries = omega (arith, two, same-length is.entries P is.same) in
      let last : depth ≡ deepest = omega (arith, levels) in
      ap (is_sub_node deepest depth) at.row
      ∙ and_from (depth == deepest) (length (at.first.link ∷ option_to_list at.next) == 2) (eq-eqb depth deepest last) (eq-eqb (length (at.first.link ∷ option_to_list at.next)) 2 (two-links at.first.link at.next at.others (omega (arith, long, ap length at.whole)) at.rows))
  sub-node-passes (suc left) depth k P levels two is = ap (is_sub_node deepest depth) is.row.row ∙ eq-eqb (suc depth) (depth + 1) (omega arith)

  -- what stands at a position of a canonical trie row passes the test of the position
  module _ (left depth l c : ℕ) (E : List (Entry Bytes)) (low : l < n) (levels : depth + suc left ≡ deepest + 1) (is : IsTrieRow (slice_cmp nat_cmp) code F depth l E (λ k P. IsTrie (slice_cmp nat_cmp) code F left (suc depth) k P)) where
    abbrev N : ℕ → List (Entry Bytes) → Type 0
    N k P = IsTrie (slice_cmp nat_cmp) code F left (suc depth) k P

    abbrev P-at : ℕ → List (Entry Bytes)
    P-at p = part (slice_cmp nat_cmp) code depth p E

    entry-passes : (p i : ℕ) → p < 32 → has is.entries p ≡ true → 0 + i ≡ rank is.entries p → is_entry_at n F code depth p (get_or (take (rank is.entries 32) is.links) i 0) ≡ true
    entry-passes p i small there at =
        let x : ℕ = get_or is.links (rank is.entries p) 0 in
        let stands = subst (λ q. IsPlace F N q (P-at p)) (place-entry is.entries is.nodes is.links p there) (is.places p small) in
        let digits : All (λ e. nat_eq (digit_at (code e.key) depth) p ≡ true) (P-at p) = filter_passes (λ e. nat_eq (digit_at (code e.key) depth) p) E in
        let digit : nat_eq (digit_at (code stands.0) depth) p ≡ true = All-head (λ e. nat_eq (digit_at (code e.key) depth) p ≡ true) (entry stands.0 x) [] (subst (All (λ e. nat_eq (digit_at (code e.key) depth) p ≡ true)) stands.1 digits) in
        let same : i ≡ rank is.entries p = omega (arith, at) in
        ap (λ j. is_entry_at n F code depth p (get_or (take (rank is.entries 32) is.links) j 0)) same
        ∙ ap (is_entry_at n F code depth p) (get_or-take (rank is.entries 32) is.links (rank is.entries p) 0 (rank-lt is.entries p 32 small there))
        ∙ ap (λ o. entry_passes (has_digit n F code depth p) (option_map (λ key. entry key x) o)) stands.2 ∙ digit

    node-passes : (p i : ℕ) → p < 32 → has is.nodes p ≡ true → 0 + i ≡ rank is.nodes p → is_node_at n F code deepest depth p (get_or (drop (rank is.entries 32) is.links) i 0) ≡ true
    node-passes p i small there at =
        let k : ℕ = get_or is.links (rank is.entries 32 + rank is.nodes p) 0 in
        let absent : has is.entries p ≡ false = elim (cases_Bool (has is.entries p)) as (λ _. has is.entries p ≡ false) [
          | inl both ↦ absurd (not-both (sym (is.row.sets.apart p small both) ∙ there))
          | inr none ↦ none
        ] in
        let stands = subst (λ q. IsPlace F N q (P-at p)) (place-node is.entries is.nodes is.links p absent there) (is.places p small) in
        let under : k < l = falls l k (omega (arith, count-at is.links (rank is.entries 32 + rank is.nodes p) 0 (node-in is.entries is.nodes is.links p small is.row.sets there), ap (λ r. count k (links_of r)) is.row.row)) in
        let same : i ≡ rank is.nodes p = omega (arith, at) in
        ap (λ j. is_node_at n F code deepest depth p (get_or (drop (rank is.entries 32) is.links) j 0)) same
        ∙ ap (is_node_at n F code deepest depth p) (get_or-drop (rank is.entries 32) is.links (rank is.nodes p) 0)
        ∙ and_from (is_sub_node deepest depth (F k)) (list_all (has_digit n F code depth p) (entries_below n F k)) (sub-node-passes left depth k (P-at p) levels stands.0 stands.1)
        (each-below (has_digit n F code depth p) left (suc depth) k (P-at p) (omega (arith, under, low)) stands.1 (filter_passes (λ e. nat_eq (digit_at (code e.key) depth) p) E))

    rank-zero : (s : ℕ) → rank s 0 ≡ 0
    unfolding rank
    rank-zero s = refl

    branches-pass : are_branches n F code deepest depth is.entries is.nodes is.links ≡ true
    unfolding are_branches
    branches-pass =
        let r : ℕ = rank is.entries 32 in
        let a : Bool = are_apart is.entries is.nodes in
        let b : Bool = pointwise (is_entry_at n F code depth) (positions is.entries) (take r is.links) in
        let c : Bool = pointwise (is_node_at n F code deepest depth) (positions is.nodes) (drop r is.links) in
        and_from (a && b) c
        (and_from a b (range-pass (λ p. not (has is.entries p && has is.nodes p)) 0 32 (λ p from to. apart-test (has is.entries p) (has is.nodes p) (is.row.sets.apart p (omega (arith, to)))))
        (positions-pass (is_entry_at n F code depth) is.entries 0 32 (take r is.links) (omega (arith, rank-zero is.entries, length-take r is.links, is.row.sets.count))
        (λ p i from to there at. entry-passes p i (omega (arith, to)) there (omega (arith, at, rank-zero is.entries)))))
        (positions-pass (is_node_at n F code deepest depth) is.nodes 0 32 (drop r is.links) (omega (arith, rank-zero is.nodes, length-drop r is.links, is.row.sets.count))
        (λ p i from to there at. node-passes p i (omega (arith, to)) there (omega (arith, at, rank-zero is.nodes))))

  -- a canonical trie row passes its test
  pub trie-passes : (left depth l c : ℕ) (E : List (Entry Bytes)) → l < n → depth + suc left ≡ deepest + 1 → IsTrie (slice_cmp nat_cmp) code F (suc left) depth l E → All (λ e. code e.key % 2 ^ (5 * depth) ≡ c) E → (0 < depth → 2 ≤ length E)
      → is_canonical n F code deepest l (F l) ≡ true
  unfolding IsTrie
  trie-passes left depth l c E low levels is agree many =
      let a : Bool = are_branches n F code deepest depth is.entries is.nodes is.links in
      let b : Bool = agree_above n F code depth l in
      let long : length (entries_below n F l) ≡ length E = same-length (entries_below n F l) E (entries-same (suc left) depth l E low is) in
      ap (is_canonical n F code deepest l) is.row.row
      ∙ and_from (a && b) ((depth == 0) || nat_le 2 (length (entries_below n F l)))
      (and_from a b (branches-pass left depth l c E low levels is) (alike-below (λ e. code e.key % 2 ^ (5 * depth)) c (suc left) depth l E low is agree))
      (many-test depth (length (entries_below n F l)) (λ some. omega (arith, many some, long)))

  -- a row of a chain passes its test
  pub chain-passes : (l c : ℕ) (es : List (Entry Bytes)) → l < n → AreChainRows F (Some l) es → IsRising (slice_cmp nat_cmp) es → All (λ e. code e.key ≡ c) es → is_canonical n F code deepest l (F l) ≡ true
  unfolding AreChainRows IsTrie
  chain-passes l c [] low rows rising alike = absurd (let none : Some l ≡ None = rows in cc)
  chain-passes l c (e ∷ es) low rows rising alike =
      let same : rows.link ≡ l = (let both : Some rows.link ≡ Some l = sym rows.here in cc) in
      ap (is_canonical n F code deepest l) (ap F (sym same) ∙ rows.row) ∙ by_next rows.next rows.rest
    where
      greater : (at : List (Entry Bytes)) (first : Entry Bytes) (others : List (Entry Bytes)) → at ≡ first ∷ others → AreAbove (slice_cmp nat_cmp) e.key at → slice_cmp nat_cmp e.key first.key ≡ Less
      greater at first others whole above = (subst (AreAbove (slice_cmp nat_cmp) e.key) whole above).0

      by_next : (next : Option ℕ) → AreChainRows F next es → are_chained n F code l (e.link ∷ option_to_list next) ≡ true
      by_next None rest = ap is_some rows.key
      by_next (Some m) rest =
          let at : FirstRow F m es = first-row F m es rest in
          let a : Bool = is_chain_row (F m) in
          let b : Bool = is_before (key_at F e.link) (first_key F (links_in F m)) in
          let chained : IsTrie (slice_cmp nat_cmp) code F zero 0 l (e ∷ es) = record { entries = e ∷ es; rows = rows; rising = rising; same = same-refl (e ∷ es); two = omega (arith, ap length at.whole) } in
          and_from (a && b) (all_same (map (λ d. code d.key) (entries_below n F l)))
          (and_from a b (ap is_chain_row at.row)
          (ap (λ o. is_before o (first_key F (links_in F m))) rows.key ∙ ap (is_before (Some e.key)) (ap (λ r. first_key F (links_of r)) at.row ∙ at.key) ∙ ap is_lt (greater es at.first at.others at.whole rising.0)))
          (alike-below (λ d. code d.key) c zero 0 l (e ∷ es) low chained alike)
