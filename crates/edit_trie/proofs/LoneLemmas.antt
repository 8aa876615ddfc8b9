-- One of two entries that is left beside a key, in a chain and in a trie.
use Rattle.std.proofs.Common.{◌≡◌, ◌≢◌, ℕ, ◌+◌, ◌≤◌, List, [], ◌∷◌, length, refl, ap, subst, ◌∙◌, arith, cond, true, false, not, Bool, Option, Some, None, option_map, inl, inr, suc, ◌-◌, ◌<◌, get_or, sym}
use Rattle.std.specs.Prelude.{count_by, option_to_list, is_some, nat_eq}
use Rattle.std.specs.Cmp.{IsTotalOrder}
use Rattle.std.specs.Ordering.{is_eq}
use Rattle.std.specs.declared.cmp.Ordering.{Ordering}
use Rattle.std.specs.declared.cmp.Ordering.TheVariants.{Less, Equal, Greater}
use Rattle.std.specs.List.{filter}
use Rattle.std.proofs.lemmas.Bool.{cases_eq, cases_lt, eqb-true, false_from_ne_true}
use Rattle.std.proofs.lemmas.List.Filters.{length-filter_both}
use Rattle.std.proofs.lemmas.List.Sums.{length-filter}
use Rattle.std.proofs.lemmas.List.{get_or_default}
use Rattle.std.proofs.lemmas.Nat.Bits.{same_from_bits_below, bit_at-zero}
use Rattle.elem_core.specs.Codes.{digit_at}
use Rattle.elem_core.specs.declared.codes.TheConstants.{DEEPEST}
use Rattle.node_heap.specs.Forms.{Forms, node, chain}
use Rattle.node_heap.specs.Heap.{Heap, form_at}
use Rattle.champ_chain.specs.Entry.{Entry, entry, key_at, SameSet, has_key, link_with, others, AreDistinct, IsEntry}
use Rattle.champ_chain.proofs.CallerLemmas.{FirstRow, first-row, rows-none, row-entry, row-next, same-key, same-filter, same-one, same-length, same-count, above-same, find-none, rising-distinct, same-distinct}
use Rattle.champ_chain.specs.Chain.{IsChain, IsRising, AreChainRows}
use Rattle.champ_trie.specs.Bits.{has, rank}
use Rattle.champ_trie.specs.Trie.{AreSets, IsPlace, IsTrie, IsTrieRow, part, place_of}
use Rattle.champ_trie.specs.Edit.{IsBelow}
use Rattle.champ_trie.proofs.CallerLemmas.{below-more, same-place-of, rank-lt, rank-onto, rank-none, has-none, bit-no, place-entry, place-node, place-empty, filter-turned, filter-within, part-others, others-elsewhere, part-link, below-part, lone-gone, lone-place, part-whole}
use Rattle.champ_trie.specs.declared.place.Place.TheVariants.{Node}
use Rattle.edit_trie.specs.Spot.{IsSpot}
use Rattle.edit_trie.specs.declared.row.Spot.TheVariants.{Entry as EntryAt, Node as NodeAt, Empty as NoneAt}

-- whether there is a link
pub some-of : (r : Option ℕ) → is_some r ≡ true → (n : ℕ) × (r ≡ Some n)
some-of None e = absurd cc
some-of (Some n) e = (n, refl)

pub none-of : (r : Option ℕ) → is_some r ≡ false → r ≡ None
none-of None e = refl
none-of (Some n) e = absurd cc

module _ {K : Type 0} (cmp : K → K → Ordering) (o : IsTotalOrder cmp) where
  -- a key that is there is there once
  pub count-one : (key : K) (E : List (Entry K)) → AreDistinct cmp E → link_with cmp key E ≢ None → count_by (has_key cmp key) E ≡ 1
  count-one key E distinct there = elim (cases_eq (count_by (has_key cmp key) E) 0) as (λ _. count_by (has_key cmp key) E ≡ 1) [
    | inl none ↦ absurd (there (ap (option_map (λ (e : Entry K). e.link)) (find-none cmp o key E none)))
    | inr some ↦ omega (arith, some, distinct.once key)
  ]

  -- all others but that one are left
  pub others-size : (key : K) (E : List (Entry K)) → AreDistinct cmp E → link_with cmp key E ≢ None → length (others cmp key E) + 1 ≡ length E
  others-size key E distinct there =
      let both = length-filter_both (has_key cmp key) (λ e. not (has_key cmp key e)) (λ e. refl) E in
      omega (arith, both, length-filter (has_key cmp key) E, count-one key E distinct there)

  -- of two entries in rising order, of which one has the key
  pub lone-last : (e d : Entry K) (E : List (Entry K)) (key : K) → IsRising cmp (e ∷ d ∷ []) → SameSet (e ∷ d ∷ []) E → cmp key e.key ≡ Equal → others cmp key E ≡ d ∷ []
  lone-last e d E key rising same equal =
      let above = above-same cmp o key e.key equal (d ∷ []) rising.0 in
      let first : has_key cmp key e ≡ true = ap is_eq equal in
      let second : has_key cmp key d ≡ false = ap is_eq above.0 in
      let left : others cmp key (e ∷ d ∷ []) ≡ d ∷ [] =
      ap (λ (b : Bool). cond (not b) (e ∷ cond (not (has_key cmp key d)) (d ∷ []) []) (cond (not (has_key cmp key d)) (d ∷ []) [])) first
      ∙ ap (λ (b : Bool). cond (not b) (d ∷ []) []) second in
      same-one d (others cmp key E) (subst (λ (xs : List (Entry K)). SameSet xs (others cmp key E)) left (same-filter (λ x. not (has_key cmp key x)) (e ∷ d ∷ []) E same))

  pub lone-first : (e d : Entry K) (E : List (Entry K)) (key : K) → SameSet (e ∷ d ∷ []) E → count_by (has_key cmp key) E ≡ 1 → (cmp key e.key ≡ Equal → ⊥) → others cmp key E ≡ e ∷ []
  lone-first e d E key same one other =
      let first : has_key cmp key e ≡ false = not-equal (cmp key e.key) other in
      let counted : count_by (has_key cmp key) (e ∷ d ∷ []) ≡ 1 = same-count (has_key cmp key) (e ∷ d ∷ []) E same ∙ one in
      let second : has_key cmp key d ≡ true = by_count (has_key cmp key e) (has_key cmp key d) first counted in
      let left : others cmp key (e ∷ d ∷ []) ≡ e ∷ [] =
      ap (λ (b : Bool). cond (not b) (e ∷ cond (not (has_key cmp key d)) (d ∷ []) []) (cond (not (has_key cmp key d)) (d ∷ []) [])) first
      ∙ ap (λ (b : Bool). e ∷ cond (not b) (d ∷ []) []) second in
      same-one e (others cmp key E) (subst (λ (xs : List (Entry K)). SameSet xs (others cmp key E)) left (same-filter (λ x. not (has_key cmp key x)) (e ∷ d ∷ []) E same))
    where
      not-equal : (r : Ordering) → (r ≡ Equal → ⊥) → is_eq r ≡ false
      not-equal Less off = refl
      not-equal Equal off = absurd (off refl)
      not-equal Greater off = refl

      by_count : (b c : Bool) → b ≡ false → 0 + cond b 1 0 + cond c 1 0 ≡ 1 → c ≡ true
      by_count b true off e = refl
      by_count true false off e = absurd cc
      by_count false false off e = absurd (omega (arith, e))

  -- the rows of a chain, in the words of the code: the first, and the second
  module _ (F : Forms K) (l : ℕ) (E : List (Entry K)) (key : K) (c : IsChain cmp F l E) (x : ℕ) (next : Option ℕ) (row : F l ≡ Some (node chain (x ∷ option_to_list next))) where
    pub at : FirstRow F l c.entries
    at = first-row F l c.entries c.rows

    size : length c.entries ≡ length E
    size = same-length c.entries E c.same

    next-is : at.next ≡ next
    next-is = row-next F l at.first.link x at.next next at.row row

    entry-is : at.first.link ≡ x
    entry-is = row-entry F l at.first.link x at.next next at.row row

    -- there is a second one
    pub has-second : next ≡ None → ⊥
    has-second none =
        let rows : AreChainRows F None at.others = rw (next-is ∙ none) at at.rows in
        absurd (omega (arith, ap length at.whole, ap length (rows-none F at.others rows), size, c.two))

    pub first-key : key_at F x ≡ Some at.first.key
    first-key = rw entry-is at at.key

    module _ (m : ℕ) (some : next ≡ Some m) where
      second : FirstRow F m at.others
      second = first-row F m at.others (rw (next-is ∙ some) at at.rows)

      pub second-row : (y : ℕ) × (after : Option ℕ) × (F m ≡ Some (node chain (y ∷ option_to_list after)))
      second-row = (second.first.link, second.next, second.row)

      module _ (y : ℕ) (after : Option ℕ) (row' : F m ≡ Some (node chain (y ∷ option_to_list after))) where
        after-is : second.next ≡ after
        after-is = row-next F m second.first.link y second.next after second.row row'

        -- a third row leaves two others
        pub third-more : (n : ℕ) → after ≡ Some n → link_with cmp key E ≢ None → 2 ≤ length (others cmp key E)
        third-more n third there =
            let next-one = first-row F n second.others (rw (after-is ∙ third) at second.rows) in
            let distinct = same-distinct cmp o c.entries E c.same (rising-distinct cmp o c.entries c.rising) in
            omega (arith, others-size key E distinct there, size, ap length at.whole, ap length second.whole, ap length next-one.whole)

        -- and with none there are just two
        module _ (last : after ≡ None) (there : link_with cmp key E ≢ None) where
          both : c.entries ≡ at.first ∷ second.first ∷ []
          both = at.whole ∙ ap (λ (xs : List (Entry K)). at.first ∷ xs) (second.whole ∙ ap (λ (xs : List (Entry K)). second.first ∷ xs) (rows-none F second.others (rw (after-is ∙ last) at second.rows)))

          second-is : second.first.link ≡ y
          second-is = row-entry F m second.first.link y second.next after second.row row'

          same : SameSet (at.first ∷ second.first ∷ []) E
          same = rw both at c.same

          rising : IsRising cmp (at.first ∷ second.first ∷ [])
          rising = rw both at c.rising

          pub left-second : (k : K) → key_at F x ≡ Some k → cmp key k ≡ Equal → (j : K) × (others cmp key E ≡ entry j y ∷ []) × (key_at F y ≡ Some j)
          left-second k is equal =
              let own : cmp key at.first.key ≡ Equal = rw (same-key F x x at.first.key k refl first-key is) equal in
              (second.first.key, lone-last at.first second.first E key rising same own ∙ ap (λ (i : ℕ). entry second.first.key i ∷ []) second-is, subst (λ (i : ℕ). key_at F i ≡ Some second.first.key) second-is second.key)

          pub left-first : (k : K) → key_at F x ≡ Some k → (cmp key k ≡ Equal → ⊥) → (j : K) × (others cmp key E ≡ entry j x ∷ []) × (key_at F x ≡ Some j)
          left-first k is other =
              let distinct = same-distinct cmp o c.entries E c.same (rising-distinct cmp o c.entries c.rising) in
              let own : cmp key at.first.key ≡ Equal → ⊥ = λ e. other (rw (same-key F x x k at.first.key refl is first-key) e) in
              (at.first.key, lone-first at.first second.first E key same (count-one key E distinct there) own ∙ ap (λ (i : ℕ). entry at.first.key i ∷ []) entry-is, first-key)

-- the link at an index, in the words of the code
pub link-at : (ls links : List ℕ) (i child : ℕ) → child ≡ get_or ls i child → ls ≡ links → i < length links → child ≡ get_or links i 0
link-at ls links i child is e lt = is ∙ rw e (get_or_default links i child 0 lt)

-- a position of a set by its rank
pub rank-only : (s a b : ℕ) → has s a ≡ true → has s b ≡ true → rank s a ≡ rank s b → a ≡ b
rank-only s a b at_a at_b same = elim (cases_eq a b) as (λ _. a ≡ b) [
  | inl is ↦ is
  | inr other ↦ elim (cases_lt a b) as (λ _. a ≡ b) [
    | inl less ↦ absurd (omega (arith, rank-lt s a b less at_a, same))
    | inr more ↦ absurd (omega (arith, rank-lt s b a (omega (arith, more, other)) at_b, same))
  ]
]

module _ {K : Type 0} (cmp : K → K → Ordering) (code : K → ℕ) where
  -- the entries with another digit
  abbrev rest : ℕ → ℕ → List (Entry K) → List (Entry K)
  rest d p E = filter (λ e. not (nat_eq (digit_at (code e.key) d) p)) E

  split : (d p : ℕ) (E : List (Entry K)) → length (part cmp code d p E) + length (rest d p E) ≡ length E
  split d p E = length-filter_both (λ e. nat_eq (digit_at (code e.key) d) p) (λ e. not (nat_eq (digit_at (code e.key) d) p)) (λ e. refl) E

  part-rest : (d p q : ℕ) (E : List (Entry K)) → p ≢ q → part cmp code d q (rest d p E) ≡ part cmp code d q E
  part-rest d p q E off = filter-turned _ _ E ∙ filter-within _ _ (λ e is. by_test (nat_eq (digit_at (code e.key) d) p) refl (eqb-true (digit_at (code e.key) d) q is)) E
    where
      by_test : {n : ℕ} (b : Bool) → nat_eq n p ≡ b → n ≡ q → not b ≡ true
      by_test {n} true is here = absurd (off (sym (eqb-true n p is) ∙ here))
      by_test {n} false is here = refl

  part-le : (d q : ℕ) (E : List (Entry K)) → length (part cmp code d q E) ≤ length E
  part-le d q E = omega (arith, split d q E)

  -- parts of two digits, and of three
  pub two-parts : (d p q : ℕ) (E : List (Entry K)) → p ≢ q → length (part cmp code d p E) + length (part cmp code d q E) ≤ length E
  two-parts d p q E off = omega (arith, split d p E, ap length (part-rest d p q E off), part-le d q (rest d p E))

  pub three-parts : (d p q r : ℕ) (E : List (Entry K)) → p ≢ q → p ≢ r → q ≢ r → length (part cmp code d p E) + (length (part cmp code d q E) + length (part cmp code d r E)) ≤ length E
  three-parts d p q r E pq pr qr = omega (arith, split d p E, ap length (part-rest d p q E pq), ap length (part-rest d p r E pr), two-parts d q r (rest d p E) qr)

  -- a row of these places over entries, of which one has the key
  module _ (F : Forms K) (B : ℕ → List (Entry K) → Type 0) (d e n : ℕ) (ls : List ℕ) (E : List (Entry K)) (sets : AreSets e n ls) (places : (p : ℕ) → p < 32 → IsPlace F B (place_of e n ls p) (part cmp code d p E)) where
    at-entry : (q : ℕ) → q < 32 → has e q ≡ true → (k : K) × (part cmp code d q E ≡ entry k (get_or ls (rank e q) 0) ∷ []) × IsEntry F (entry k (get_or ls (rank e q) 0))
    at-entry q low here = subst (λ at. IsPlace F B at (part cmp code d q E)) (place-entry e n ls q here) (places q low)

    no-entry : (q : ℕ) → q < 32 → has n q ≡ true → has e q ≡ false
    no-entry q low here = false_from_ne_true (has e q) (λ both. let bad : true ≡ false = sym here ∙ sets.apart q low both in cc)

    at-node : (q : ℕ) → q < 32 → has n q ≡ true → 2 ≤ length (part cmp code d q E)
    at-node q low here =
        let stands = subst (λ at. IsPlace F B at (part cmp code d q E)) (place-node e n ls q (no-entry q low here) here) (places q low) in
        stands.0

    apart : (p q : ℕ) → has e p ≡ true → has e q ≡ false → p ≢ q
    apart p q here absent same = let bad : true ≡ false = sym here ∙ ap (has e) same ∙ absent in cc

    other-rank : (s p q : ℕ) → rank s p ≢ rank s q → p ≢ q
    other-rank s p q off same = off (ap (rank s) same)

    -- with an entry's place and a node's there are three at least
    both-kinds : (p q : ℕ) → p < 32 → q < 32 → has e p ≡ true → has n q ≡ true → 3 ≤ length E
    both-kinds p q low low' here there =
        omega (arith, two-parts d p q E (apart p q here (no-entry q low' there)), ap length (at-entry p low here).1, at-node q low' there)

    -- with two places of nodes too
    two-nodes : 2 ≤ rank n 32 → 3 ≤ length E
    two-nodes more =
        let a = rank-onto n 32 0 (omega (arith, more)) in
        let b = rank-onto n 32 1 more in
        omega (arith, two-parts d a.0 b.0 E (other-rank n a.0 b.0 (λ same. absurd (omega (arith, same, a.3, b.3)))), at-node a.0 a.1 a.2, at-node b.0 b.1 b.2)

    -- and with three of entries
    three-entries : 3 ≤ rank e 32 → 3 ≤ length E
    three-entries more =
        let a = rank-onto e 32 0 (omega (arith, more)) in
        let b = rank-onto e 32 1 (omega (arith, more)) in
        let c = rank-onto e 32 2 more in
        omega (
          arith,
          three-parts d a.0 b.0 c.0 E (other-rank e a.0 b.0 (λ same. absurd (omega (arith, same, a.3, b.3)))) (other-rank e a.0 c.0 (λ same. absurd (omega (arith, same, a.3, c.3)))) (other-rank e b.0 c.0 (λ same. absurd (omega (arith, same, b.3, c.3)))),
          ap length (at-entry a.0 a.1 a.2).1,
          ap length (at-entry b.0 b.1 b.2).1,
          ap length (at-entry c.0 c.1 c.2).1,
        )

    none-nodes : rank n 32 ≡ 0 → n ≡ 0
    none-nodes none = same_from_bits_below 32 n 0 sets.nodes_small (omega arith) (λ q low. bit-no n q (absent q low) ∙ sym (bit_at-zero q))
      where
        absent : (q : ℕ) → q < 32 → has n q ≡ false
        absent q low = false_from_ne_true (has n q) (λ there. omega (arith, rank-lt n q 32 low there, none))

    -- beside an entry: there are three, unless there are just two entries
    pub three-beside : (p : ℕ) → p < 32 → has e p ≡ true → 2 ≤ length E → ((n ≡ 0) × (length ls ≡ 2) → ⊥) → 3 ≤ length E
    three-beside p low here two other = elim (cases_eq (rank n 32) 0) as (λ _. 3 ≤ length E) [
      | inl none ↦
          let nil : n ≡ 0 = none-nodes none in
          elim (cases_eq (rank e 32) 1) as (λ _. 3 ≤ length E) [
            | inl one ↦ absurd (omega (arith, two, ap length (lone-place cmp code F B d e n ls E sets places B nil (omega (arith, sets.count, one, none))).1))
            | inr many ↦
                let first = rank-lt e p 32 low here in
                let not_two : rank e 32 ≢ 2 = λ same. other (nil, omega (arith, sets.count, none, same)) in
                three-entries (omega (arith, many, first, not_two))
          ]
      | inr some ↦
          let q = rank-onto n 32 0 (omega (arith, some)) in
          both-kinds p q.0 low q.1 here q.2
    ]

    -- beside a node: there are three, unless it is the only link
    pub three-about : (p : ℕ) → p < 32 → has n p ≡ true → length ls ≢ 1 → 3 ≤ length E
    three-about p low here other =
        let some_node = rank-lt n p 32 low here in
        elim (cases_eq (rank e 32) 0) as (λ _. 3 ≤ length E) [
          | inl none ↦ two-nodes (omega (arith, sets.count, none, some_node, other))
          | inr some ↦ let q = rank-onto e 32 0 (omega (arith, some)) in both-kinds q.0 p q.1 low q.2 here
        ]

    -- below the only link all entries stand
    pub all-below : (p : ℕ) → p < 32 → has n p ≡ true → length ls ≡ 1 → part cmp code d p E ≡ E
    all-below p low here one = part-whole cmp code d p E (λ q low' off. subst (λ at. IsPlace F B at (part cmp code d q E)) (place-empty e n ls q (no_entry q low') (no_node q low' off)) (places q low'))
      where
        one_node : rank n p < rank n 32
        one_node = rank-lt n p 32 low here

        no_entry : (q : ℕ) → q < 32 → has e q ≡ false
        no_entry q low' = false_from_ne_true (has e q) (λ there. omega (arith, rank-lt e q 32 low' there, sets.count, one, one_node))

        no_node : (q : ℕ) → q < 32 → q ≢ p → has n q ≡ false
        no_node q low' off = false_from_ne_true (has n q) (λ there. off (rank-only n q p there here (omega (arith, rank-lt n q 32 low' there, sets.count, one, one_node))))

    -- of two entries the other is left
    module _ (equal_codes : (j k : K) → cmp j k ≡ Equal → code j ≡ code k) (key : K) (there : link_with cmp key E ≢ None) where
      pub other-entry : (i : ℕ) → has e (digit_at (code key) d) ≡ true → i ≡ rank e (digit_at (code key) d) → digit_at (code key) d < 32 → n ≡ 0 → length ls ≡ 2
          → (k : K) × (others cmp key E ≡ entry k (get_or ls (1 - i) 0) ∷ []) × IsEntry F (entry k (get_or ls (1 - i) 0))
      other-entry i here is low nil two =
          let p : ℕ = digit_at (code key) d in
          let all : rank e 32 ≡ 2 = omega (arith, sets.count, two, ap (λ s. rank s 32) nil, rank-none 32) in
          let lt = rank-lt e p 32 low here in
          let at = rank-onto e 32 (1 - i) (omega (arith, all)) in
          let q : ℕ = at.0 in
          let off : q ≢ p = other-rank e q p (λ same. absurd (omega (arith, same, at.3, is, lt, all))) in
          let stands = at-entry q at.1 at.2 in
          let own = at-entry p low here in
          let found : link_with cmp key (entry own.0 (get_or ls (rank e p) 0) ∷ []) ≢ None = λ none. there (sym (part-link cmp code equal_codes d key E) ∙ ap (link_with cmp key) own.1 ∙ none) in
          let gone : part cmp code d p (others cmp key E) ≡ [] = part-others cmp code d p key E ∙ ap (others cmp key) own.1 ∙ lone-gone cmp code key (entry own.0 (get_or ls (rank e p) 0)) found in
          let empty : (r : ℕ) → r < 32 → r ≢ q → r ≢ p → part cmp code d r E ≡ [] = λ r low' from from'.
          subst (λ at'. IsPlace F B at' (part cmp code d r E)) (place-empty e n ls r (no_third r low' q at.1 at.2 p low here at.3 is all from from') (ap (λ s. has s r) nil ∙ has-none r)) (places r low') in
          let whole : part cmp code d q (others cmp key E) ≡ others cmp key E = part-whole cmp code d q (others cmp key E) (λ r low' from. elim (cases_eq r p) as (λ _. part cmp code d r (others cmp key E) ≡ []) [
            | inl same ↦ ap (λ (j : ℕ). part cmp code d j (others cmp key E)) same ∙ gone
            | inr from' ↦ part-others cmp code d r key E ∙ ap (others cmp key) (empty r low' from from')
          ]) in
          let left : others cmp key E ≡ entry stands.0 (get_or ls (rank e q) 0) ∷ [] = sym whole ∙ part-others cmp code d q key E ∙ others-elsewhere cmp code equal_codes d q key E (λ same. off (sym same)) ∙ stands.1 in
          (stands.0, left ∙ ap (λ (j : ℕ). entry stands.0 (get_or ls j 0) ∷ []) at.3, subst (λ (j : ℕ). IsEntry F (entry stands.0 (get_or ls j 0))) at.3 stands.2)
        where
          no_third : (r : ℕ) → r < 32 → (q : ℕ) → q < 32 → has e q ≡ true → (p : ℕ) → p < 32 → has e p ≡ true → rank e q ≡ 1 - i → i ≡ rank e p → rank e 32 ≡ 2 → r ≢ q → r ≢ p → has e r ≡ false
          no_third r low' q low_q at_q p low_p at_p rank_q rank_p all from from' = false_from_ne_true (has e r) (λ there. elim (cases_eq (rank e r) (rank e p)) as (λ _. ⊥) [
            | inl same ↦ from' (rank-only e r p there at_p same)
            | inr off ↦ from (rank-only e r q there at_q (omega (arith, off, rank-lt e r 32 low' there, rank-lt e p 32 low_p at_p, rank_q, rank_p, all)))
          ])

      -- and of three or more two at least
      pub two-left : IsTotalOrder cmp → AreDistinct cmp E → 3 ≤ length E → 2 ≤ length (others cmp key E)
      two-left o distinct three = omega (arith, others-size cmp o key E distinct there)

-- a trie row on the way of a key that is there
module _ {T : Type 0} (cmp : T → T → Ordering) (code : T → ℕ) (o : IsTotalOrder cmp) (equal_codes : (j k : T) → cmp j k ≡ Equal → code j ≡ code k) (h : Heap T) (l d left : ℕ) (E : List (Entry T)) (key : T) (below : IsBelow cmp code (form_at h) d l E left (code key)) (deep : d ≤ DEEPEST) (there : link_with cmp key E ≢ None) (two : 2 ≤ length E) where
  abbrev F : Forms T
  F = form_at h

  abbrev p : ℕ
  p = digit_at (code key) d

  low : p < 32
  low = omega arith

  pub fewer : (m : ℕ) × (left ≡ suc m) × IsBelow cmp code F d l E (suc m) (code key)
  fewer = below-more cmp code F d l (code key) left E below deep

  pub row-below : IsTrieRow cmp code F d l E (λ k P. IsTrie cmp code F fewer.0 (suc d) k P)
  unfolding IsTrie
  row-below = fewer.2.trie

  abbrev pub entries-below : ℕ
  entries-below = row-below.entries

  abbrev pub nodes-below : ℕ
  nodes-below = row-below.nodes

  abbrev pub links-below : List ℕ
  links-below = row-below.links

  pub never-empty : IsSpot entries-below nodes-below p NoneAt → ⊥
  never-empty spot =
      let none : part cmp code d p E ≡ [] = subst (λ at. IsPlace F (λ k P. IsTrie cmp code F fewer.0 (suc d) k P) at (part cmp code d p E)) (place-empty entries-below nodes-below links-below p spot.0 spot.1) (row-below.places p low) in
      there (sym (part-link cmp code equal_codes d key E) ∙ ap (link_with cmp key) none)

  pub lone-entry : (i : ℕ) → IsSpot entries-below nodes-below p (EntryAt i) → nodes-below ≡ 0 → length links-below ≡ 2 → (k : T) × (others cmp key E ≡ entry k (get_or links-below (1 - i) 0) ∷ []) × IsEntry F (entry k (get_or links-below (1 - i) 0))
  lone-entry i spot nil both = other-entry cmp code F (λ k P. IsTrie cmp code F fewer.0 (suc d) k P) d entries-below nodes-below links-below E row-below.row.sets row-below.places equal_codes key there i spot.0 spot.1 low nil both

  pub more-entries : (i : ℕ) → IsSpot entries-below nodes-below p (EntryAt i) → ((nodes-below ≡ 0) × (length links-below ≡ 2) → ⊥) → 2 ≤ length (others cmp key E)
  more-entries i spot other =
      two-left cmp code F (λ k P. IsTrie cmp code F fewer.0 (suc d) k P) d entries-below nodes-below links-below E row-below.row.sets row-below.places equal_codes key there o below.distinct
      (three-beside cmp code F (λ k P. IsTrie cmp code F fewer.0 (suc d) k P) d entries-below nodes-below links-below E row-below.row.sets row-below.places p low spot.0 two other)

  pub more-nodes : (i : ℕ) → IsSpot entries-below nodes-below p (NodeAt i) → length links-below ≢ 1 → 2 ≤ length (others cmp key E)
  more-nodes i spot other =
      two-left cmp code F (λ k P. IsTrie cmp code F fewer.0 (suc d) k P) d entries-below nodes-below links-below E row-below.row.sets row-below.places equal_codes key there o below.distinct
      (three-about cmp code F (λ k P. IsTrie cmp code F fewer.0 (suc d) k P) d entries-below nodes-below links-below E row-below.row.sets row-below.places p low spot.1 other)

  pub only-node : (i child : ℕ) → IsSpot entries-below nodes-below p (NodeAt i) → length links-below ≡ 1 → child ≡ get_or links-below i 0 → IsBelow cmp code F (d + 1) child E fewer.0 (code key)
  only-node i child spot one is =
      let whole : part cmp code d p E ≡ E = all-below cmp code F (λ k P. IsTrie cmp code F fewer.0 (suc d) k P) d entries-below nodes-below links-below E row-below.row.sets row-below.places p low spot.1 one in
      let at : Node child ≡ place_of entries-below nodes-below links-below p = ap Node (is ∙ ap (λ (j : ℕ). get_or links-below j 0) spot.2) ∙ sym (place-node entries-below nodes-below links-below p spot.0 spot.1) in
      subst (λ (P : List (Entry T)). IsBelow cmp code F (d + 1) child P fewer.0 (code key)) whole
      (below-part cmp code F fewer.0 d l (code key) child E fewer.2 (λ depth a b ks was. at ∙ same-place-of F l d entries-below nodes-below links-below depth a b ks p row-below.row was) low)
