-- What the roots of a workspace reach: cells of lines, rows of vectors, rows of tries and of chains, pairs and states.
use Rattle.std.proofs.Common.{◌≡◌, ℕ, zero, suc, ◌+◌, ◌*◌, ◌%◌, ◌^◌, ◌<◌, ◌≤◌, List, [], ◌∷◌, Option, Some, None, length, take, get_or, refl, ap, sym, subst, ◌∙◌, arith, inl, inr, length-append}
use Rattle.std.specs.Prelude.{Bool, true, false, option_to_list, nat_eq}
use Rattle.std.specs.List.{All, flat_map}
use Rattle.std.specs.Ordering.{nat_cmp}
use Rattle.std.specs.Cmp.Lexicographic.{slice_cmp}
use Rattle.std.proofs.lemmas.Bool.{cases_eq, cases_lt, cases_Bool, eqb-true}
use Rattle.std.proofs.lemmas.List.Elements.{All-nil, All-cons, All-head, All-tail, All-filter, All-append, filter_passes}
use Rattle.elem_core.specs.Cell.{IsCell}
use Rattle.elem_core.specs.Codes.{digit_at}
use Rattle.elem_core.proofs.CodeLemmas.{digit-more}
use Rattle.node_heap.specs.Links.{count, Reaches, here, below}
use Rattle.node_heap.specs.Forms.{Form, Forms, Kind, cell, node, trie, chain, pair, state, links_of, links_in}
use Rattle.rrb_core.specs.Seq.{seq_at, IsWell}
use Rattle.rrb_core.proofs.LinkCounts.{count-split}
use Rattle.node_heap.proofs.Counts.{test_other, count-cons}
use Rattle.champ_chain.specs.Entry.{Entry, entry}
use Rattle.champ_chain.specs.Chain.{AreChainRows, IsRising}
use Rattle.champ_chain.proofs.SetLemmas.{same-sym}
use Rattle.champ_trie.specs.Bits.{has, rank}
use Rattle.champ_trie.specs.Trie.{IsPlace, IsTrie, IsTrieRow, IsCanonTo, place_of, part}
use Rattle.champ_trie.specs.Walk.{rows_below}
use Rattle.champ_trie.proofs.PlaceLemmas.{place-entry, place-node, place-empty}
use Rattle.champ_trie.proofs.GatherLemmas.{gather, entry_links, entries-gather}
use Rattle.champ_trie.proofs.WalkLemmas.{rows-all}
use Rattle.champ_kinds.proofs.ZipLemmas.{all-turned}
use Rattle.pool_order.proofs.Places.{flat_map-has}
use Rattle.pool_check.proofs.VectorReadings.{all-at}
use Rattle.shell_terms.specs.Edit.{Bytes}

-- a row that is none of a trie: a cell, a row of a vector, a pair or a state
abbrev pub is_loose : Option (Form Bytes) → Bool
is_loose None = false
is_loose (Some (node (trie _ _ _) _)) = false
is_loose (Some (node chain _)) = false
is_loose (Some _) = true

-- What a workspace has: the codes go by `code` and have their last digit at the deepest depth.
module _ (F : Forms Bytes) (code : Bytes → ℕ) (deepest : ℕ) where
  -- the link is the root of a trie of rows that are none of a trie
  pub record IsRootOfLoose (l : ℕ) : Type 0 where
    pub entries : List (Entry Bytes)
    pub trie : IsCanonTo (slice_cmp nat_cmp) code deepest F l entries
    pub loose : All (λ e. is_loose (F e.link) ≡ true) entries

  -- what a row that is none of a trie may link to
  pub data IsWhole (l : ℕ) : Type 0 where
    loose_row : is_loose (F l) ≡ true → IsWhole l
    trie_root : IsRootOfLoose l → IsWhole l

  -- a row of a kind that a workspace has: the entries of a trie row at a depth agree above it, and so do those of a chain
  pub data IsKnown (l : ℕ) : Type 0 where
    known_cell : (text : Bytes) → F l ≡ Some (cell text) → IsCell text → IsKnown l
    known_vector : (n : ℕ) → n ≤ 7 → IsWell F n l → length (seq_at F n l) < 2 ^ 32 → ((k : ℕ) → 0 < count k (links_in F l) → IsWhole k) → IsKnown l
    known_trie : (left depth c : ℕ) (E : List (Entry Bytes)) → depth + suc left ≡ deepest + 1 → IsTrie (slice_cmp nat_cmp) code F (suc left) depth l E
        → All (λ e. code e.key % 2 ^ (5 * depth) ≡ c) E → (0 < depth → 2 ≤ length E) → IsKnown l
    known_chain : (c : ℕ) (es : List (Entry Bytes)) → AreChainRows F (Some l) es → IsRising (slice_cmp nat_cmp) es → All (λ e. code e.key % 2 ^ (5 * (deepest + 1)) ≡ c) es → IsKnown l
    known_pair : (k m : ℕ) → F l ≡ Some (node pair (k ∷ m ∷ [])) → IsWhole k → IsWhole m → IsKnown l
    known_state : (k m : ℕ) → F l ≡ Some (node state (k ∷ m ∷ [])) → IsWhole k → IsWhole m → IsKnown l

-- what stands at a position of a trie row: each row there is so if it is so of each entry, and of each node of two entries or more
module _ (F : Forms Bytes) (Q : ℕ → Type 0) (N : ℕ → List (Entry Bytes) → Type 0) (e n p : ℕ) (ls : List ℕ) (P : List (Entry Bytes)) where
  place-each : ((k : ℕ) → 2 ≤ length P → N k P → Q k) → IsPlace F N (place_of e n ls p) P → IsPlace F (λ k _. Q k) (place_of e n ls p) P
  place-each each stands = elim (cases_Bool (has e p)) as (λ _. IsPlace F (λ k _. Q k) (place_of e n ls p) P) [
    | inl there ↦
        let at = subst (λ q. IsPlace F N q P) (place-entry e n ls p there) stands in
        subst (λ q. IsPlace F (λ k _. Q k) q P) (sym (place-entry e n ls p there)) at
    | inr absent ↦ elim (cases_Bool (has n p)) as (λ _. IsPlace F (λ k _. Q k) (place_of e n ls p) P) [
      | inl there ↦
          let at = subst (λ q. IsPlace F N q P) (place-node e n ls p absent there) stands in
          subst (λ q. IsPlace F (λ k _. Q k) q P) (sym (place-node e n ls p absent there)) (at.0, each _ at.0 at.1)
      | inr none ↦
          let at = subst (λ q. IsPlace F N q P) (place-empty e n ls p absent none) stands in
          subst (λ q. IsPlace F (λ k _. Q k) q P) (sym (place-empty e n ls p absent none)) at
    ]
  ]

  place-entries : All (λ e. Q e.link) P → IsPlace F N (place_of e n ls p) P → All Q (entry_links (place_of e n ls p))
  place-entries all stands = elim (cases_Bool (has e p)) as (λ _. All Q (entry_links (place_of e n ls p))) [
    | inl there ↦
        let at = subst (λ q. IsPlace F N q P) (place-entry e n ls p there) stands in
        let x : ℕ = get_or ls (rank e p) 0 in
        subst (λ q. All Q (entry_links q)) (sym (place-entry e n ls p there))
        (All-cons Q x [] (All-head (λ e. Q e.link) (entry at.0 x) [] (subst (All (λ e. Q e.link)) at.1 all)) (All-nil Q))
    | inr absent ↦ elim (cases_Bool (has n p)) as (λ _. All Q (entry_links (place_of e n ls p))) [
      | inl there ↦ subst (λ q. All Q (entry_links q)) (sym (place-node e n ls p absent there)) (All-nil Q)
      | inr none ↦ subst (λ q. All Q (entry_links q)) (sym (place-empty e n ls p absent none)) (All-nil Q)
    ]
  ]

all-gathered : (Q : ℕ → Type 0) (f : ℕ → List ℕ) (n : ℕ) → ((p : ℕ) → p < n → All Q (f p)) → All Q (gather f n)
all-gathered Q f zero each = All-nil Q
all-gathered Q f (suc n) each = All-append Q (gather f n) (f n) (all-gathered Q f n (λ p low. each p (omega (arith, low)))) (each n (omega arith))

-- a key with a digit agrees above the next
digit-agree : (x depth c p : ℕ) → nat_eq (digit_at x depth) p ≡ true → x % 2 ^ (5 * depth) ≡ c → x % 2 ^ (5 * (depth + 1)) ≡ p * 2 ^ (5 * depth) + c
digit-agree x depth c p digit front =
    digit-more x depth ∙ ap (λ y. y * 2 ^ (5 * depth) + x % 2 ^ (5 * depth)) (eqb-true (digit_at x depth) p digit) ∙ ap (λ y. p * 2 ^ (5 * depth) + y) front

-- the entries with a digit agree above the next
part-agree : (code : Bytes → ℕ) (depth c p : ℕ) (E : List (Entry Bytes)) → All (λ e. code e.key % 2 ^ (5 * depth) ≡ c) E → All (λ e. code e.key % 2 ^ (5 * (depth + 1)) ≡ p * 2 ^ (5 * depth) + c) (part (slice_cmp nat_cmp) code depth p E)
part-agree code depth c p E agree = λ i d low.
    let P : List (Entry Bytes) = part (slice_cmp nat_cmp) code depth p E in
    digit-agree (code (get_or P i d).key) depth c p (filter_passes (λ e. nat_eq (digit_at (code e.key) depth) p) E i d low)
    (All-filter (λ e. nat_eq (digit_at (code e.key) depth) p) (λ e. code e.key % 2 ^ (5 * depth) ≡ c) E agree i d low)

module _ (F : Forms Bytes) (code : Bytes → ℕ) (deepest : ℕ) where
  -- so are all rows that the link reaches
  abbrev pub AllKnown : ℕ → Type 0
  AllKnown l = (m : ℕ) → Reaches (links_in F) l m → IsKnown F code deepest m

  each-known : (l m : ℕ) → Reaches (links_in F) l m → IsKnown F code deepest l → ((k : ℕ) → 0 < count k (links_in F l) → AllKnown k) → IsKnown F code deepest m
  each-known x y (here l) known each = known
  each-known x y (below l k m has down) known each = each k has m down

  all-known : (l : ℕ) → IsKnown F code deepest l → ((k : ℕ) → 0 < count k (links_in F l) → AllKnown k) → AllKnown l
  all-known l known each m down = each-known l m down known each

  -- the links of a row that is known by its form
  links-known : (l : ℕ) (kind : Kind) (ks : List ℕ) → F l ≡ Some (node kind ks) → All AllKnown ks → (k : ℕ) → 0 < count k (links_in F l) → AllKnown k
  links-known l kind ks is all k has = all-at AllKnown ks all k (omega (arith, has, ap (λ r. count k (links_of r)) is))

  -- the row may be linked to, and all that it reaches is known
  abbrev pub Covered : ℕ → Type 0
  Covered l = IsWhole F code deepest l × AllKnown l

  pub cell-known : (l : ℕ) (text : Bytes) → F l ≡ Some (cell text) → IsCell text → Covered l
  cell-known l text is line = (loose_row (ap is_loose is), all-known l (known_cell text is line) (λ k has. absurd (omega (arith, has, ap (λ r. count k (links_of r)) is))))

  pub pair-known : (l k m : ℕ) → F l ≡ Some (node pair (k ∷ m ∷ [])) → Covered k → Covered m → Covered l
  pair-known l k m is first second = (
    loose_row (ap is_loose is),
    all-known l (known_pair k m is first.0 second.0) (links-known l pair (k ∷ m ∷ []) is (All-cons AllKnown k (m ∷ []) first.1 (All-cons AllKnown m [] second.1 (All-nil AllKnown)))),
  )

  pub state-known : (l k m : ℕ) → F l ≡ Some (node state (k ∷ m ∷ [])) → Covered k → Covered m → Covered l
  state-known l k m is first second = (
    loose_row (ap is_loose is),
    all-known l (known_state k m is first.0 second.0) (links-known l state (k ∷ m ∷ []) is (All-cons AllKnown k (m ∷ []) first.1 (All-cons AllKnown m [] second.1 (All-nil AllKnown)))),
  )

  -- a part of a list of lists is no longer than the whole
  part-short : (f : ℕ → List ℕ) (ks : List ℕ) (k : ℕ) → 0 < count k ks → length (f k) ≤ length (flat_map f ks)
  part-short f [] k some = absurd (omega (arith, some))
  part-short f (x ∷ ks) k some = elim (cases_eq x k) as (λ _. length (f k) ≤ length (flat_map f (x ∷ ks))) [
    | inl same ↦ omega (arith, length-append (f x) (flat_map f ks), ap (λ j. length (f j)) same)
    | inr other ↦ omega (arith, length-append (f x) (flat_map f ks), part-short f ks k (omega (arith, some, count-cons k x ks, test_other x k other)))
  ]

  -- a row of a vector, where all its elements are known
  pub vector-known : (n l : ℕ) → n ≤ 7 → IsWell F n l → length (seq_at F n l) < 2 ^ 32 → ((k : ℕ) → 0 < count k (seq_at F n l) → Covered k) → Covered l
  unfolding IsWell seq_at
  vector-known zero l low well short each = (loose_row (ap is_loose well.kind), all-known l (known_vector zero low well short (λ k has. (each k has).0)) (λ k has. (each k has).1))
  vector-known (suc n) l low well short each =
      let child : (k : ℕ) → 0 < count k (links_in F l) → Covered k = λ k has.
      vector-known n k (omega (arith, low)) (all-at (IsWell F n) (links_in F l) well.children k has) (omega (arith, short, part-short (seq_at F n) (links_in F l) k has))
      (λ j some. each j (flat_map-has (seq_at F n) (links_in F l) k j has some)) in
      (loose_row (ap is_loose well.kind), all-known l (known_vector (suc n) low well short (λ k has. (child k has).0)) (λ k has. (child k has).1))

  -- the rows of a chain, where all its entries are known
  chain-known : (c : ℕ) (es : List (Entry Bytes)) (o : Option ℕ) → AreChainRows F o es → IsRising (slice_cmp nat_cmp) es → All (λ e. code e.key % 2 ^ (5 * (deepest + 1)) ≡ c) es → All (λ e. AllKnown e.link) es → (l : ℕ) → o ≡ Some l → AllKnown l
  unfolding AreChainRows
  chain-known c [] o rows rising agree each l is = absurd (let none : None ≡ Some l = sym rows ∙ is in cc)
  chain-known c (e ∷ es) o rows rising agree each l is =
      let same : rows.link ≡ l = (let both : Some rows.link ≡ Some l = sym rows.here ∙ is in cc) in
      let row : F l ≡ Some (node chain (e.link ∷ option_to_list rows.next)) = ap F (sym same) ∙ rows.row in
      let rest : (m : ℕ) → rows.next ≡ Some m → AllKnown m =
      chain-known c es rows.next rows.rest rising.1 (All-tail (λ e. code e.key % 2 ^ (5 * (deepest + 1)) ≡ c) e es agree) (All-tail (λ e. AllKnown e.link) e es each) in
      all-known l (known_chain c (e ∷ es) (record { link = l; next = rows.next; here = refl; row = row; key = rows.key; rest = rows.rest }) rising agree)
      (links-known l chain (e.link ∷ option_to_list rows.next) row (All-cons AllKnown e.link (option_to_list rows.next) (All-head (λ e. AllKnown e.link) e es each) (next-known rows.next rest)))
    where
      next-known : (next : Option ℕ) → ((m : ℕ) → next ≡ Some m → AllKnown m) → All AllKnown (option_to_list next)
      next-known None rest = All-nil AllKnown
      next-known (Some m) rest = All-cons AllKnown m [] (rest m refl) (All-nil AllKnown)

  -- the links of a trie row: its entries are known, and the nodes below it
  row-known : (N : ℕ → List (Entry Bytes) → Type 0) (depth l : ℕ) (E : List (Entry Bytes)) → IsTrieRow (slice_cmp nat_cmp) code F depth l E N
      → ((p k : ℕ) → 2 ≤ length (part (slice_cmp nat_cmp) code depth p E) → N k (part (slice_cmp nat_cmp) code depth p E) → AllKnown k) → All (λ e. AllKnown e.link) E → (k : ℕ) → 0 < count k (links_in F l) → AllKnown k
  row-known N depth l E is deeper each k some =
      elim (cases_lt 0 (count k (take (rank is.entries 32) is.links))) as (λ _. AllKnown k) [
        | inl own ↦ all-at AllKnown (take (rank is.entries 32) is.links) own-known k own
        | inr none ↦ all-at AllKnown (rows_below (F l)) below-known k
            (omega (arith, some, none, count-split k (rank is.entries 32) is.links, ap (λ r. count k (links_of r)) is.row.row, ap (λ r. count k (rows_below r)) is.row.row))
      ]
    where
      E-at : ℕ → List (Entry Bytes)
      E-at p = part (slice_cmp nat_cmp) code depth p E

      own-known : All AllKnown (take (rank is.entries 32) is.links)
      own-known =
          subst (All AllKnown) (sym (entries-gather is.entries is.nodes is.links is.row.sets))
          (all-gathered AllKnown (λ p. entry_links (place_of is.entries is.nodes is.links p)) 32
          (λ p low. place-entries F AllKnown N is.entries is.nodes p is.links (E-at p) (All-filter (λ e. nat_eq (digit_at (code e.key) depth) p) (λ e. AllKnown e.link) E each) (is.places p low)))

      below-known : All AllKnown (rows_below (F l))
      below-known =
          rows-all (slice_cmp nat_cmp) code F AllKnown depth l E (λ k _. AllKnown k)
          (record { entries = is.entries; nodes = is.nodes; links = is.links; row = is.row; places = λ p low. place-each F AllKnown N is.entries is.nodes p is.links (E-at p) (deeper p) (is.places p low) })
          (λ k P few known. known)

  -- a trie row, or a chain, of entries that are known
  pub trie-known : (left depth l c : ℕ) (E : List (Entry Bytes)) → depth + left ≡ deepest + 1 → IsTrie (slice_cmp nat_cmp) code F left depth l E
      → All (λ e. code e.key % 2 ^ (5 * depth) ≡ c) E → (0 < depth → 2 ≤ length E) → All (λ e. AllKnown e.link) E → AllKnown l
  unfolding IsTrie
  trie-known zero depth l c E levels is agree many each =
      let last : depth ≡ deepest + 1 = omega (arith, levels) in
      let back = same-sym is.entries E is.same in
      chain-known c is.entries (Some l) is.rows is.rising (subst (λ n. All (λ e. code e.key % 2 ^ (5 * n) ≡ c) is.entries) last (all-turned (λ e. code e.key % 2 ^ (5 * depth) ≡ c) E is.entries back agree)) (all-turned (λ e. AllKnown e.link) E is.entries back each) l refl
  trie-known (suc left) depth l c E levels is agree many each =
      all-known l (known_trie left depth c E levels is agree many)
      (row-known (λ k P. IsTrie (slice_cmp nat_cmp) code F left (suc depth) k P) depth l E is
      (λ p k two under.
      let one : depth + 1 ≡ suc depth = omega arith in
      let P : List (Entry Bytes) = part (slice_cmp nat_cmp) code depth p E in
      trie-known left (suc depth) k (p * 2 ^ (5 * depth) + c) P (omega (arith, levels)) under
      (subst (λ n. All (λ e. code e.key % 2 ^ (5 * n) ≡ p * 2 ^ (5 * depth) + c) P) one (part-agree code depth c p E agree)) (λ _. two)
      (All-filter (λ e. nat_eq (digit_at (code e.key) depth) p) (λ e. AllKnown e.link) E each))
      each)
