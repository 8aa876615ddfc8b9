-- Ranks by which the rows of new tries lead down, to their entries and to the rows below them.
use Rattle.std.proofs.Common.{◌≡◌, ℕ, zero, suc, ◌+◌, ◌-◌, ◌*◌, ◌<◌, ◌≤◌, max, refl, ap, sym, subst, ◌∙◌, arith, inl, inr, Bool, true, false, cond, List, [], ◌∷◌, ◌++◌, length, map, get_or, flat_map, Some}
use Rattle.std.specs.Prelude.{nat_eq, nat_le}
use Rattle.std.specs.List.{filter, range_with_len, position_or_len}
use Rattle.std.proofs.Math.Nat.{mul-le-mul_left}
use Rattle.std.proofs.lemmas.Bool.{cases_eq, leb-true, leb-false}
use Rattle.std.proofs.lemmas.List.{get_or-map, get_or-append-add, get_or_append_left}
use Rattle.std.proofs.lemmas.List.FromFn.{get_or-map-range_with_len, length-map-range_with_len}
use Rattle.elem_core.specs.Codes.{digit_at}
use Rattle.node_heap.specs.Links.{count}
use Rattle.node_heap.specs.Forms.{links_of}
use Rattle.node_heap.proofs.Counts.{count-cons, test_same, test_other}
use Rattle.champ_chain.specs.Entry.{Entry}
use Rattle.champ_trie.specs.Trie.{part}
use Rattle.pool_text.specs.Rows.{Bytes}
use Rattle.pool_carry.specs.Computed.{TrieRow, trie_row, same_row, of_two, single, parts, trie_form, chain_form, form_of_row}
use Rattle.pool_carry.proofs.CanonRows.{by-bytes}
use Rattle.pool_carry.proofs.FirstRows.{links_of_row, same-depth, same-links, position-passes}
use Rattle.pool_carry.proofs.NewRows.{EachEntry, each-part}
use Rattle.pool_carry.proofs.RowsBelow.{IsIn, IsPartIn, IsRestIn, EachPart, name_in, HasBelow}

-- Links, each as Q says.

abbrev pub EachLink : (ℕ → Type 0) → List ℕ → Type 0
EachLink Q [] = Unit {0}
EachLink Q (k ∷ ks) = Q k × EachLink Q ks

each-append : (Q : ℕ → Type 0) (ks ls : List ℕ) → EachLink Q ks → EachLink Q ls → EachLink Q (ks ++ ls)
each-append Q [] ls each each' = each'
each-append Q (k ∷ ks) ls each each' = (each.0, each-append Q ks ls each.1 each')

pub each-mapped : (Q : ℕ → Type 0) (f : ℕ → ℕ) (ks : List ℕ) → EachLink (λ k. Q (f k)) ks → EachLink Q (map f ks)
each-mapped Q f [] each = tt
each-mapped Q f (k ∷ ks) each = (each.0, each-mapped Q f ks each.1)

pub each-counted : (Q : ℕ → Type 0) (ks : List ℕ) → EachLink Q ks → (k : ℕ) → 0 < count k ks → Q k
each-counted Q [] each k some = absurd (omega (arith, some))
each-counted Q (x ∷ ks) each k some = elim (cases_eq x k) as (λ _. Q k) [
  | inl same ↦ subst Q same each.0
  | inr other ↦ each-counted Q ks each.1 k (omega (arith, some, count-cons k x ks, test_other x k other))
]

pub counted-each : (Q : ℕ → Type 0) (ks : List ℕ) → ((k : ℕ) → 0 < count k ks → Q k) → EachLink Q ks
counted-each Q [] each = tt
counted-each Q (k ∷ ks) each =
    (each k (omega (arith, count-cons k k ks, test_same k k refl)), counted-each Q ks (λ j there. each j (omega (arith, there, count-cons j k ks))))

-- The greatest link.

max-more : (a b c : ℕ) → b ≤ c → max a b ≤ max a c
max-more a b c more = omega (arith, more)

max-right : (a b c : ℕ) → b ≤ c → b ≤ max a c
max-right a b c more = omega (arith, more)

max-low : (a b n : ℕ) → a ≤ n → b ≤ n → max a b ≤ n
max-low a b n low low' = omega (arith, low, low')

max-first : (a b n : ℕ) → max a b ≤ n → a ≤ n
max-first a b n low = omega (arith, low)

max-second : (a b n : ℕ) → max a b ≤ n → b ≤ n
max-second a b n low = omega (arith, low)

-- one more than the greatest of these
abbrev pub top_of : List ℕ → ℕ
top_of [] = 0
top_of (k ∷ ks) = max (suc k) (top_of ks)

abbrev pub links_all : List (Entry Bytes) → List ℕ
links_all E = map (λ (e : Entry Bytes). e.link) E

-- a part of some entries has no greater links than all, and no more of them
part-top : (test : Entry Bytes → Bool) (E : List (Entry Bytes)) → top_of (links_all (filter test E)) ≤ top_of (links_all E)
part-top test [] = omega arith
part-top test (e ∷ es) = by_test (test e) (part-top test es)
  where
    by_test : (b : Bool) → top_of (links_all (filter test es)) ≤ top_of (links_all es) → top_of (links_all (cond b (e ∷ filter test es) (filter test es))) ≤ max (suc e.link) (top_of (links_all es))
    by_test true rest = max-more (suc e.link) (top_of (links_all (filter test es))) (top_of (links_all es)) rest
    by_test false rest = max-right (suc e.link) (top_of (links_all (filter test es))) (top_of (links_all es)) rest

part-length : (test : Entry Bytes → Bool) (E : List (Entry Bytes)) → length (links_all (filter test E)) ≤ length (links_all E)
part-length test [] = omega arith
part-length test (e ∷ es) = by_test (test e) (part-length test es)
  where
    by_test : (b : Bool) → length (links_all (filter test es)) ≤ length (links_all es) → length (links_all (cond b (e ∷ filter test es) (filter test es))) ≤ suc (length (links_all es))
    by_test true rest = (let more : suc (length (links_all (filter test es))) ≤ suc (length (links_all es)) = omega (arith, rest) in more)
    by_test false rest = omega (arith, rest)

pub top-low : (n : ℕ) (E : List (Entry Bytes)) → EachEntry (λ e. e.link < n) E → top_of (links_all E) ≤ n
top-low n [] each = omega arith
top-low n (e ∷ es) each = max-low (suc e.link) (top_of (links_all es)) n (omega (arith, each.0)) (top-low n es each.1)

-- an entry below N whose link is below the top
abbrev IsLow : ℕ → ℕ → Entry Bytes → Type 0
IsLow N top e = (e.link < N) × (suc e.link ≤ top)

each-low : (N n : ℕ) (E : List (Entry Bytes)) → EachEntry (λ e. e.link < N) E → top_of (links_all E) ≤ n → EachEntry (IsLow N n) E
each-low N n [] each low = tt
each-low N n (e ∷ es) each low = ((each.0, max-first (suc e.link) (top_of (links_all es)) n low), each-low N n es each.1 (max-second (suc e.link) (top_of (links_all es)) n low))

-- Ranks.

-- as many entries as all rows have
abbrev pub widest : List TrieRow → ℕ
widest [] = 0
widest (r ∷ R) = length (links_of_row r) + widest R

widest-at : (R : List TrieRow) (i : ℕ) (d : TrieRow) → i < length R → length (links_of_row (get_or R i d)) ≤ widest R
widest-at [] i d low = absurd (omega (arith, low))
widest-at (r ∷ R) zero d low = (let least : length (links_of_row r) ≤ length (links_of_row r) + widest R = omega arith in least)
widest-at (r ∷ R) (suc i) d low = (let rest = widest-at R i d (omega (arith, low)) in let more : length (links_of_row (get_or R i d)) ≤ length (links_of_row r) + widest R = omega (arith, rest) in more)

-- the rank of a row of a trie
abbrev pub row_rank : ℕ → ℕ → ℕ → List ℕ → ℕ
row_rank deepest B depth ks = B * top_of ks + (length ks + (deepest + 2 - depth))

link-falls : (B l top less : ℕ) → suc l ≤ top → 0 < less → B * suc l < B * top + less
link-falls B l top less low some = omega (arith, mul-le-mul_left B low, some)

row-falls : (B a b n m c d : ℕ) → a ≤ b → n + c < m + d → B * a + (n + c) < B * b + (m + d)
row-falls B a b n m c d low less = omega (arith, mul-le-mul_left B low, less)

module _ (deepest : ℕ) (code : Bytes → ℕ) (N : ℕ) (R : List TrieRow) (B : ℕ) where
  -- the ranks of N rows, and of these after them
  abbrev ranks_first : List ℕ
  ranks_first = map (λ k. B * suc k) (range_with_len 0 N)

  abbrev ranks_rest : List ℕ
  ranks_rest = map (λ r. row_rank deepest B r.depth (links_of_row r)) R

  abbrev pub rank_in : ℕ → ℕ
  rank_in l = get_or (ranks_first ++ ranks_rest) l 0

  first-long : length ranks_first ≡ N
  first-long = length-map-range_with_len (λ k. B * suc k) 0 N

  pub rank-own : (l : ℕ) → l < N → rank_in l ≡ B * suc l
  rank-own l low = get_or_append_left ranks_first ranks_rest 0 l (omega (arith, first-long, low)) ∙ get_or-map-range_with_len (λ k. B * suc k) 0 N l l 0 low (omega arith)

  pub rank-row : (i : ℕ) (d : TrieRow) → i < length R → rank_in (N + i) ≡ row_rank deepest B (get_or R i d).depth (links_of_row (get_or R i d))
  rank-row i d low =
      let place : N + i ≡ length ranks_first + i = omega (arith, first-long) in
      ap rank_in place ∙ get_or-append-add ranks_first ranks_rest i 0 ∙ get_or-map (λ r. row_rank deepest B r.depth (links_of_row r)) R i d 0 low

  pub record IsRanked (r : TrieRow) : Type 0 where
    pub rank : rank_in (name_in N R r) ≡ row_rank deepest B r.depth (links_of_row r)
    pub low : name_in N R r < N + length R
    pub short : length (links_of_row r) ≤ widest R

  pub rank-name : (r : TrieRow) → IsIn R r → IsRanked r
  rank-name r is =
      let i : ℕ = position_or_len (same_row r) R in
      let there = position-passes (same_row r) R is in
      let q : TrieRow = get_or R i r in
      let links : links_of_row r ≡ links_of_row (get_or R (position_or_len (same_row r) R) r) = same-links r q (there.1 r) in
      record {
        rank = rank-row i r there.0 ∙ ap (λ d. row_rank deepest B d (links_of_row q)) (sym (same-depth r q (there.1 r))) ∙ ap (row_rank deepest B r.depth) (sym links);
        low = omega (arith, there.0);
        short = omega (arith, widest-at R (position_or_len (same_row r) R) r there.0, ap length links);
      }

  -- a row below this rank
  abbrev pub IsLower : ℕ → ℕ → Type 0
  IsLower t k = (rank_in k < t) × (k < N + length R)

  link-lower : (l top less : ℕ) → l < N → suc l ≤ top → 0 < less → IsLower (B * top + less) l
  link-lower l top less low under some = (subst (λ k. k < B * top + less) (sym (rank-own l low)) (link-falls B l top less under some), omega (arith, low))

  module _ (top less : ℕ) (some : 0 < less) where
    single-lower : (P : List (Entry Bytes)) → EachEntry (IsLow N top) P → EachLink (IsLower (B * top + less)) (single P)
    single-lower [] each = tt
    single-lower (e ∷ []) each = (link-lower e.link top less each.0.0 each.0.1 some, tt)
    single-lower (e ∷ d ∷ es) each = tt

    singles-lower : (Ps : List (List (Entry Bytes))) → EachPart (EachEntry (IsLow N top)) Ps → EachLink (IsLower (B * top + less)) (flat_map single Ps)
    singles-lower [] each = tt
    singles-lower (P ∷ Ps) each = each-append (IsLower (B * top + less)) (single P) (flat_map single Ps) (single-lower P each.0) (singles-lower Ps each.1)

  abbrev IsSmall : ℕ → ℕ → List (Entry Bytes) → Type 0
  IsSmall top most P = (top_of (links_all P) ≤ top) × (length (links_all P) ≤ most)

  module _ (depth top most : ℕ) (shallow : depth ≤ deepest) where
    abbrev names_of : List (Entry Bytes) → List ℕ
    names_of P = of_two (λ Q. name_in N R (trie_row (suc depth) Q) ∷ []) P

    node-lower : (P : List (Entry Bytes)) → IsPartIn R depth P → IsSmall top most P → EachLink (IsLower (B * top + (most + (deepest + 2 - depth)))) (names_of P)
    node-lower [] is small = tt
    node-lower (e ∷ []) is small = tt
    node-lower (e ∷ d ∷ es) is small =
        let r : TrieRow = trie_row (suc depth) (e ∷ d ∷ es) in
        let ranked = rank-name (trie_row (suc depth) (e ∷ d ∷ es)) is in
        let falls = row-falls B (top_of (links_all (e ∷ d ∷ es))) top (length (links_all (e ∷ d ∷ es))) most (deepest + 2 - suc depth) (deepest + 2 - depth) small.0 (omega (arith, small.1, shallow)) in
        ((subst (λ k. k < B * top + (most + (deepest + 2 - depth))) (sym ranked.rank) falls, ranked.low), tt)

    nodes-lower : (Ps : List (List (Entry Bytes))) → EachPart (IsPartIn R depth) Ps → EachPart (IsSmall top most) Ps → EachLink (IsLower (B * top + (most + (deepest + 2 - depth)))) (flat_map names_of Ps)
    nodes-lower [] are small = tt
    nodes-lower (P ∷ Ps) are small =
        each-append (IsLower (B * top + (most + (deepest + 2 - depth)))) (names_of P) (flat_map names_of Ps) (node-lower P are.0 small.0) (nodes-lower Ps are.1 small.1)

  parts-each : (Q : List (Entry Bytes) → Type 0) (depth : ℕ) (E : List (Entry Bytes)) → ((p : ℕ) → Q (part by-bytes code depth p E)) → (ps : List ℕ) → EachPart Q (map (λ p. part by-bytes code depth p E) ps)
  parts-each Q depth E each [] = tt
  parts-each Q depth E each (p ∷ ps) = (each p, parts-each Q depth E each ps)

  trie-lower : (depth : ℕ) (E : List (Entry Bytes)) → depth ≤ deepest → EachEntry (λ e. e.link < N) E → EachPart (IsPartIn R depth) (parts code depth E)
      → EachLink (IsLower (row_rank deepest B depth (links_all E))) (links_of (Some (trie_form deepest code (name_in N R) depth (parts code depth E))))
  trie-lower depth E shallow low has =
      let top : ℕ = top_of (links_all E) in
      let most : ℕ = length (links_all E) in
      let each : EachEntry (IsLow N (top_of (links_all E))) E = each-low N (top_of (links_all E)) E low (omega arith) in
      each-append (IsLower (row_rank deepest B depth (links_all E))) (flat_map single (parts code depth E)) (flat_map (names_of depth top most shallow) (parts code depth E))
      (singles-lower top (most + (deepest + 2 - depth)) (omega (arith, shallow)) (parts code depth E)
      (parts-each (EachEntry (IsLow N (top_of (links_all E)))) depth E (λ p. each-part (IsLow N (top_of (links_all E))) (λ e. nat_eq (digit_at (code e.key) depth) p) E each) (range_with_len 0 32)))
      (nodes-lower depth top most shallow (parts code depth E) has
      (parts-each (IsSmall top most) depth E (λ p. (part-top (λ e. nat_eq (digit_at (code e.key) depth) p) E, part-length (λ e. nat_eq (digit_at (code e.key) depth) p) E)) (range_with_len 0 32)))

  chain-lower : (depth : ℕ) (E : List (Entry Bytes)) → EachEntry (λ e. e.link < N) E → IsRestIn R depth E
      → EachLink (IsLower (row_rank deepest B depth (links_all E))) (links_of (Some (chain_form deepest code (name_in N R) depth E)))
  chain-lower depth [] low has = tt
  chain-lower depth (e ∷ []) low has = (link-lower e.link (top_of (links_all (e ∷ []))) (length (links_all (e ∷ [])) + (deepest + 2 - depth)) low.0 (max-first (suc e.link) 0 (max (suc e.link) 0) (omega arith)) (omega arith), tt)
  chain-lower depth (e ∷ d ∷ es) low has =
      let rest : List (Entry Bytes) = d ∷ es in
      let ranked = rank-name (trie_row depth (d ∷ es)) has in
      let top : ℕ = top_of (links_all (d ∷ es)) in
      let falls = row-falls B (top_of (links_all (d ∷ es))) (max (suc e.link) (top_of (links_all (d ∷ es)))) (length (links_all (d ∷ es))) (suc (length (links_all (d ∷ es)))) (deepest + 2 - depth) (deepest + 2 - depth)
      (max-right (suc e.link) (top_of (links_all (d ∷ es))) (top_of (links_all (d ∷ es))) (omega arith)) (omega arith) in (
        link-lower e.link (top_of (links_all (e ∷ d ∷ es))) (length (links_all (e ∷ d ∷ es)) + (deepest + 2 - depth)) low.0 (max-first (suc e.link) (top_of (links_all (d ∷ es))) (max (suc e.link) (top_of (links_all (d ∷ es)))) (omega arith)) (omega arith),
        ((subst (λ k. k < row_rank deepest B depth (links_all (e ∷ d ∷ es))) (sym ranked.rank) falls, ranked.low), tt),
      )

  -- each link of a row leads to a lower one
  pub row-lower : (r : TrieRow) → HasBelow deepest code R r → EachEntry (λ e. e.link < N) r.entries
      → EachLink (IsLower (row_rank deepest B r.depth (links_of_row r))) (links_of (Some (form_of_row deepest code (name_in N R) r)))
  row-lower r has low = by_depth (nat_le r.depth deepest) refl
    where
      by_depth : (a : Bool) → nat_le r.depth deepest ≡ a
          → EachLink (IsLower (row_rank deepest B r.depth (links_of_row r))) (links_of (Some (cond a (trie_form deepest code (name_in N R) r.depth (parts code r.depth r.entries)) (chain_form deepest code (name_in N R) r.depth r.entries))))
      by_depth true is = trie-lower r.depth r.entries (leb-true r.depth deepest is) low (has.lower (leb-true r.depth deepest is))
      by_depth false is = chain-lower r.depth r.entries low (has.rest (omega (arith, has.deep, leb-false r.depth deepest is)))
