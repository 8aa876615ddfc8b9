-- The pool that is computed is the carried pool.
use Rattle.std.proofs.Common.{◌≡◌, ℕ, zero, suc, ◌+◌, ◌-◌, ◌*◌, ◌<◌, ◌≤◌, refl, ap, sym, subst, ◌∙◌, arith, inl, inr, Bool, true, false, cond, List, [], ◌∷◌, append-nil, length, map, get_or, flat_map, Option, Some, None, option_map}
use Rattle.std.specs.Prelude.{slice_get, slice_index}
use Rattle.std.specs.List.{All, filter, range_with_len}
use Rattle.std.proofs.Math.Nat.{mul-le-mul_left, mul-suc}
use Rattle.std.proofs.lemmas.Bool.{cases_Bool, cases_lt, eqb-true}
use Rattle.std.proofs.lemmas.List.{length-map}
use Rattle.std.proofs.lemmas.List.Elements.{All-head, All-tail}
use Rattle.std.proofs.lemmas.List.FromFn.{get_or-map-range_with_len, get_or-range_with_len, length-range_with_len}
use Rattle.std.proofs.lemmas.Option.{slice_get-map, slice_get_within}
use Rattle.node_heap.specs.Links.{count, LeadsDown}
use Rattle.node_heap.specs.Forms.{Form, Forms, cell, node, leaf, inner, trie, chain, pair, state, links_of, links_in}
use Rattle.champ_chain.specs.Entry.{Entry, entry, key_at, SameSet, AreDistinct}
use Rattle.champ_chain.specs.Chain.{IsRising}
use Rattle.champ_chain.proofs.SetLemmas.{same-sym}
use Rattle.champ_trie.specs.Trie.{IsTrie, IsCanonTo, code_by}
use Rattle.pool_order.specs.Laws.{AreLinkedBelow}
use Rattle.pool_text.specs.Rows.{Bytes}
use Rattle.pool_text.specs.Rules.{Rules}
use Rattle.pool_text.specs.Pool.{links_from, forms_in, row_count, relink}
use Rattle.pool_text.specs.declared.pool.Pool.{Pool}
use Rattle.pool_check.specs.Tries.{entries_below}
use Rattle.pool_check.specs.Kinds.{is_trie_root}
use Rattle.pool_check.specs.Readings.{moved}
use Rattle.pool_check.proofs.TestLemmas.{not-both, leads-down, roots-low}
use Rattle.pool_check.proofs.PoolLaws.{trie-roots-canonical}
use Rattle.pool_carry.specs.Carried.{is_of_trie, AreImages, IsCarried}
use Rattle.pool_carry.specs.Computed.{TrieRow, by_key, rows_of, top_row, new_rows, image_of, images, own_row, form_of_row, rows_with, carried}
use Rattle.pool_carry.specs.Laws.{PoolsAreCarried}
use Rattle.pool_carry.proofs.AnyOrder.{canon-order}
use Rattle.pool_carry.proofs.CanonRows.{by-bytes, AreEntries, trie-is}
use Rattle.pool_carry.proofs.FirstRows.{AreAll, AreApart, links_of_row, all-front, all-at, fold-has, fold-all, first-apart}
use Rattle.pool_carry.proofs.Moved.{entry-own, key-moved, IsLowEntry, entries-low}
use Rattle.pool_carry.proofs.NewForms.{all-many, rows-named, rows-once, IsRowAt, at-own, at-rest}
use Rattle.pool_carry.proofs.NewRows.{EachEntry, each-same, by_key-same, by_key-rising, IsEntryOf, IsNewRow, rows-are}
use Rattle.pool_carry.proofs.Ranked.{EachLink, each-mapped, each-counted, counted-each, links_all, top_of, top-low, widest, row_rank, rank_in, rank-own, rank-row, IsRanked, rank-name, IsLower, row-lower}
use Rattle.pool_text.proofs.RootedBelow.{rooted-below}
use Rattle.pool_carry.proofs.RowsBelow.{IsIn, all-first, all-rest, name_in, HasBelow, flat-below, rows-below}

-- Lists.

all-each : (Q : Entry Bytes → Type 0) (E : List (Entry Bytes)) → All Q E → EachEntry Q E
all-each Q [] all = tt
all-each Q (e ∷ es) all = (All-head Q e es all, all-each Q es (All-tail Q e es all))

each-weaker : (Q S : Entry Bytes → Type 0) → ((e : Entry Bytes) → Q e → S e) → (E : List (Entry Bytes)) → EachEntry Q E → EachEntry S E
each-weaker Q S step [] each = tt
each-weaker Q S step (e ∷ es) each = (step e each.0, each-weaker Q S step es each.1)

module _ (Q : TrieRow → Type 0) (f : ℕ → List TrieRow) (test : ℕ → Bool) where
  -- what is so of the rows of each number that passes is so of all of these
  from-each : ((l : ℕ) → test l ≡ true → AreAll Q (f l)) → (ls : List ℕ) → AreAll Q (flat_map f (filter test ls))
  from-each each [] = tt
  from-each each (l ∷ ls) = by_test (test l) refl (from-each each ls)
    where
      by_test : (b : Bool) → test l ≡ b → AreAll Q (flat_map f (filter test ls)) → AreAll Q (flat_map f (cond b (l ∷ filter test ls) (filter test ls)))
      by_test true is rest = all-front Q (f l) (flat_map f (filter test ls)) (each l is) rest
      by_test false is rest = rest

  -- and the other way round
  each-from : (ls : List ℕ) → AreAll Q (flat_map f (filter test ls)) → (i l : ℕ) → i < length ls → get_or ls i 0 ≡ l → test l ≡ true → AreAll Q (f l)
  each-from [] are i l low is passes = absurd (omega (arith, low))
  each-from (k ∷ ls) are zero l low is passes = by_test (test k) refl are
    where
      by_test : (b : Bool) → test k ≡ b → AreAll Q (flat_map f (cond b (k ∷ filter test ls) (filter test ls))) → AreAll Q (f l)
      by_test true is_true are = subst (λ j. AreAll Q (f j)) is (all-first Q (f k) (flat_map f (filter test ls)) are)
      by_test false is_false are = absurd (not-both (sym is_false ∙ ap test is ∙ passes))
  each-from (k ∷ ls) are (suc i) l low is passes = each-from ls (by_test (test k) are) i l (omega (arith, low)) is passes
    where
      by_test : (b : Bool) → AreAll Q (flat_map f (cond b (k ∷ filter test ls) (filter test ls))) → AreAll Q (flat_map f (filter test ls))
      by_test true are = all-rest Q (f k) (flat_map f (filter test ls)) are
      by_test false are = are

-- Rows.

-- a row that is none of a trie is no root of one
not-root : (r : Option (Form Bytes)) → is_of_trie r ≡ false → is_trie_root r ≡ false
not-root None is = refl
not-root (Some (cell x)) is = refl
not-root (Some (node leaf ks)) is = refl
not-root (Some (node (inner height) ks)) is = refl
not-root (Some (node (trie d e n) ks)) is = absurd (not-both (sym is))
not-root (Some (node chain ks)) is = refl
not-root (Some (node pair ks)) is = refl
not-root (Some (node state ks)) is = refl

-- new links leave a row what it is
relink-of-trie : (f : ℕ → ℕ) (row : Form Bytes) → is_of_trie (Some (relink f row)) ≡ is_of_trie (Some row)
relink-of-trie f (cell x) = refl
relink-of-trie f (node leaf ks) = refl
relink-of-trie f (node (inner height) ks) = refl
relink-of-trie f (node (trie d e n) ks) = refl
relink-of-trie f (node chain ks) = refl
relink-of-trie f (node pair ks) = refl
relink-of-trie f (node state ks) = refl

root-falls : (B top j n w d : ℕ) → B ≡ w + d + 3 → top ≤ j → n ≤ w → B * top + (n + (d + 2 - 0)) ≤ B * suc j
root-falls B top j n w d is low short = omega (arith, mul-le-mul_left B low, mul-suc B j, is, short)

own-falls : (B r j l : ℕ) → 0 < B → r ≤ B * suc j → j < l → r < B * suc l
own-falls B r j l some low less =
    let next : suc j ≤ l = omega (arith, less) in
    omega (arith, mul-le-mul_left B next, mul-suc B l, low, some)

same-most : (a b : ℕ) → a ≡ b → a ≤ b
same-most a b same = omega (arith, same)

module _ (rules : Rules) (bits : ℕ) (P : Pool) (falls : LeadsDown (λ l. l) (links_in (forms_in P)))
    (distinct : (l : ℕ) → is_trie_root (forms_in P l) ≡ true → AreDistinct by-bytes (entries_below (row_count P) (forms_in P) l)) where
  abbrev N : ℕ
  N = row_count P

  abbrev F : Forms Bytes
  F = forms_in P

  abbrev code : Bytes → ℕ
  code = code_by rules.code_of bits

  abbrev R : List TrieRow
  R = new_rows rules bits P

  abbrev image : ℕ → ℕ
  image l = slice_index (images rules bits P R) l

  abbrev found : ℕ → List (Entry Bytes)
  found l = entries_below (row_count P) (forms_in P) l

  abbrev keyed : ℕ → List (Entry Bytes)
  keyed l = by_key (found l)

  root-low : (l : ℕ) → is_trie_root (F l) ≡ true → l < N
  root-low l is = by_row (F l) refl is
    where
      by_row : (r : Option (Form Bytes)) → F l ≡ r → is_trie_root r ≡ true → l < N
      by_row None at is = absurd (not-both is)
      by_row (Some row) at is = slice_get_within P.rows l row at

  -- The entries of a trie.

  keyed-same : (l : ℕ) → SameSet (keyed l) (found l)
  keyed-same l = subst (SameSet (keyed l)) (append-nil (found l)) (by_key-same (found l))

  found-low : (l : ℕ) → is_trie_root (F l) ≡ true → EachEntry (IsLowEntry F falls l) (found l)
  found-low l root = all-each (IsLowEntry F falls l) (found l) (entries-low F falls N l (root-low l root))

  keyed-low : (l : ℕ) → is_trie_root (F l) ≡ true → EachEntry (IsLowEntry F falls l) (keyed l)
  keyed-low l root = each-same (IsLowEntry F falls l) (found l) (keyed l) (same-sym _ _ (keyed-same l)) (found-low l root)

  keyed-rising : (l : ℕ) → is_trie_root (F l) ≡ true → IsRising by-bytes (keyed l)
  keyed-rising l root = by_key-rising (found l) (distinct l root)

  keyed-new : (l : ℕ) → is_trie_root (F l) ≡ true → EachEntry (IsEntryOf F N) (keyed l)
  keyed-new l root = each-weaker (IsLowEntry F falls l) (IsEntryOf F N) (λ e is. record { key = is.key; low = omega (arith, is.low, root-low l root) }) (keyed l) (keyed-low l root)

  -- The rows of all tries.

  abbrev rows_for : ℕ → List TrieRow
  rows_for l = rows_of code (suc rules.deepest) 0 (keyed l)

  abbrev is_root : ℕ → Bool
  is_root l = is_trie_root (F l)

  abbrev each_row : List TrieRow
  each_row = flat_map rows_for (filter is_root (range_with_len 0 N))

  each-in : AreAll (IsIn R) each_row
  unfolding new_rows
  each-in = fold-has [] each_row

  rows-in : (l : ℕ) → is_trie_root (F l) ≡ true → AreAll (IsIn R) (rows_for l)
  rows-in l root =
      each-from (IsIn R) rows_for is_root (range_with_len 0 N) each-in l l (omega (arith, length-range_with_len 0 N, root-low l root)) (get_or-range_with_len 0 N l 0 (root-low l root) ∙ omega arith) root

  rows-new : (l : ℕ) → is_trie_root (F l) ≡ true → AreAll (IsNewRow F N) (rows_for l)
  rows-new l root = rows-are F N code (suc rules.deepest) 0 (keyed l) (keyed-new l root) (keyed-rising l root)

  each-below : AreAll (HasBelow rules.deepest code R) each_row
  each-below = flat-below rules.deepest code R rows_for (λ l. rows-below rules.deepest code R (suc rules.deepest) 0 (keyed l) (omega arith)) (filter is_root (range_with_len 0 N)) each-in

  all-new : AreAll (IsNewRow F N) R
  unfolding new_rows
  all-new = fold-all (IsNewRow F N) [] each_row tt (from-each (IsNewRow F N) rows_for is_root rows-new (range_with_len 0 N))

  all-below : AreAll (HasBelow rules.deepest code R) R
  unfolding new_rows
  all-below = fold-all (HasBelow rules.deepest code R) [] each_row tt each-below

  all-apart : AreApart R
  unfolding new_rows
  all-apart = first-apart each_row

  top-in : (l : ℕ) → is_trie_root (F l) ≡ true → IsIn R (top_row rules bits P l)
  unfolding rows_of
  top-in l root = (rows-in l root).0

  -- Images.

  image-at : (l : ℕ) → l < N → image l ≡ image_of rules bits P R l (F l)
  image-at l low = get_or-map-range_with_len (λ k. image_of rules bits P R k (F k)) 0 N l l 0 low (omega arith)

  other-image : (l : ℕ) → l < N → is_trie_root (F l) ≡ false → image l ≡ l
  other-image l low other = image-at l low ∙ by_row (F l) other
    where
      by_row : (r : Option (Form Bytes)) → is_trie_root r ≡ false → image_of rules bits P R l r ≡ l
      by_row None is = refl
      by_row (Some (cell x)) is = refl
      by_row (Some (node leaf ks)) is = refl
      by_row (Some (node (inner height) ks)) is = refl
      by_row (Some (node (trie zero e n) ks)) is = absurd (not-both (sym is))
      by_row (Some (node (trie (suc d) e n) ks)) is = refl
      by_row (Some (node chain ks)) is = refl
      by_row (Some (node pair ks)) is = refl
      by_row (Some (node state ks)) is = refl

  own-image : (l : ℕ) → l < N → is_of_trie (F l) ≡ false → image l ≡ l
  own-image l low own = other-image l low (not-root (F l) own)

  root-image : (l : ℕ) → is_trie_root (F l) ≡ true → image l ≡ name_in N R (top_row rules bits P l)
  root-image l root = image-at l (root-low l root) ∙ by_row (F l) root
    where
      by_row : (r : Option (Form Bytes)) → is_trie_root r ≡ true → image_of rules bits P R l r ≡ name_in N R (top_row rules bits P l)
      by_row None is = absurd (not-both is)
      by_row (Some (cell x)) is = absurd (not-both is)
      by_row (Some (node leaf ks)) is = absurd (not-both is)
      by_row (Some (node (inner height) ks)) is = absurd (not-both is)
      by_row (Some (node (trie zero e n) ks)) is = refl
      by_row (Some (node (trie (suc d) e n) ks)) is = absurd (omega (arith, eqb-true (suc d) 0 is))
      by_row (Some (node chain ks)) is = absurd (not-both is)
      by_row (Some (node pair ks)) is = absurd (not-both is)
      by_row (Some (node state ks)) is = absurd (not-both is)

  entry-image : (l : ℕ) → l < N → (e : Entry Bytes) → IsLowEntry F falls l e → image e.link ≡ e.link
  entry-image l low e is = own-image e.link (omega (arith, is.low, low)) (entry-own F (F e.link) e.key is.key)

  -- The pool's own rows.

  abbrev own_rows : List (Form Bytes)
  own_rows = map (own_row rules bits P R (images rules bits P R)) P.rows

  own-many : length own_rows ≡ N
  own-many = length-map P.rows (own_row rules bits P R (images rules bits P R))

  own-get : (l : ℕ) → slice_get own_rows l ≡ option_map (own_row rules bits P R (images rules bits P R)) (F l)
  own-get l = slice_get-map (own_row rules bits P R (images rules bits P R)) P.rows l

  own-none : (l : ℕ) → is_of_trie (slice_get own_rows l) ≡ false
  own-none l = ap is_of_trie (own-get l) ∙ by_row (F l)
    where
      by_test : (row : Form Bytes) (b : Bool) → is_of_trie (Some row) ≡ b → is_of_trie (Some (cond b (node leaf []) (relink image row))) ≡ false
      by_test row true is = refl
      by_test row false is = relink-of-trie image row ∙ is

      by_row : (r : Option (Form Bytes)) → is_of_trie (option_map (own_row rules bits P R (images rules bits P R)) r) ≡ false
      by_row None = refl
      by_row (Some row) = by_test row (is_of_trie (Some row)) refl

  own-is : (l : ℕ) → is_of_trie (F l) ≡ false → slice_get own_rows l ≡ option_map (relink image) (F l)
  own-is l own = own-get l ∙ by_row (F l) own
    where
      by_row : (r : Option (Form Bytes)) → is_of_trie r ≡ false → option_map (own_row rules bits P R (images rules bits P R)) r ≡ option_map (relink image) r
      by_row None is = refl
      by_row (Some row) is = ap (λ b. Some (cond b (node leaf []) (relink image row))) is

  -- All rows.

  abbrev rows : List (Form Bytes)
  rows = rows_with rules bits P R (images rules bits P R)

  abbrev G : Forms Bytes
  G = slice_get rows

  image-own : (l : ℕ) → l < N → is_of_trie (F l) ≡ false → G (image l) ≡ option_map (relink image) (F l)
  image-own l low own = ap G (own-image l low own) ∙ at-own rules.deepest code N R F own_rows own-many all-new l low ∙ own-is l own

  entry-key : (l : ℕ) → l < N → (e : Entry Bytes) → IsLowEntry F falls l e → key_at G e.link ≡ Some e.key
  entry-key l low e is =
      ap (key_at G) (sym (entry-image l low e is)) ∙ key-moved F falls G image N image-own e.link e.key (omega (arith, is.low, low)) is.key

  are-entries : (E : List (Entry Bytes)) → EachEntry (λ e. key_at G e.link ≡ Some e.key) E → AreEntries rules.deepest code (name_in N R) G E
  are-entries [] each = tt
  are-entries (e ∷ es) each = (each.0, are-entries es each.1)

  not-moved : (E : List (Entry Bytes)) → EachEntry (λ e. image e.link ≡ e.link) E → map (moved image) E ≡ E
  not-moved [] each = refl
  not-moved (e ∷ es) each = ap (λ k. entry e.key k ∷ map (moved image) es) each.0 ∙ ap (λ ds. e ∷ ds) (not-moved es each.1)

  new-trie : (l : ℕ) → is_trie_root (F l) ≡ true → IsTrie by-bytes code G (suc rules.deepest) 0 (name_in N R (top_row rules bits P l)) (keyed l)
  new-trie l root =
      trie-is rules.deepest code (name_in N R) G (suc rules.deepest) 0 (keyed l) (omega arith)
      (are-entries (keyed l) (each-weaker (IsLowEntry F falls l) (λ e. key_at G e.link ≡ Some e.key) (entry-key l (root-low l root)) (keyed l) (keyed-low l root)))
      (keyed-rising l root) (λ none. absurd (omega (arith, none)))
      (rows-named rules.deepest code N R F own_rows own-many all-new (rows_for l) (rows-in l root) (rows-new l root))

  image-trie : (l : ℕ) → is_trie_root (F l) ≡ true → IsCanonTo by-bytes code rules.deepest G (image l) (map (moved image) (found l))
  image-trie l root =
      let stays : map (moved image) (found l) ≡ found l =
      not-moved (found l) (each-weaker (IsLowEntry F falls l) (λ e. image e.link ≡ e.link) (entry-image l (root-low l root)) (found l) (found-low l root)) in
      subst (IsCanonTo by-bytes code rules.deepest G (image l)) (sym stays)
      (subst (λ k. IsCanonTo by-bytes code rules.deepest G k (found l)) (sym (root-image l root))
      (canon-order by-bytes code G rules.deepest (name_in N R (top_row rules bits P l)) (keyed l) (found l) (keyed-same l) (new-trie l root) (distinct l root)))

  are-images : AreImages rules bits P image G
  are-images = record {
    own = image-own;
    apart = λ k l low low' own own' same. sym (own-image k low own) ∙ same ∙ own-image l low' own';
    tries = λ l low root. image-trie l root;
    once = rows-once rules.deepest code N R F own_rows own-many all-new own-none all-below all-apart;
  }

  -- Ranks.

  abbrev base : ℕ
  base = widest R + rules.deepest + 3

  abbrev rank : ℕ → ℕ
  rank = rank_in rules.deepest code N R base

  image-low : (j : ℕ) → j < N → (rank (image j) ≤ base * suc j) × (image j < N + length R)
  image-low j low = elim (cases_Bool (is_trie_root (F j))) as (λ _. (rank (image j) ≤ base * suc j) × (image j < N + length R)) [
    | inl root ↦
        let ranked : IsRanked rules.deepest code N R base (top_row rules bits P j) = rank-name rules.deepest code N R base (top_row rules bits P j) (top-in j root) in
        let under : top_of (links_all (keyed j)) ≤ j = top-low j (keyed j) (each-weaker (IsLowEntry F falls j) (λ e. e.link < j) (λ e is. is.low) (keyed j) (keyed-low j root)) in
        let least = root-falls base (top_of (links_all (keyed j))) j (length (links_all (keyed j))) (widest R) rules.deepest refl under ranked.short in
        (subst (λ k. rank k ≤ base * suc j) (sym (root-image j root)) (subst (λ n. n ≤ base * suc j) (sym ranked.rank) least), subst (λ k. k < N + length R) (sym (root-image j root)) ranked.low)
    | inr other ↦
        let at : rank (image j) ≡ base * suc j = ap rank (other-image j low other) ∙ rank-own rules.deepest code N R base j low in
        (same-most (rank (image j)) (base * suc j) at, omega (arith, other-image j low other, low))
  ]

  abbrev IsUnder : ℕ → ℕ → Type 0
  IsUnder t k = IsLower rules.deepest code N R base t k

  image-falls : (l : ℕ) → l < N → (j : ℕ) → j < l → IsUnder (base * suc l) (image j)
  image-falls l low j less = (let is = image-low j (omega (arith, low, less)) in (own-falls base (rank (image j)) j l (omega arith) is.0 less, is.1))

  own-lower : (l : ℕ) → l < N → EachLink (IsUnder (base * suc l)) (links_of (option_map (own_row rules bits P R (images rules bits P R)) (F l)))
  own-lower l low = by_row (F l) refl
    where
      by_form : (row : Form Bytes) → F l ≡ Some row → EachLink (IsUnder (base * suc l)) (links_of (Some (relink image row)))
      by_form (cell x) is = tt
      by_form (node kind ks) is =
          each-mapped (IsUnder (base * suc l)) image ks
          (counted-each (λ j. IsUnder (base * suc l) (image j)) ks (λ j there. image-falls l low j (falls l j (subst (λ r. 0 < count j (links_of r)) (sym is) there))))

      by_test : (row : Form Bytes) → F l ≡ Some row → (b : Bool) → EachLink (IsUnder (base * suc l)) (links_of (Some (cond b (node leaf []) (relink image row))))
      by_test row is true = tt
      by_test row is false = by_form row is

      by_row : (r : Option (Form Bytes)) → F l ≡ r → EachLink (IsUnder (base * suc l)) (links_of (option_map (own_row rules bits P R (images rules bits P R)) r))
      by_row None is = tt
      by_row (Some row) is = by_test row is (is_of_trie (Some row))

  abbrev IsBelow : ℕ → ℕ → Type 0
  IsBelow l k = (rank k < rank l) × (k < N + length R)

  own-linked : (l k : ℕ) → l < N → 0 < count k (links_of (G l)) → IsBelow l k
  own-linked l k low has =
      let row = at-own rules.deepest code N R F own_rows own-many all-new l low ∙ own-get l in
      let is : IsUnder (base * suc l) k =
      each-counted (IsUnder (base * suc l)) (links_of (option_map (own_row rules bits P R (images rules bits P R)) (F l))) (own-lower l low) k (subst (λ r. 0 < count k (links_of r)) row has) in
      (subst (λ t. rank k < t) (sym (rank-own rules.deepest code N R base l low)) is.0, is.1)

  none-linked : (k : ℕ) (r : Option (Form Bytes)) → r ≡ None → 0 < count k (links_of r) → ⊥
  none-linked k r is has = (let some : 0 < count k [] = subst (λ s. 0 < count k (links_of s)) is has in omega (arith, some))

  rest-linked : (l k : ℕ) → N ≤ l → 0 < count k (links_of (G l)) → IsBelow l k
  rest-linked l k past has = by_place (at-rest rules.deepest code N R F own_rows own-many all-new l past (λ nothing. none-linked k (G l) nothing has))
    where
      by_place : (i : ℕ) × IsRowAt rules.deepest code N R F own_rows own-many all-new l i → IsBelow l k
      by_place there =
          let d : TrieRow = record { depth = 0; entries = [] } in
          let r : TrieRow = get_or R there.0 d in
          let new : IsNewRow F N r = all-at (IsNewRow F N) R all-new there.0 d there.1.low in
          let lower = row-lower rules.deepest code N R base r (all-at (HasBelow rules.deepest code R) R all-below there.0 d there.1.low)
          (each-weaker (IsEntryOf F N) (λ e. e.link < N) (λ e is. is.low) r.entries new.entries) in
          let is : IsUnder (row_rank rules.deepest base r.depth (links_of_row r)) k =
          each-counted (IsUnder (row_rank rules.deepest base r.depth (links_of_row r))) (links_of (Some (form_of_row rules.deepest code (name_in N R) r))) lower k (subst (λ s. 0 < count k (links_of s)) (there.1.row d) has) in
          let at : rank l ≡ row_rank rules.deepest base r.depth (links_of_row r) = ap rank there.1.place ∙ rank-row rules.deepest code N R base there.0 d there.1.low in
          (subst (λ t. rank k < t) (sym at) is.0, is.1)

  row-linked : (l k : ℕ) → 0 < count k (links_of (G l)) → IsBelow l k
  row-linked l k has = elim (cases_lt l N) as (λ _. IsBelow l k) [
    | inl low ↦ own-linked l k low has
    | inr past ↦ rest-linked l k past has
  ]

  rows-many : length rows ≡ N + length R
  rows-many = all-many rules.deepest code N R F own_rows own-many all-new

  rows-linked : AreLinkedBelow (length rows) (links_from rows)
  rows-linked = record { rank = rank; falls = λ l k has. (row-linked l k has).0; inside = λ l k has. subst (λ n. k < n) (sym rows-many) (row-linked l k has).1 }

  tops-low : ((r : ℕ) → 0 < count r P.roots → r < N) → (r : ℕ) → 0 < count r (map image P.roots) → r < length rows
  tops-low low r root =
      each-counted (λ k. k < length rows) (map image P.roots)
      (each-mapped (λ k. k < length rows) image P.roots (counted-each (λ k. image k < length rows) P.roots (λ k there. subst (λ n. image k < n) (sym rows-many) (image-low k (low k there)).1))) r root

  pub is-carried : ((r : ℕ) → 0 < count r P.roots → r < N) → IsCarried rules bits P (carried rules bits P)
  unfolding carried
  is-carried low = record {
    image = image;
    forms = G;
    many = length rows;
    images = are-images;
    rooted = rooted-below rows rows-linked (map image P.roots) (tops-low low);
    same = refl;
  }

pub pools-carried : PoolsAreCarried
pools-carried from rules bits P valid =
    is-carried rules bits P (leads-down P valid.lead_back) (λ l root. (trie-roots-canonical P valid l root).distinct) (roots-low P valid.lead_back)
