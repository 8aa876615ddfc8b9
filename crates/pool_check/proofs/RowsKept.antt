-- What is kept of the rows of a pool, one after another.
use Rattle.std.proofs.Common.{◌≡◌, ◌⊎◌, ℕ, zero, suc, ◌+◌, ◌<◌, ◌≤◌, ◌^◌, Bool, true, false, ◌&&◌, cond, Some, None, List, [], ◌∷◌, ◌++◌, map, length, length-append, get_or, slice_get, refl, ap, sym, subst, ◌∙◌, arith, inl, inr}
use Rattle.std.specs.Prelude.{nat_lt, nat_le}
use Rattle.std.specs.List.{list_all, range_with_len, All}
use Rattle.std.proofs.lemmas.Bool.{leb-true, ltb-true, cases_eq}
use Rattle.std.proofs.lemmas.Bool.Decides.{nat_tests}
use Rattle.std.proofs.lemmas.List.{length-map}
use Rattle.node_heap.specs.Links.{LeadsDown}
use Rattle.node_heap.specs.Forms.{Form, Forms, Kind, node, leaf, inner, trie, state, value_of, links_of, links_in}
use Rattle.rrb_core.proofs.LinkCounts.{all-counted}
use Rattle.champ_trie.specs.Trie.{code_by}
use Rattle.pool_text.specs.Rows.{Bytes, row_form, is_in_range_to}
use Rattle.pool_text.specs.Rules.{Rules}
use Rattle.pool_text.specs.Pool.{forms_in, row_count}
use Rattle.pool_text.specs.declared.pool.Pool.{Pool}
use Rattle.pool_text.specs.declared.row.Row.{Row}
use Rattle.pool_text.specs.declared.row.Row.TheVariants.{Leaf, Inner, State}
use Rattle.pool_check.specs.Rows.{rows_in_range_by, links_lead_back}
use Rattle.pool_check.specs.Tries.{is_canonical, tries_stand_by}
use Rattle.pool_check.specs.Keeping.{forms_at, kept_of, canonical_kept, AreKept}
use Rattle.pool_check.specs.declared.trie_row.KeptRow.{KeptRow}
use Rattle.pool_check.specs.declared.trie_row.KeptRow.TheVariants.{Other}
use Rattle.pool_check.proofs.ChainRowLemmas.{canonical-is}
use Rattle.pool_check.proofs.TestLemmas.{and-first, and-second, all-at, leads-down}
use Rattle.pool_check.proofs.TrieRowLemmas.{range-fails}

-- the form at a place
pub form-at : (rows : List Row) (i : ℕ) (row : Row) → i < length rows → row ≡ get_or rows i row → forms_at rows i ≡ Some (row_form row)
form-at [] i row low is = absurd (omega arith)
form-at (r ∷ rows) zero row low is = ap (λ x. Some (row_form x)) (sym is)
form-at (r ∷ rows) (suc i) row low is = form-at rows i row (omega arith) is

-- a cell stands at a place of a row
pub named-low : (rows : List Row) (i : ℕ) (key : Bytes) → value_of (forms_at rows i) ≡ Some key → i < length rows
named-low [] i key h = absurd (let e : None ≡ Some key = h in cc)
named-low (r ∷ rows) zero key h = omega arith
named-low (r ∷ rows) (suc i) key h = let deeper = named-low rows i key h in omega (arith, deeper)

-- the links of a row are smaller than its place
pub links-low : (F : Forms Bytes) → LeadsDown (λ l. l) (links_in F) → (l : ℕ) (kind : Kind) (ks : List ℕ) → F l ≡ Some (node kind ks) → list_all (λ k. nat_lt k l) ks ≡ true
links-low F falls l kind ks is = each ks (subst (λ xs. All (λ k. k < l) xs) (ap links_of is) (all-counted (λ k. k < l) (links_in F l) (λ k some. falls l k some)))
  where
    lt-true : (a b : ℕ) → a < b → nat_lt a b ≡ true
    lt-true a b h = grind (arith, nat_tests)

    each : (xs : List ℕ) → All (λ k. k < l) xs → list_all (λ k. nat_lt k l) xs ≡ true
    each [] h = refl
    each (x ∷ xs) h = ap (λ b. b && list_all (λ k. nat_lt k l) xs) (lt-true x l (h 0 x (omega arith))) ∙ each xs (λ i d low. h (suc i) d (omega (arith, low)))

pub first-low : (l k : ℕ) (ks : List ℕ) → list_all (λ k. nat_lt k l) (k ∷ ks) ≡ true → k < l
first-low l k ks h = ltb-true k l (and-first (nat_lt k l) (list_all (λ k. nat_lt k l) ks) h)

pub low-at : (bound : ℕ) (ks : List ℕ) (i : ℕ) → list_all (λ k. nat_lt k bound) ks ≡ true → i < length ks → get_or ks i 0 < bound
low-at bound [] i h low = absurd (omega arith)
low-at bound (k ∷ ks) zero h low = first-low bound k ks h
low-at bound (k ∷ ks) (suc i) h low = low-at bound ks i (and-second (nat_lt k bound) (list_all (λ k. nat_lt k bound) ks) h) (omega arith)

-- lists of one and of two
pub one-link : (ks : List ℕ) → 1 ≤ length ks → length ks < 2 → ks ≡ get_or ks 0 0 ∷ []
one-link [] least most = absurd (omega arith)
one-link (k ∷ []) least most = refl
one-link (k ∷ m ∷ ks) least most = absurd (omega arith)

pub two-links : (ks : List ℕ) → 2 ≤ length ks → length ks < 3 → ks ≡ get_or ks 0 0 ∷ get_or ks 1 0 ∷ []
two-links [] least most = absurd (omega arith)
two-links (k ∷ []) least most = absurd (omega arith)
two-links (k ∷ m ∷ []) least most = refl
two-links (k ∷ m ∷ j ∷ ks) least most = absurd (omega arith)

-- the ranges of a trie row
pub trie-range : (deepest : ℕ) (rows : List Row) (i depth e d : ℕ) (ks : List ℕ) → list_all (is_in_range_to deepest) (map row_form rows) ≡ true → forms_at rows i ≡ Some (node (trie depth e d) ks) → (depth ≤ deepest) × (length ks ≤ 32)
trie-range deepest rows i depth e d ks h is =
    let a : Bool = nat_le depth deepest in
    let b : Bool = nat_lt e (2 ^ 32) in
    let c : Bool = nat_lt d (2 ^ 32) in
    let r : (a && b && c && nat_le (length ks) 32) ≡ true = all-at (is_in_range_to deepest) (map row_form rows) h i (node (trie depth e d) ks) is in
    (leb-true depth deepest (and-first a b (and-first (a && b) c (and-first (a && b && c) (nat_le (length ks) 32) r))), leb-true (length ks) 32 (and-second (a && b && c) (nat_le (length ks) 32) r))

module _ (n : ℕ) (F : Forms Bytes) (code : Bytes → ℕ) (deepest : ℕ) where
  pub none-kept : LeadsDown (λ l. l) (links_in F) → (kept : List KeptRow) → kept ≡ [] → AreKept n F code deepest kept
  none-kept falls kept none =
      subst (λ xs. AreKept n F code deepest xs) (sym none) (record { falls = falls; low = omega arith; canonical = λ k low. absurd (omega (arith, low)); kept = λ k low. absurd (omega (arith, low)) })

  kept-means : (l : ℕ) (row : KeptRow) → canonical_kept n F code deepest l ≡ Some row → (is_canonical n F code deepest l (F l) ≡ true) × (kept_of n F code l (F l) ≡ row)
  unfolding canonical_kept
  kept-means l row h = by_test (is_canonical n F code deepest l (F l)) h
    where
      by_test : (b : Bool) → cond b (Some (kept_of n F code l (F l))) None ≡ Some row → (b ≡ true) × (kept_of n F code l (F l) ≡ row)
      by_test true h = let e : Some (kept_of n F code l (F l)) ≡ Some row = h in let same : kept_of n F code l (F l) ≡ row = cc in (refl, same)
      by_test false h = absurd (let e : None ≡ Some row = h in cc)

  refused-means : (l : ℕ) → canonical_kept n F code deepest l ≡ None → is_canonical n F code deepest l (F l) ≡ false
  unfolding canonical_kept
  refused-means l h = by_test (is_canonical n F code deepest l (F l)) h
    where
      by_test : (b : Bool) → cond b (Some (kept_of n F code l (F l))) None ≡ None → b ≡ false
      by_test true h = absurd (let e : Some (kept_of n F code l (F l)) ≡ None = h in cc)
      by_test false h = refl

  pub one-more : (kept : List KeptRow) (row : KeptRow) → AreKept n F code deepest kept → length kept < n → canonical_kept n F code deepest (length kept) ≡ Some row → AreKept n F code deepest (kept ++ row ∷ [])
  one-more kept row are low is = record {
    falls = are.falls;
    low = omega (arith, longer, low);
    canonical = λ k below.
        elim (cases_eq k (length kept)) as (λ _. is_canonical n F code deepest k (F k) ≡ true) [
          | inl same ↦ subst (λ j. is_canonical n F code deepest j (F j) ≡ true) (sym same) (kept-means (length kept) row is).0
          | inr other ↦ are.canonical k (omega (arith, below, longer, other))
        ];
    kept = λ k below. each kept (λ j. kept_of n F code j (F j)) are.kept (sym (kept-means (length kept) row is).1) k (omega (arith, below, longer));
  }
    where
      longer : length (kept ++ row ∷ []) ≡ length kept + 1
      longer = length-append kept (row ∷ [])

      each : (xs : List KeptRow) (f : ℕ → KeptRow) → ((k : ℕ) → k < length xs → slice_get xs k ≡ Some (f k)) → row ≡ f (length xs) → (k : ℕ) → k < length xs + 1 → slice_get (xs ++ row ∷ []) k ≡ Some (f k)
      each [] f h at zero low = ap Some at
      each [] f h at (suc k) low = absurd (omega (arith, low))
      each (x ∷ xs) f h at zero low = h 0 (omega arith)
      each (x ∷ xs) f h at (suc k) low = each xs (λ j. f (suc j)) (λ j lt. h (suc j) (omega (arith, lt))) at k (omega (arith, low))

  all-below : (q : ℕ → Bool) (a m : ℕ) → ((p : ℕ) → p < a + m → q p ≡ true) → list_all q (range_with_len a m) ≡ true
  all-below q a zero each = refl
  all-below q a (suc m) each = ap (λ b. b && list_all q (range_with_len (a + 1) m)) (each a (omega arith)) ∙ all-below q (a + 1) m (λ p low. each p (omega (arith, low)))

-- nothing is kept of a leaf, an inner row or a state
pub other-kept : (rows : List Row) (code : Bytes → ℕ) (deepest l : ℕ) (row : Row) → l < length rows → row ≡ get_or rows l row
    → ((ks : List ℕ) × (row ≡ Leaf ks)) ⊎ (((height : ℕ) × (ks : List ℕ) × (row ≡ Inner height ks)) ⊎ ((k : ℕ) × (m : ℕ) × (row ≡ State k m))) → Some Other ≡ canonical_kept (length rows) (forms_at rows) code deepest l
other-kept rows code deepest l row low at kind =
    let is = form-at rows l row low at in
    elim kind as (λ _. Some Other ≡ canonical_kept (length rows) (forms_at rows) code deepest l) [
      | inl one ↦ canonical-is (length rows) (forms_at rows) code deepest l (Some (node leaf one.0)) (is ∙ ap (λ x. Some (row_form x)) one.1) refl
      | inr more ↦ elim more as (λ _. Some Other ≡ canonical_kept (length rows) (forms_at rows) code deepest l) [
        | inl one ↦ canonical-is (length rows) (forms_at rows) code deepest l (Some (node (inner one.0) one.1)) (is ∙ ap (λ x. Some (row_form x)) one.2) refl
        | inr one ↦ canonical-is (length rows) (forms_at rows) code deepest l (Some (node state (one.0 ∷ one.1 ∷ []))) (is ∙ ap (λ x. Some (row_form x)) one.2) refl
      ]
    ]

module _ (rules : Rules) (P : Pool) (rows : List Row) (are : map row_form rows ≡ P.rows) where
  abbrev code : Bytes → ℕ
  code = code_by rules.code_of P.bits

  abbrev deepest : ℕ
  deepest = rules.deepest

  pub falls-in : links_lead_back P ≡ true → LeadsDown (λ l. l) (links_in (forms_at rows))
  falls-in h = subst (λ (fs : List (Form Bytes)). LeadsDown (λ l. l) (links_in (λ l. slice_get fs l))) (sym are) (leads-down P h)

  pub ranges-in : rows_in_range_by rules P ≡ true → list_all (is_in_range_to deepest) (map row_form rows) ≡ true
  unfolding rows_in_range_by
  ranges-in h = ap (list_all (is_in_range_to deepest)) are ∙ h

  all-stand : tries_stand_by rules P ≡ list_all (λ l. is_canonical (length rows) (forms_at rows) code deepest l (forms_at rows l)) (range_with_len 0 (length rows))
  unfolding tries_stand_by
  all-stand =
      sym (ap (λ (fs : List (Form Bytes)). list_all (λ l. is_canonical (length fs) (λ k. slice_get fs k) code deepest l (slice_get fs l)) (range_with_len 0 (length fs))) are)
      ∙ ap (λ m. list_all (λ l. is_canonical m (forms_at rows) code deepest l (forms_at rows l)) (range_with_len 0 m)) (length-map rows row_form)

  pub some-refused : (l : ℕ) → l < length rows → canonical_kept (length rows) (forms_at rows) code deepest l ≡ None → false ≡ tries_stand_by rules P
  some-refused l low h =
      sym (all-stand ∙ range-fails (λ l. is_canonical (length rows) (forms_at rows) code deepest l (forms_at rows l)) 0 (length rows) l (omega arith) (omega (arith, low)) (refused-means (length rows) (forms_at rows) code deepest l h))

  pub all-kept : (kept : List KeptRow) → AreKept (length rows) (forms_at rows) code deepest kept → length rows ≤ length kept → true ≡ tries_stand_by rules P
  all-kept kept a long =
      sym (all-stand ∙ all-below (length rows) (forms_at rows) code deepest (λ l. is_canonical (length rows) (forms_at rows) code deepest l (forms_at rows l)) 0 (length rows) (λ p low. a.canonical p (omega (arith, low, long))))

  -- what is kept of the pool's rows, and of these
  pub kept-in : (kept : List KeptRow) → AreKept (row_count P) (forms_in P) code deepest kept → AreKept (length rows) (forms_at rows) code deepest kept
  kept-in kept a =
      subst (λ m. AreKept m (forms_at rows) code deepest kept) (length-map rows row_form) (subst (λ (fs : List (Form Bytes)). AreKept (length fs) (λ l. slice_get fs l) code deepest kept) (sym are) a)

  pub kept-out : (kept : List KeptRow) → AreKept (length rows) (forms_at rows) code deepest kept → AreKept (row_count P) (forms_in P) code deepest kept
  kept-out kept a =
      subst (λ (fs : List (Form Bytes)). AreKept (length fs) (λ l. slice_get fs l) code deepest kept) are (subst (λ m. AreKept m (forms_at rows) code deepest kept) (sym (length-map rows row_form)) a)
