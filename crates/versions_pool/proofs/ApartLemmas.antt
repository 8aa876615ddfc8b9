-- Which places of rows are those of keys, and which of values.
use Rattle.std.proofs.Common.{◌≡◌, ℕ, zero, suc, ◌<◌, ◌&&◌, Bool, true, false, List, [], ◌∷◌, ◌++◌, ◌+◌, map, length, take, get_or, set, Option, Some, None, refl, ap, sym, subst, ◌∙◌, arith, inl, inr, get_or-set_other, get_or-set_same}
use Rattle.std.specs.Prelude.{not, ◌||◌, nat_eq, replicate, slice_get}
use Rattle.std.specs.List.{All, filter_map, cons_option, list_all, list_any}
use Rattle.std.proofs.lemmas.Bool.{not-true, or_right, cases_Bool, cases_eq, eq-eqb, ne_eqb, eqb-true}
use Rattle.std.proofs.lemmas.List.{length-replicate, length-set, map_more}
use Rattle.std.proofs.lemmas.List.Elements.{All-nil, All-cons, All-head, All-tail}
use Rattle.node_heap.specs.Links.{count}
use Rattle.node_heap.specs.Forms.{Form, cell, node, leaf, inner, trie, chain, pair, state, links_of}
use Rattle.node_heap.proofs.Counts.{test_same, count-cons}
use Rattle.pool_text.specs.Rows.{Bytes, row_form}
use Rattle.pool_text.specs.declared.row.Row.{Row}
use Rattle.pool_text.specs.declared.pool.Pool.{Pool}
use Rattle.pool_check.specs.Rows.{links_lead_back}
use Rattle.pool_check.proofs.TestLemmas.{and-first, and-second, leads-down}
use Rattle.versions_pool.specs.Apart.{key_link, value_link, is_value_in, are_apart, AreLinkedInside}

-- ## Places that are apart

-- what passed a test among all
option-first : (p : ℕ → Bool) (o : Option ℕ) (ks : List ℕ) (k : ℕ) → o ≡ Some k → list_all p (cons_option o ks) ≡ true → p k ≡ true
option-first p o ks k is all = and-first (p k) (list_all p ks) (ap (λ q. list_all p (cons_option q ks)) (sym is) ∙ all)

option-later : (p : ℕ → Bool) (o : Option ℕ) (ks : List ℕ) → list_all p (cons_option o ks) ≡ true → list_all p ks ≡ true
option-later p None ks all = all
option-later p (Some j) ks all = and-second (p j) (list_all p ks) all

key-passes : (p : ℕ → Bool) (rows : List (Form Bytes)) → list_all p (filter_map key_link rows) ≡ true → (i k : ℕ) (r : Form Bytes) → slice_get rows i ≡ Some r → key_link r ≡ Some k → p k ≡ true
key-passes p [] all i k r at is = absurd cc
key-passes p (x ∷ rows) all zero k r at is =
    let both : Some x ≡ Some r = at in
    let same : x ≡ r = cc in
    option-first p (key_link x) (filter_map key_link rows) k (ap key_link same ∙ is) all
key-passes p (x ∷ rows) all (suc i) k r at is = key-passes p rows (option-later p (key_link x) (filter_map key_link rows) all) i k r at is

any-first : (p : ℕ → Bool) (o : Option ℕ) (ks : List ℕ) (k : ℕ) → o ≡ Some k → p k ≡ true → list_any p (cons_option o ks) ≡ true
any-first p o ks k is passes = ap (λ q. list_any p (cons_option q ks)) is ∙ ap (λ b. b || list_any p ks) passes

any-later : (p : ℕ → Bool) (o : Option ℕ) (ks : List ℕ) → list_any p ks ≡ true → list_any p (cons_option o ks) ≡ true
any-later p None ks some = some
any-later p (Some j) ks some = or_right (p j) (list_any p ks) some

value-found : (rows : List (Form Bytes)) (i k v : ℕ) → slice_get rows i ≡ Some (node pair (k ∷ v ∷ [])) → is_value_in rows v ≡ true
value-found [] i k v is = absurd cc
value-found (r ∷ rows) zero k v is =
    let both : Some r ≡ Some (node pair (k ∷ v ∷ [])) = is in
    let same : r ≡ node pair (k ∷ v ∷ []) = cc in
    any-first (nat_eq v) (value_link r) (filter_map value_link rows) v (ap value_link same) (eq-eqb v v refl)
value-found (r ∷ rows) (suc i) k v is = any-later (nat_eq v) (value_link r) (filter_map value_link rows) (value-found rows i k v is)

-- of a pair, the key's place is that of no value and the value's is
pub pair-sorted : (rows : List (Form Bytes)) → are_apart rows ≡ true → (i k v : ℕ) → slice_get rows i ≡ Some (node pair (k ∷ v ∷ [])) → (is_value_in rows k ≡ false) × (is_value_in rows v ≡ true)
pair-sorted rows apart i k v is = (not-true (is_value_in rows k) (key-passes (λ j. not (is_value_in rows j)) rows apart i k (node pair (k ∷ v ∷ [])) is refl), value-found rows i k v is)

-- ## Rows whose places are apart

module _ (IsKeyPlace IsValuePlace : ℕ → Type 0) (never : (k : ℕ) → IsKeyPlace k → IsValuePlace k → ⊥) where
  no-value : (k : ℕ) → IsKeyPlace k → (vs : List ℕ) → All IsValuePlace vs → list_any (nat_eq k) vs ≡ false
  no-value k is [] all = refl
  no-value k is (v ∷ vs) all = elim (cases_Bool (nat_eq k v)) as (λ _. list_any (nat_eq k) (v ∷ vs) ≡ false) [
    | inl same ↦ absurd (never k is (subst IsValuePlace (sym (eqb-true k v same)) (All-head IsValuePlace v vs all)))
    | inr other ↦ ap (λ b. b || list_any (nat_eq k) vs) other ∙ no-value k is vs (All-tail IsValuePlace v vs all)
  ]

  all-keys : (vs : List ℕ) → All IsValuePlace vs → (ks : List ℕ) → All IsKeyPlace ks → list_all (λ k. not (list_any (nat_eq k) vs)) ks ≡ true
  all-keys vs values [] all = refl
  all-keys vs values (k ∷ ks) all =
      ap (λ b. not b && list_all (λ j. not (list_any (nat_eq j) vs)) ks) (no-value k (All-head IsKeyPlace k ks all) vs values)
      ∙ all-keys vs values ks (All-tail IsKeyPlace k ks all)

  pub apart-from : (rows : List (Form Bytes)) → ((i k v : ℕ) → slice_get rows i ≡ Some (node pair (k ∷ v ∷ [])) → IsKeyPlace k × IsValuePlace v) → are_apart rows ≡ true
  apart-from rows sorted = let both = places rows sorted in all-keys (filter_map value_link rows) both.1 (filter_map key_link rows) both.0
    where
      places : (rows : List (Form Bytes)) → ((i k v : ℕ) → slice_get rows i ≡ Some (node pair (k ∷ v ∷ [])) → IsKeyPlace k × IsValuePlace v) → All IsKeyPlace (filter_map key_link rows) × All IsValuePlace (filter_map value_link rows)
      places [] sorted = (All-nil IsKeyPlace, All-nil IsValuePlace)
      places (r ∷ rs) sorted = by_form r (sorted 0) (places rs (λ i. sorted (suc i)))
        where
          by_form : (r : Form Bytes) → ((k v : ℕ) → Some r ≡ Some (node pair (k ∷ v ∷ [])) → IsKeyPlace k × IsValuePlace v) → All IsKeyPlace (filter_map key_link rs) × All IsValuePlace (filter_map value_link rs)
              → All IsKeyPlace (filter_map key_link (r ∷ rs)) × All IsValuePlace (filter_map value_link (r ∷ rs))
          by_form (cell x) first rest = rest
          by_form (node leaf links) first rest = rest
          by_form (node (inner n) links) first rest = rest
          by_form (node (trie d e n) links) first rest = rest
          by_form (node chain links) first rest = rest
          by_form (node state links) first rest = rest
          by_form (node pair []) first rest = rest
          by_form (node pair (k ∷ [])) first rest = rest
          by_form (node pair (k ∷ v ∷ [])) first rest =
              let here = first k v refl in
              (All-cons IsKeyPlace k (filter_map key_link rs) here.0 rest.0, All-cons IsValuePlace v (filter_map value_link rs) here.1 rest.1)
          by_form (node pair (k ∷ v ∷ j ∷ ks)) first rest = rest

-- ## Marks

one-value-more : (xs : List (Form Bytes)) (r : Form Bytes) (p : ℕ) → is_value_in (xs ++ r ∷ []) p ≡ (is_value_in xs p || is_value_in (r ∷ []) p)
one-value-more [] r p = refl
one-value-more (x ∷ xs) r p = by_link (value_link x) (one-value-more xs r p)
  where
    by_link : (o : Option ℕ) → is_value_in (xs ++ r ∷ []) p ≡ (is_value_in xs p || is_value_in (r ∷ []) p)
        → list_any (nat_eq p) (cons_option o (filter_map value_link (xs ++ r ∷ []))) ≡ (list_any (nat_eq p) (cons_option o (filter_map value_link xs)) || is_value_in (r ∷ []) p)
    by_link None rest = rest
    by_link (Some v) rest = ap (λ b. nat_eq p v || b) rest ∙ by_first (nat_eq p v) (is_value_in xs p) (is_value_in (r ∷ []) p)
      where
        by_first : (a b c : Bool) → (a || (b || c)) ≡ ((a || b) || c)
        by_first true b c = refl
        by_first false b c = refl

or-false : (a : Bool) → (a || false) ≡ a
or-false true = refl
or-false false = refl

-- the marks of the first rows
pub record AreMarkedOf (rows : List (Form Bytes)) (count : ℕ) (marks : List Bool) : Type 0 where
  pub many : length marks ≡ count
  pub each : (p : ℕ) → p < count → get_or marks p false ≡ is_value_in rows p

pub none-marked : (count : ℕ) (marks : List Bool) → marks ≡ replicate count false → AreMarkedOf [] count marks
none-marked count marks is = record {
  many = ap length is ∙ length-replicate count false;
  each = λ p low. ap (λ (bs : List Bool). get_or bs p false) is ∙ by_place count p;
}
  where
    by_place : (n p : ℕ) → get_or (replicate n false) p false ≡ false
    by_place zero p = refl
    by_place (suc n) zero = refl
    by_place (suc n) (suc p) = by_place n p

-- a row that is no pair
pub other-marked : (rows : List (Form Bytes)) (r : Form Bytes) (count : ℕ) (marks : List Bool) → AreMarkedOf rows count marks → value_link r ≡ None → AreMarkedOf (rows ++ r ∷ []) count marks
other-marked rows r count marks is none = record {
  many = is.many;
  each = λ p low. is.each p low ∙ sym (one-value-more rows r p ∙ ap (λ o. is_value_in rows p || list_any (nat_eq p) (cons_option o [])) none ∙ or-false (is_value_in rows p));
}

-- the value of a pair
pub pair-marked : (rows : List (Form Bytes)) (r : Form Bytes) (count v : ℕ) (marks : List Bool) → AreMarkedOf rows count marks → value_link r ≡ Some v → v < count → AreMarkedOf (rows ++ r ∷ []) count (set marks v true)
pair-marked rows r count v marks is link low = record {
  many = length-set marks v true ∙ is.many;
  each = λ p inside.
      let more : is_value_in (rows ++ r ∷ []) p ≡ (is_value_in rows p || (nat_eq p v || false)) = one-value-more rows r p ∙ ap (λ o. is_value_in rows p || list_any (nat_eq p) (cons_option o [])) link in
      elim (cases_eq p v) as (λ _. get_or (set marks v true) p false ≡ is_value_in (rows ++ r ∷ []) p) [
        | inl same ↦
            let here : get_or (set marks v true) p false ≡ true = ap (λ q. get_or (set marks v true) q false) same ∙ get_or-set_same marks v true false (omega (arith, low, is.many)) in
            here ∙ sym (more ∙ ap (λ b. is_value_in rows p || (b || false)) (eq-eqb p v same) ∙ or_right (is_value_in rows p) true refl)
        | inr other ↦
            get_or-set_other marks v p true false other ∙ is.each p inside
            ∙ sym (more ∙ ap (λ b. is_value_in rows p || (b || false)) (ne_eqb p v other) ∙ or-false (is_value_in rows p))
      ];
}

-- ## Keys without a mark

one-key-more : (p : ℕ → Bool) (xs : List (Form Bytes)) (r : Form Bytes) → list_all p (filter_map key_link (xs ++ r ∷ [])) ≡ (list_all p (filter_map key_link xs) && list_all p (filter_map key_link (r ∷ [])))
one-key-more p [] r = refl
one-key-more p (x ∷ xs) r = by_link (key_link x) (one-key-more p xs r)
  where
    by_link : (o : Option ℕ) → list_all p (filter_map key_link (xs ++ r ∷ [])) ≡ (list_all p (filter_map key_link xs) && list_all p (filter_map key_link (r ∷ [])))
        → list_all p (cons_option o (filter_map key_link (xs ++ r ∷ []))) ≡ (list_all p (cons_option o (filter_map key_link xs)) && list_all p (filter_map key_link (r ∷ [])))
    by_link None rest = rest
    by_link (Some k) rest = ap (λ b. p k && b) rest ∙ by_first (p k) (list_all p (filter_map key_link xs)) (list_all p (filter_map key_link (r ∷ [])))
      where
        by_first : (a b c : Bool) → (a && (b && c)) ≡ ((a && b) && c)
        by_first true b c = refl
        by_first false b c = refl

module _ (rows : List (Form Bytes)) where
  abbrev IsFree : ℕ → Bool
  IsFree k = not (is_value_in rows k)

  -- the first of them so far
  pub free-other : (xs : List (Form Bytes)) (r : Form Bytes) → list_all IsFree (filter_map key_link xs) ≡ true → key_link r ≡ None → list_all IsFree (filter_map key_link (xs ++ r ∷ [])) ≡ true
  free-other xs r all none = one-key-more IsFree xs r ∙ ap (λ b. b && list_all IsFree (filter_map key_link (r ∷ []))) all ∙ ap (λ o. list_all IsFree (cons_option o [])) none

  pub free-pair : (xs : List (Form Bytes)) (r : Form Bytes) (k : ℕ) → list_all IsFree (filter_map key_link xs) ≡ true → key_link r ≡ Some k → is_value_in rows k ≡ false → list_all IsFree (filter_map key_link (xs ++ r ∷ [])) ≡ true
  free-pair xs r k all link free =
      one-key-more IsFree xs r ∙ ap (λ b. b && list_all IsFree (filter_map key_link (r ∷ []))) all
      ∙ ap (λ o. list_all IsFree (cons_option o [])) link ∙ ap (λ b. not b && true) free

-- a key that is a value
pub both-found : (rows : List (Form Bytes)) (i k : ℕ) (r : Form Bytes) → slice_get rows i ≡ Some r → key_link r ≡ Some k → is_value_in rows k ≡ true → are_apart rows ≡ false
both-found rows i k r at link is = elim (cases_Bool (are_apart rows)) as (λ _. are_apart rows ≡ false) [
  | inl apart ↦ absurd (let free : is_value_in rows k ≡ false = not-true (is_value_in rows k) (key-passes (λ j. not (is_value_in rows j)) rows apart i k r at link) in let bad : true ≡ false = sym is ∙ free in cc)
  | inr both ↦ both
]

-- ## Links inside

-- a row with a link is there
row-inside : (rows : List (Form Bytes)) (i k : ℕ) → 0 < count k (links_of (slice_get rows i)) → i < length rows
row-inside [] i k has = absurd (omega (arith, has))
row-inside (r ∷ rows) zero k has = omega arith
row-inside (r ∷ rows) (suc i) k has = omega (arith, row-inside rows i k has)

-- rows that lead back lead inside
pub linked-inside : (P : Pool) → links_lead_back P ≡ true → AreLinkedInside P.rows
linked-inside P back i k has = omega (arith, leads-down P back i k has, row-inside P.rows i k has)

-- a pair's places are those of rows
pub value-inside : (rows : List (Form Bytes)) → AreLinkedInside rows → (i v : ℕ) (r : Form Bytes) → slice_get rows i ≡ Some r → value_link r ≡ Some v → v < length rows
value-inside rows inside i v r at is = inside i v (subst (λ o. 0 < count v (links_of o)) (sym at) (by_form r is))
  where
    by_form : (r : Form Bytes) → value_link r ≡ Some v → 0 < count v (links_of (Some r))
    by_form (cell x) is = absurd cc
    by_form (node leaf links) is = absurd cc
    by_form (node (inner n) links) is = absurd cc
    by_form (node (trie d e n) links) is = absurd cc
    by_form (node chain links) is = absurd cc
    by_form (node state links) is = absurd cc
    by_form (node pair []) is = absurd cc
    by_form (node pair (k ∷ [])) is = absurd cc
    by_form (node pair (k ∷ w ∷ [])) is =
        let both : Some w ≡ Some v = is in
        let same : w ≡ v = cc in
        omega (arith, count-cons v k (w ∷ []), count-cons v w [], test_same v w (sym same))
    by_form (node pair (k ∷ w ∷ j ∷ ks)) is = absurd cc

pub key-inside : (rows : List (Form Bytes)) → AreLinkedInside rows → (i k : ℕ) (r : Form Bytes) → slice_get rows i ≡ Some r → key_link r ≡ Some k → k < length rows
key-inside rows inside i k r at is = inside i k (subst (λ o. 0 < count k (links_of o)) (sym at) (by_form r is))
  where
    by_form : (r : Form Bytes) → key_link r ≡ Some k → 0 < count k (links_of (Some r))
    by_form (cell x) is = absurd cc
    by_form (node leaf links) is = absurd cc
    by_form (node (inner n) links) is = absurd cc
    by_form (node (trie d e n) links) is = absurd cc
    by_form (node chain links) is = absurd cc
    by_form (node state links) is = absurd cc
    by_form (node pair []) is = absurd cc
    by_form (node pair (j ∷ [])) is = absurd cc
    by_form (node pair (j ∷ v ∷ [])) is =
        let both : Some j ≡ Some k = is in
        let same : j ≡ k = cc in
        omega (arith, count-cons k j (v ∷ []), test_same k j (sym same))
    by_form (node pair (j ∷ v ∷ w ∷ ks)) is = absurd cc

-- the forms of one row more
pub forms-more : (rows : List Row) (i : ℕ) (row : Row) → i < length rows → row ≡ get_or rows i row → map row_form (take (i + 1) rows) ≡ map row_form (take i rows) ++ row_form row ∷ []
forms-more rows i row low is = map_more row_form rows i row low ∙ ap (λ (x : Row). map row_form (take i rows) ++ row_form x ∷ []) (sym is)
