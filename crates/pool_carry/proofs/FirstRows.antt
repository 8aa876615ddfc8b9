-- Rows of tries with every repeat but the first left out.
use Rattle.std.proofs.Common.{◌≡◌, ℕ, zero, suc, ◌+◌, ◌<◌, refl, ap, sym, subst, ◌∙◌, arith, inl, inr, Bool, true, false, cond, ◌&&◌, ◌||◌, List, [], ◌∷◌, ◌++◌, length, map, fold, get_or}
use Rattle.std.specs.Prelude.{nat_eq}
use Rattle.std.specs.List.{list_any, position_or_len}
use lib.Pointwise.{pointwise}
use Rattle.std.proofs.lemmas.Bool.{cases_eq, eqb-true, eq-eqb}
use Rattle.std.proofs.lemmas.List.{get_or_append_left, get_or_push, length-append}
use Rattle.champ_chain.specs.Entry.{Entry}
use Rattle.pool_text.specs.Rows.{Bytes}
use Rattle.pool_check.proofs.TestLemmas.{and-first, and-second, not-both}
use Rattle.pool_carry.specs.Computed.{TrieRow, same_row, with_row, first_rows}

-- Whether two rows are the same.

pub same-numbers : (xs ys : List ℕ) → pointwise nat_eq xs ys ≡ true → xs ≡ ys
same-numbers [] [] is = refl
same-numbers [] (y ∷ ys) is = absurd (not-both is)
same-numbers (x ∷ xs) [] is = absurd (not-both is)
same-numbers (x ∷ xs) (y ∷ ys) is =
    ap (λ z. z ∷ xs) (eqb-true x y (and-first (nat_eq x y) (pointwise nat_eq xs ys) is)) ∙ ap (λ zs. y ∷ zs) (same-numbers xs ys (and-second (nat_eq x y) (pointwise nat_eq xs ys) is))

pub numbers-same : (xs : List ℕ) → pointwise nat_eq xs xs ≡ true
numbers-same [] = refl
numbers-same (x ∷ xs) = ap (λ b. b && pointwise nat_eq xs xs) (eq-eqb x x refl) ∙ numbers-same xs

abbrev pub links_of_row : TrieRow → List ℕ
links_of_row r = map (λ (e : Entry Bytes). e.link) r.entries

pub same-depth : (r s : TrieRow) → same_row r s ≡ true → r.depth ≡ s.depth
same-depth r s is = eqb-true r.depth s.depth (and-first (nat_eq r.depth s.depth) (pointwise nat_eq (links_of_row r) (links_of_row s)) is)

pub same-links : (r s : TrieRow) → same_row r s ≡ true → links_of_row r ≡ links_of_row s
same-links r s is = same-numbers (links_of_row r) (links_of_row s) (and-second (nat_eq r.depth s.depth) (pointwise nat_eq (links_of_row r) (links_of_row s)) is)

pub are-same : (r s : TrieRow) → r.depth ≡ s.depth → links_of_row r ≡ links_of_row s → same_row r s ≡ true
are-same r s depth links =
    ap (λ b. b && pointwise nat_eq (links_of_row r) (links_of_row s)) (eq-eqb r.depth s.depth depth)
    ∙ ap (λ ks. pointwise nat_eq (links_of_row r) ks) (sym links) ∙ numbers-same (links_of_row r)

pub same-itself : (r : TrieRow) → same_row r r ≡ true
same-itself r = are-same r r refl refl

pub same-turned : (r s : TrieRow) → same_row r s ≡ true → same_row s r ≡ true
same-turned r s is = are-same s r (sym (same-depth r s is)) (sym (same-links r s is))

-- The first place of a row.

any-front : {X : Type 0} (p : X → Bool) (xs ys : List X) → list_any p xs ≡ true → list_any p (xs ++ ys) ≡ true
any-front p [] ys is = absurd (not-both is)
any-front p (x ∷ xs) ys is = by_test (p x) (any-front p xs ys) is
  where
    by_test : (b : Bool) → (list_any p xs ≡ true → list_any p (xs ++ ys) ≡ true) → (b || list_any p xs) ≡ true → (b || list_any p (xs ++ ys)) ≡ true
    by_test true rest is = refl
    by_test false rest is = rest is

any-last : {X : Type 0} (p : X → Bool) (xs : List X) (x : X) → p x ≡ true → list_any p (xs ++ x ∷ []) ≡ true
any-last p [] x is = ap (λ b. b || false) is
any-last p (y ∷ xs) x is = by_test (p y) (any-last p xs x is)
  where
    by_test : (b : Bool) → list_any p (xs ++ x ∷ []) ≡ true → (b || list_any p (xs ++ x ∷ [])) ≡ true
    by_test true rest = refl
    by_test false rest = rest

any-none : {X : Type 0} (p : X → Bool) (xs : List X) → list_any p xs ≡ false → (i : ℕ) (d : X) → i < length xs → p (get_or xs i d) ≡ false
any-none p [] none i d low = absurd (omega (arith, low))
any-none p (x ∷ xs) none zero d low = by_test (p x) none
  where
    by_test : (b : Bool) → (b || list_any p xs) ≡ false → b ≡ false
    by_test true is = absurd (not-both (sym is))
    by_test false is = refl
any-none p (x ∷ xs) none (suc i) d low = any-none p xs (by_test (p x) none) i d (omega (arith, low))
  where
    by_test : (b : Bool) → (b || list_any p xs) ≡ false → list_any p xs ≡ false
    by_test true is = absurd (not-both (sym is))
    by_test false is = is

-- where something passes, the first that does stands within and passes
pub position-passes : {X : Type 0} (p : X → Bool) (xs : List X) → list_any p xs ≡ true → (position_or_len p xs < length xs) × ((d : X) → p (get_or xs (position_or_len p xs) d) ≡ true)
position-passes p [] is = absurd (not-both is)
position-passes {X} p (x ∷ xs) is = by_test (p x) refl (position-passes p xs) is
  where
    by_test : (b : Bool) → p x ≡ b → (list_any p xs ≡ true → (position_or_len p xs < length xs) × ((d : X) → p (get_or xs (position_or_len p xs) d) ≡ true)) → (b || list_any p xs) ≡ true
        → (position_or_len p (x ∷ xs) < length (x ∷ xs)) × ((d : X) → p (get_or (x ∷ xs) (position_or_len p (x ∷ xs)) d) ≡ true)
    by_test true here rest is = rw here (omega arith, λ d. here)
    by_test false here rest is =
        let more = rest is in
        let next : suc (position_or_len p xs) ≡ 1 + position_or_len p xs = omega arith in
        rw here (omega (arith, more.0), λ d. subst (λ i. p (get_or (x ∷ xs) i d) ≡ true) next (more.1 d))

-- Repeats left out.

with-has : (R : List TrieRow) (r : TrieRow) → list_any (same_row r) (with_row R r) ≡ true
with-has R r = by_test (list_any (same_row r) R) refl
  where
    by_test : (b : Bool) → list_any (same_row r) R ≡ b → list_any (same_row r) (cond b R (R ++ r ∷ [])) ≡ true
    by_test true is = is
    by_test false is = any-last (same_row r) R r (same-itself r)

with-keeps : (R : List TrieRow) (r q : TrieRow) → list_any (same_row q) R ≡ true → list_any (same_row q) (with_row R r) ≡ true
with-keeps R r q is = by_test (list_any (same_row r) R)
  where
    by_test : (b : Bool) → list_any (same_row q) (cond b R (R ++ r ∷ [])) ≡ true
    by_test true = is
    by_test false = any-front (same_row q) R (r ∷ []) is

fold-keeps : (R S : List TrieRow) (q : TrieRow) → list_any (same_row q) R ≡ true → list_any (same_row q) (fold with_row R S) ≡ true
fold-keeps R [] q is = is
fold-keeps R (s ∷ S) q is = fold-keeps (with_row R s) S q (with-keeps R s q is)

-- each of these rows is as P says
abbrev pub AreAll : (TrieRow → Type 0) → List TrieRow → Type 0
AreAll P [] = Unit {0}
AreAll P (r ∷ R) = P r × AreAll P R

-- each row has the same row among the first ones
pub fold-has : (R S : List TrieRow) → AreAll (λ q. list_any (same_row q) (fold with_row R S) ≡ true) S
fold-has R [] = tt
fold-has R (s ∷ S) = (fold-keeps (with_row R s) S s (with-has R s), fold-has (with_row R s) S)

pub all-front : (P : TrieRow → Type 0) (R S : List TrieRow) → AreAll P R → AreAll P S → AreAll P (R ++ S)
all-front P [] S are these = these
all-front P (r ∷ R) S are these = (are.0, all-front P R S are.1 these)

pub all-at : (P : TrieRow → Type 0) (R : List TrieRow) → AreAll P R → (i : ℕ) (d : TrieRow) → i < length R → P (get_or R i d)
all-at P [] are i d low = absurd (omega (arith, low))
all-at P (r ∷ R) are zero d low = are.0
all-at P (r ∷ R) are (suc i) d low = all-at P R are.1 i d (omega (arith, low))

with-all : (P : TrieRow → Type 0) (R : List TrieRow) (r : TrieRow) → AreAll P R → P r → AreAll P (with_row R r)
with-all P R r are is = by_test (list_any (same_row r) R)
  where
    by_test : (b : Bool) → AreAll P (cond b R (R ++ r ∷ []))
    by_test true = are
    by_test false = all-front P R (r ∷ []) are (is, tt)

pub fold-all : (P : TrieRow → Type 0) (R S : List TrieRow) → AreAll P R → AreAll P S → AreAll P (fold with_row R S)
fold-all P R [] are these = are
fold-all P R (s ∷ S) are these = fold-all P (with_row R s) S (with-all P R s are these.0) these.1

-- no two of these rows are the same
abbrev pub AreApart : List TrieRow → Type 0
AreApart R = (i j : ℕ) (d : TrieRow) → i < length R → j < length R → same_row (get_or R i d) (get_or R j d) ≡ true → i ≡ j

with-apart : (R : List TrieRow) (r : TrieRow) → AreApart R → AreApart (with_row R r)
with-apart R r apart = by_test (list_any (same_row r) R) refl
  where
    more : length (R ++ r ∷ []) ≡ length R + 1
    more = length-append R (r ∷ [])

    by_test : (b : Bool) → list_any (same_row r) R ≡ b → AreApart (cond b R (R ++ r ∷ []))
    by_test true is = apart
    by_test false is = λ i j d low low' same. elim (cases_eq i (length R)) as (λ _. i ≡ j) [
      | inl i_last ↦ elim (cases_eq j (length R)) as (λ _. i ≡ j) [
        | inl j_last ↦ i_last ∙ sym j_last
        | inr j_front ↦ absurd (not-both (sym (any-none (same_row r) R is j d (omega (arith, low', more, j_front)))
            ∙ ap (λ q. same_row q (get_or R j d)) (sym (get_or_push R r d i (sym i_last))) ∙ ap (λ q. same_row (get_or (R ++ r ∷ []) i d) q) (sym (get_or_append_left R (r ∷ []) d j (omega (arith, low', more, j_front)))) ∙ same))
      ]
      | inr i_front ↦ elim (cases_eq j (length R)) as (λ _. i ≡ j) [
        | inl j_last ↦ absurd (not-both (sym (any-none (same_row r) R is i d (omega (arith, low, more, i_front)))
            ∙ same-turned (get_or R i d) r (ap (λ q. same_row q r) (sym (get_or_append_left R (r ∷ []) d i (omega (arith, low, more, i_front)))) ∙ ap (λ q. same_row (get_or (R ++ r ∷ []) i d) q) (sym (get_or_push R r d j (sym j_last))) ∙ same)))
        | inr j_front ↦ apart i j d (omega (arith, low, more, i_front)) (omega (arith, low', more, j_front))
            (ap (λ q. same_row q (get_or R j d)) (sym (get_or_append_left R (r ∷ []) d i (omega (arith, low, more, i_front))))
            ∙ ap (λ q. same_row (get_or (R ++ r ∷ []) i d) q) (sym (get_or_append_left R (r ∷ []) d j (omega (arith, low', more, j_front)))) ∙ same)
      ]
    ]

pub fold-apart : (R S : List TrieRow) → AreApart R → AreApart (fold with_row R S)
fold-apart R [] apart = apart
fold-apart R (s ∷ S) apart = fold-apart (with_row R s) S (with-apart R s apart)

pub first-apart : (S : List TrieRow) → AreApart (first_rows S)
first-apart S = fold-apart [] S (λ i j d low. absurd (omega (arith, low)))
