-- Which places are free once one more is taken.
use Rattle.std.proofs.Common.{◌≡◌, ◌≢◌, ℕ, zero, suc, ◌+◌, ◌<◌, Bool, true, false, ◌&&◌, ◌||◌, cond, List, [], ◌∷◌, ◌++◌, length, Some, slice_get, refl, ap, sym, ◌∙◌, arith, inl, inr}
use Rattle.std.specs.Prelude.{not, nat_eq}
use Rattle.std.specs.List.{list_any}
use Rattle.std.proofs.lemmas.Bool.{cases_eq, eq-eqb, ne_eqb}
use Rattle.std.proofs.lemmas.List.Folds.{list_any-append}
use Rattle.node_heap.specs.Links.{count}
use Rattle.node_heap.specs.Forms.{Form}
use Rattle.node_heap.proofs.Counts.{test_same, test_other, count-cons}
use Rattle.pool_text.specs.Rows.{Bytes}
use Rattle.pool_delta.specs.Forms.{same_form}
use Rattle.pool_delta.specs.Delta.{free_place}
use Rattle.pool_delta.specs.Free.{free_from}
use Rattle.pool_delta.proofs.SameForm.{forms-are}

pub zero-of : (n : ℕ) → ((m : ℕ) → n ≡ suc m → ⊥) → n ≡ 0
zero-of zero none = refl
zero-of (suc m) none = absurd (none m refl)

abbrev pub first_or : ℕ → List ℕ → ℕ
first_or d [] = d
first_or d (x ∷ xs) = x

-- the first free place is the first of these
pub free-first : (taken : List ℕ) (row : Form Bytes) (place : ℕ) (rows : List (Form Bytes)) → free_place taken row place rows ≡ first_or (place + length rows) (free_from taken row place rows)
free-first taken row place [] = omega arith
free-first taken row place (r ∷ rows) = by_test (same_form row r && not (list_any (nat_eq place) taken)) (free-first taken row (place + 1) rows)
  where
    longer : (n m : ℕ) → (n + 1) + m ≡ n + suc m
    longer n m = omega arith

    by_test : (b : Bool) → free_place taken row (place + 1) rows ≡ first_or ((place + 1) + length rows) (free_from taken row (place + 1) rows)
        → cond b place (free_place taken row (place + 1) rows) ≡ first_or (place + length (r ∷ rows)) (cond b (place ∷ free_from taken row (place + 1) rows) (free_from taken row (place + 1) rows))
    by_test true e = refl
    by_test false e = e ∙ ap (λ n. first_or n (free_from taken row (place + 1) rows)) (longer place (length rows))

-- a free place is the place of such a row
pub free-row : (taken : List ℕ) (row : Form Bytes) (place : ℕ) (rows : List (Form Bytes)) (x : ℕ) → 0 < count x (free_from taken row place rows) → (i : ℕ) × (x ≡ place + i) × (slice_get rows i ≡ Some row)
free-row taken row place [] x some = absurd (omega (arith, some))
free-row taken row place (r ∷ rows) x some = by_test (same_form row r) (not (list_any (nat_eq place) taken)) refl some (free-row taken row (place + 1) rows x)
  where
    later : (i : ℕ) × (x ≡ (place + 1) + i) × (slice_get rows i ≡ Some row) → (i : ℕ) × (x ≡ place + i) × (slice_get (r ∷ rows) i ≡ Some row)
    later found = (suc found.0, omega (arith, found.1), found.2)

    by_test : (a b : Bool) → same_form row r ≡ a → 0 < count x (cond (a && b) (place ∷ free_from taken row (place + 1) rows) (free_from taken row (place + 1) rows))
        → (0 < count x (free_from taken row (place + 1) rows) → (i : ℕ) × (x ≡ (place + 1) + i) × (slice_get rows i ≡ Some row)) → (i : ℕ) × (x ≡ place + i) × (slice_get (r ∷ rows) i ≡ Some row)
    by_test true true is some more = elim (cases_eq place x) as (λ _. (i : ℕ) × (x ≡ place + i) × (slice_get (r ∷ rows) i ≡ Some row)) [
      | inl same ↦ (0, omega (arith, same), ap Some (sym (forms-are row r is)))
      | inr other ↦ later (more (omega (arith, some, count-cons x place (free_from taken row (place + 1) rows), test_other place x other)))
    ]
    by_test true false is some more = later (more some)
    by_test false b is some more = later (more some)

-- taking a place that isn't among them leaves them
pub none-taken : (taken : List ℕ) (x : ℕ) (row : Form Bytes) (place : ℕ) (rows : List (Form Bytes)) → count x (free_from taken row place rows) ≡ 0 → free_from (taken ++ x ∷ []) row place rows ≡ free_from taken row place rows
none-taken taken x row place [] none = refl
none-taken taken x row place (r ∷ rows) none =
    by_test (same_form row r) (list_any (nat_eq place) taken) (list_any (nat_eq place) (taken ++ x ∷ [])) (list_any-append (nat_eq place) taken (x ∷ [])) none (none-taken taken x row (place + 1) rows)
  where
    by_test : (a b c : Bool) → c ≡ (b || (nat_eq place x || false)) → count x (cond (a && not b) (place ∷ free_from taken row (place + 1) rows) (free_from taken row (place + 1) rows)) ≡ 0
        → (count x (free_from taken row (place + 1) rows) ≡ 0 → free_from (taken ++ x ∷ []) row (place + 1) rows ≡ free_from taken row (place + 1) rows)
        → cond (a && not c) (place ∷ free_from (taken ++ x ∷ []) row (place + 1) rows) (free_from (taken ++ x ∷ []) row (place + 1) rows) ≡ cond (a && not b) (place ∷ free_from taken row (place + 1) rows) (free_from taken row (place + 1) rows)
    by_test false b c is none more = more none
    by_test true true c is none more = ap (λ t. cond (not t) (place ∷ free_from (taken ++ x ∷ []) row (place + 1) rows) (free_from (taken ++ x ∷ []) row (place + 1) rows)) is ∙ more none
    by_test true false c is none more =
        let other : place ≢ x = (λ same. absurd (omega (arith, none, count-cons x place (free_from taken row (place + 1) rows), test_same place x same))) in
        ap (λ t. cond (not t) (place ∷ free_from (taken ++ x ∷ []) row (place + 1) rows) (free_from (taken ++ x ∷ []) row (place + 1) rows)) (is ∙ ap (λ t. t || false) (ne_eqb place x other))
        ∙ ap (λ ys. place ∷ ys) (more (omega (arith, none, count-cons x place (free_from taken row (place + 1) rows), test_other place x other)))

-- taking the first of them leaves the others
pub first-taken : (taken : List ℕ) (x : ℕ) (xs : List ℕ) (row : Form Bytes) (place : ℕ) (rows : List (Form Bytes)) → free_from taken row place rows ≡ x ∷ xs → free_from (taken ++ x ∷ []) row place rows ≡ xs
first-taken taken x xs row place [] e = absurd (let clash : [] ≡ x ∷ xs = e in cc)
first-taken taken x xs row place (r ∷ rows) e =
    by_test (same_form row r) (list_any (nat_eq place) taken) (list_any (nat_eq place) (taken ++ x ∷ [])) (list_any-append (nat_eq place) taken (x ∷ [])) e (first-taken taken x xs row (place + 1) rows)
  where
    by_test : (a b c : Bool) → c ≡ (b || (nat_eq place x || false)) → cond (a && not b) (place ∷ free_from taken row (place + 1) rows) (free_from taken row (place + 1) rows) ≡ x ∷ xs
        → (free_from taken row (place + 1) rows ≡ x ∷ xs → free_from (taken ++ x ∷ []) row (place + 1) rows ≡ xs)
        → cond (a && not c) (place ∷ free_from (taken ++ x ∷ []) row (place + 1) rows) (free_from (taken ++ x ∷ []) row (place + 1) rows) ≡ xs
    by_test false b c is e more = more e
    by_test true true c is e more = ap (λ t. cond (not t) (place ∷ free_from (taken ++ x ∷ []) row (place + 1) rows) (free_from (taken ++ x ∷ []) row (place + 1) rows)) is ∙ more e
    by_test true false c is e more =
        let both : place ∷ free_from taken row (place + 1) rows ≡ x ∷ xs = e in
        let same : place ≡ x = cc in
        let tail : free_from taken row (place + 1) rows ≡ xs = cc in
        let absent : (n : ℕ) → count x (free_from taken row (place + 1) rows) ≡ suc n → ⊥ = (λ n many. let found = free-row taken row (place + 1) rows x (omega (arith, many)) in omega (arith, same, found.1)) in
        ap (λ t. cond (not t) (place ∷ free_from (taken ++ x ∷ []) row (place + 1) rows) (free_from (taken ++ x ∷ []) row (place + 1) rows)) (is ∙ ap (λ t. t || false) (eq-eqb place x same))
        ∙ none-taken taken x row (place + 1) rows (zero-of (count x (free_from taken row (place + 1) rows)) absent) ∙ tail
