-- Where the first free place of a row is.
use Rattle.std.proofs.Common.{◌≡◌, ◌⊎◌, ℕ, suc, ◌+◌, ◌<◌, Bool, true, false, ◌&&◌, cond, List, [], ◌∷◌, length, Some, slice_get, refl, ap, sym, arith, inl, inr}
use Rattle.std.specs.Prelude.{not, nat_eq}
use Rattle.std.specs.List.{list_any}
use Rattle.std.proofs.lemmas.Bool.{both_ways}
use Rattle.node_heap.specs.Forms.{Form}
use Rattle.pool_text.specs.Rows.{Bytes}
use Rattle.pool_check.proofs.TestLemmas.{and-first, and-second}
use Rattle.pool_delta.specs.Forms.{same_form}
use Rattle.pool_delta.specs.Delta.{free_place}
use Rattle.pool_delta.proofs.SameForm.{forms-are}

not-true : (b : Bool) → not b ≡ true → b ≡ false
not-true false h = refl
not-true true h = absurd (both_ways false refl h)

-- the place of a row that is there and not taken
pub record IsFree (taken : List ℕ) (row : Form Bytes) (rows : List (Form Bytes)) (start place : ℕ) : Type 0 where
  pub index : ℕ
  pub low : index < length rows
  pub at : place ≡ start + index
  pub row_is : slice_get rows index ≡ Some row
  pub free : list_any (nat_eq place) taken ≡ false

free-later : (taken : List ℕ) (row r : Form Bytes) (rows : List (Form Bytes)) (start place : ℕ) → IsFree taken row rows (start + 1) place → IsFree taken row (r ∷ rows) start place
free-later taken row r rows start place is = record { index = suc is.index; low = omega (arith, is.low); at = omega (arith, is.at); row_is = is.row_is; free = is.free }

pub free-place : (taken : List ℕ) (row : Form Bytes) (start : ℕ) (rows : List (Form Bytes)) → (free_place taken row start rows ≡ start + length rows) ⊎ IsFree taken row rows start (free_place taken row start rows)
free-place taken row start [] = inl (omega arith)
free-place taken row start (r ∷ rows) = by_test (same_form row r && not (list_any (nat_eq start) taken)) refl (free-place taken row (start + 1) rows)
  where
    by_test : (b : Bool) → (same_form row r && not (list_any (nat_eq start) taken)) ≡ b
        → (free_place taken row (start + 1) rows ≡ (start + 1) + length rows) ⊎ IsFree taken row rows (start + 1) (free_place taken row (start + 1) rows)
        → (cond b start (free_place taken row (start + 1) rows) ≡ start + length (r ∷ rows)) ⊎ IsFree taken row (r ∷ rows) start (cond b start (free_place taken row (start + 1) rows))
    by_test true is later = inr (record {
      index = 0;
      low = omega arith;
      at = omega arith;
      row_is = ap Some (sym (forms-are row r (and-first (same_form row r) (not (list_any (nat_eq start) taken)) is)));
      free = not-true (list_any (nat_eq start) taken) (and-second (same_form row r) (not (list_any (nat_eq start) taken)) is);
    })
    by_test false is (inl none) = inl (omega (arith, none))
    by_test false is (inr found) = inr (free-later taken row r rows start (free_place taken row (start + 1) rows) found)
