-- The rows of a pool in the order of their places, and what is kept of each.
use Rattle.std.proofs.Common.{◌≡◌, ℕ, zero, suc, ◌+◌, ◌<◌, true, ltb, Some, None, List, [], ◌∷◌, ◌++◌, map, length, get_or, slice_get, refl, ap, sym, ◌∙◌, arith}
use Rattle.std.specs.List.{list_all}
use Rattle.std.proofs.lemmas.Bool.{and_parts}
use Rattle.std.proofs.lemmas.List.{length-map}
use Rattle.node_heap.specs.Forms.{Form, links_of}
use Rattle.pool_text.specs.Rows.{is_in_range_to, row_form}
use Rattle.pool_text.specs.Rules.{Rules}
use Rattle.pool_text.specs.Pool.{forms_in, row_count}
use Rattle.pool_text.specs.declared.pool.Pool.{Pool}
use Rattle.pool_text.specs.declared.row.Row.{Row}
use Rattle.pool_check.specs.Rows.{rows_in_range_by, rows_lead_back, links_lead_back}
use Rattle.pool_check.proofs.TestLemmas.{all-at}

-- what is kept of the first rows, and then of one more
pub kept-more : {X : Type 0} (g : ℕ → X) (xs : List X) (x : X) → ((k : ℕ) → k < length xs → slice_get xs k ≡ Some (g k)) → x ≡ g (length xs) → (k : ℕ) → k < length (xs ++ x ∷ []) → slice_get (xs ++ x ∷ []) k ≡ Some (g k)
kept-more g [] x are is zero low = ap Some is
kept-more g [] x are is (suc k) low = absurd (omega (arith, low))
kept-more g (y ∷ ys) x are is zero low = are 0 (omega arith)
kept-more g (y ∷ ys) x are is (suc k) low = kept-more (λ j. g (suc j)) ys x (λ j lt. are (suc j) (omega (arith, lt))) is k (omega (arith, low))

row-at : (rows : List Row) (i : ℕ) (row : Row) → i < length rows → row ≡ get_or rows i row → slice_get (map row_form rows) i ≡ Some (row_form row)
row-at [] i row low at = absurd (omega arith)
row-at (r ∷ rows) zero row low at = ap (λ x. Some (row_form x)) (sym at)
row-at (r ∷ rows) (suc i) row low at = row-at rows i row (omega arith) at

leads-back-at : {K : Type 0} (place : ℕ) (rows : List (Form K)) → rows_lead_back place rows ≡ true → (i bound : ℕ) (row : Form K) → bound ≡ place + i → slice_get rows i ≡ Some row → list_all (λ k. ltb k bound) (links_of (Some row)) ≡ true
leads-back-at place [] h i bound row same is = absurd (let e : None ≡ Some row = is in cc)
leads-back-at place (r ∷ rows) h zero bound row same is =
    let e : Some r ≡ Some row = is in
    let here : place ≡ bound = omega arith in
    let first = (and_parts (list_all (λ k. ltb k place) (links_of (Some r))) (rows_lead_back (suc place) rows) h).0 in
    ap (λ o. list_all (λ k. ltb k bound) (links_of o)) (sym e) ∙ ap (λ n. list_all (λ k. ltb k n) (links_of (Some r))) (sym here) ∙ first
leads-back-at place (r ∷ rows) h (suc i) bound row same is =
    leads-back-at (suc place) rows (and_parts (list_all (λ k. ltb k place) (links_of (Some r))) (rows_lead_back (suc place) rows) h).1 i bound row (omega (arith, same)) is

pub rows-many : (P : Pool) (rows : List Row) → map row_form rows ≡ P.rows → length rows ≡ row_count P
rows-many P rows are = sym (length-map rows row_form) ∙ ap (λ (forms : List (Form (List ℕ))). length forms) are

-- a row of a pool that was read at its place
module _ (P : Pool) (rows : List Row) (are : map row_form rows ≡ P.rows) (i : ℕ) (row : Row) (low : i < length rows) (at : row ≡ get_or rows i row) where
  pub count-at : i < row_count P
  count-at = omega (arith, length-map rows row_form, ap (λ (forms : List (Form (List ℕ))). length forms) are)

  pub form-at : forms_in P i ≡ Some (row_form row)
  form-at = ap (λ (forms : List (Form (List ℕ))). slice_get forms i) (sym are) ∙ row-at rows i row low at

  pub range-at : (rules : Rules) → rows_in_range_by rules P ≡ true → is_in_range_to rules.deepest (row_form row) ≡ true
  unfolding rows_in_range_by
  range-at rules h = all-at (is_in_range_to rules.deepest) P.rows h i (row_form row) form-at

  pub links-at : links_lead_back P ≡ true → (bound : ℕ) → bound ≡ i → list_all (λ k. ltb k bound) (links_of (Some (row_form row))) ≡ true
  unfolding links_lead_back
  links-at h bound same =
      leads-back-at 0 P.rows (and_parts (rows_lead_back 0 P.rows) (list_all (λ k. ltb k (row_count P)) P.roots) h).0 i bound (row_form row) (omega (arith, same)) form-at

  -- the same of the row by its kind
  module _ (given : Row) (is : row ≡ given) where
    pub form-is : forms_in P i ≡ Some (row_form given)
    form-is = form-at ∙ ap (λ r. Some (row_form r)) is

    pub range-is : (rules : Rules) → rows_in_range_by rules P ≡ true → is_in_range_to rules.deepest (row_form given) ≡ true
    range-is rules h = sym (ap (λ r. is_in_range_to rules.deepest (row_form r)) is) ∙ range-at rules h

    pub links-are : links_lead_back P ≡ true → (links : List ℕ) → links ≡ links_of (Some (row_form given)) → list_all (λ k. ltb k i) links ≡ true
    links-are h links same = ap (λ ks. list_all (λ k. ltb k i) ks) same ∙ sym (ap (λ r. list_all (λ k. ltb k i) (links_of (Some (row_form r)))) is) ∙ links-at h i refl
