-- The tests of single rows, made over one row after another.
use Rattle.std.proofs.Common.{◌≡◌, ℕ, zero, suc, ◌+◌, ◌<◌, Bool, true, false, ◌&&◌, ltb, Some, List, [], ◌∷◌, map, length, get_or, take, refl, ap, sym, ◌∙◌, arith, add-one}
use Rattle.std.specs.List.{list_all}
use Rattle.std.proofs.lemmas.Bool.{and_from}
use Rattle.std.proofs.lemmas.List.{take-map}
use Rattle.std.proofs.lemmas.List.Folds.{list_all-map, list_all_at, list_all_more}
use Rattle.node_heap.specs.Forms.{links_of}
use Rattle.pool_text.specs.Rows.{row_form}
use Rattle.pool_text.specs.Pool.{row_count}
use Rattle.pool_text.specs.declared.pool.Pool.{Pool}
use Rattle.pool_text.specs.declared.row.Row.{Row}
use Rattle.pool_check.specs.Rows.{rows_lead_back, links_lead_back, is_line_or_node, texts_are_lines}

and-false : (a : Bool) → (a && false) ≡ false
and-false true = refl
and-false false = refl

abbrev pub leads_below : ℕ → Row → Bool
leads_below bound row = list_all (λ k. ltb k bound) (links_of (Some (row_form row)))

pub lead_back-fails : (rows : List Row) (place i bound : ℕ) (row : Row) → i < length rows → row ≡ get_or rows i row → bound ≡ place + i → false ≡ leads_below bound row → rows_lead_back place (map row_form rows) ≡ false
lead_back-fails [] place i bound row low at is fails = absurd (omega arith)
lead_back-fails (r ∷ rows) place zero bound row low at is fails =
    let same : row ≡ r = at in
    let here : place ≡ bound = omega arith in
    ap (λ b. b && rows_lead_back (suc place) (map row_form rows)) (ap (λ n. leads_below n r) here ∙ ap (leads_below bound) (sym same) ∙ sym fails)
lead_back-fails (r ∷ rows) place (suc i) bound row low at is fails =
    ap (λ b. leads_below place r && b) (lead_back-fails rows (suc place) i bound row (omega arith) at (omega arith) fails) ∙ and-false (leads_below place r)

pub lead_back-more : (rows : List Row) (place i bound : ℕ) (row : Row) → i < length rows → row ≡ get_or rows i row → bound ≡ place + i → true ≡ leads_below bound row → rows_lead_back place (map row_form (take i rows)) ≡ true → rows_lead_back place (map row_form (take (i + 1) rows)) ≡ true
lead_back-more [] place i bound row low at is passes before = absurd (omega arith)
lead_back-more (r ∷ rows) place zero bound row low at is passes before =
    let same : row ≡ r = at in
    let here : place ≡ bound = omega arith in
    ap (λ b. b && true) (ap (λ n. leads_below n r) here ∙ ap (leads_below bound) (sym same) ∙ sym passes)
lead_back-more (r ∷ rows) place (suc i) bound row low at is passes before =
    let parts = both (leads_below place r) (rows_lead_back (suc place) (map row_form (take i rows))) before in
    rw add-one
    (ap (λ b. b && rows_lead_back (suc place) (map row_form (take (suc i) rows))) parts.0
    ∙ rw add-one at (lead_back-more rows (suc place) i bound row (omega arith) at (omega arith) passes parts.1))
  where
    both : (a b : Bool) → (a && b) ≡ true → (a ≡ true) × (b ≡ true)
    both true b h = (refl, h)
    both false b h = absurd cc

pub more-lines : (rows : List Row) (i : ℕ) (row : Row) → i < length rows → row ≡ get_or rows i row → true ≡ is_line_or_node (row_form row) → list_all (λ r. is_line_or_node (row_form r)) (take i rows) ≡ true → list_all (λ r. is_line_or_node (row_form r)) (take (i + 1) rows) ≡ true
more-lines rows i row low at passes before =
    list_all_more (λ r. is_line_or_node (row_form r)) rows i row low
    ∙ and_from (list_all (λ r. is_line_or_node (row_form r)) (take i rows)) (is_line_or_node (row_form (get_or rows i row))) before (ap (λ r. is_line_or_node (row_form r)) (sym at) ∙ sym passes)

module _ (P : Pool) (rows : List Row) (are : map row_form rows ≡ P.rows) where
  first-forms : (i : ℕ) → map row_form (take i rows) ≡ take i P.rows
  first-forms i = sym (take-map row_form i rows) ∙ ap (take i) are

  pub first-lead_back : (i : ℕ) → rows_lead_back 0 (take i P.rows) ≡ true → rows_lead_back 0 (map row_form (take i rows)) ≡ true
  first-lead_back i before = ap (rows_lead_back 0) (first-forms i) ∙ before

  pub first-lines : (i : ℕ) → list_all is_line_or_node (take i P.rows) ≡ true → list_all (λ row. is_line_or_node (row_form row)) (take i rows) ≡ true
  first-lines i before = sym (list_all-map is_line_or_node row_form (take i rows)) ∙ ap (list_all is_line_or_node) (first-forms i) ∙ before

  pub no-lead_back : rows_lead_back 0 (map row_form rows) ≡ false → false ≡ links_lead_back P
  unfolding links_lead_back
  no-lead_back fails = sym (ap (λ b. b && list_all (λ k. ltb k (row_count P)) P.roots) (ap (rows_lead_back 0) (sym are) ∙ fails))

  pub all-lead_back : (roots : List ℕ) (n : ℕ) (found : Bool) → rows_lead_back 0 (map row_form rows) ≡ true → roots ≡ P.roots → n ≡ row_count P → found ≡ list_all (λ k. ltb k n) roots → found ≡ links_lead_back P
  unfolding links_lead_back
  all-lead_back roots n found passes same count is =
      is ∙ ap (λ ks. list_all (λ k. ltb k n) ks) same ∙ ap (λ m. list_all (λ k. ltb k m) P.roots) count
      ∙ sym (ap (λ b. b && list_all (λ k. ltb k (row_count P)) P.roots) (ap (rows_lead_back 0) (sym are) ∙ passes))

  lines : texts_are_lines P ≡ list_all (λ row. is_line_or_node (row_form row)) rows
  unfolding texts_are_lines
  lines = ap (list_all is_line_or_node) (sym are) ∙ list_all-map is_line_or_node row_form rows

  pub no-lines : (i : ℕ) (row : Row) → i < length rows → row ≡ get_or rows i row → false ≡ is_line_or_node (row_form row) → false ≡ texts_are_lines P
  no-lines i row low at fails =
      sym (lines ∙ list_all_at (λ r. is_line_or_node (row_form r)) rows i row low (ap (λ r. is_line_or_node (row_form r)) (sym at) ∙ sym fails))

  pub all-lines : list_all (λ row. is_line_or_node (row_form row)) rows ≡ true → true ≡ texts_are_lines P
  all-lines passes = sym (lines ∙ passes)
