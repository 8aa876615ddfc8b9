-- The forms of rows that are read.
use Rattle.std.proofs.Common.{◌≡◌, ℕ, ◌<◌, Some, option_map, slice_get, List, map, length, get_or, refl, ap, sym, ◌∙◌, arith}
use Rattle.std.proofs.lemmas.List.{length-map}
use Rattle.std.proofs.lemmas.Option.{slice_get_read, slice_get-map}
use Rattle.node_heap.specs.Forms.{Form}
use Rattle.pool_text.specs.Rows.{Bytes, row_form}
use Rattle.pool_text.specs.declared.row.Row.{Row}

-- these rows have these forms
module _ (forms : List (Form Bytes)) (items : List Row) (are : map row_form items ≡ forms) where
  pub count-same : length items ≡ length forms
  count-same = sym (length-map items row_form) ∙ ap (λ (fs : List (Form Bytes)). length fs) are

  pub form-read : (l : ℕ) (row : Row) → l < length forms → row ≡ get_or items l row → slice_get forms l ≡ Some (row_form row)
  form-read l row low at =
      let inside : l < length items = omega (arith, low, count-same) in
      ap (λ (fs : List (Form Bytes)). slice_get fs l) (sym are) ∙ slice_get-map row_form items l ∙ ap (option_map row_form) (slice_get_read items (length items) l row refl inside at)
