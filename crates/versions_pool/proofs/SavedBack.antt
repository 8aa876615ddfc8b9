-- What the document of a store reads back as.
use Rattle.std.proofs.Common.{◌≡◌, ◌≤◌, ℕ, true, cond, List, length, map, Some, None, refl, ap, ◌∙◌, arith}
use Rattle.std.specs.Prelude.{◌^◌, option_map, option_and_then}
use Rattle.std.specs.List.{list_all}
use Rattle.std.proofs.lemmas.Slice.Eq.{bytes_eq-Decides}
use Rattle.elem_core.specs.declared.codes.TheConstants.{DEEPEST}
use Rattle.serde_json.specs.Data.{Data}
use Rattle.pool_text.specs.Rows.{Bytes, is_in_range, is_between}
use Rattle.pool_text.specs.Document.{list, natural, naturals, row_value, kept_if, value_in}
use Rattle.pool_text.specs.Parsing.{numbers_between}
use Rattle.pool_text.proofs.NumbersRead.{between-true}
use Rattle.pool_text.proofs.ReadBack.{item_list-items, numbers_in-naturals, all_of-rows}
use Rattle.versions_pool.specs.Saved.{Saved, SavedValues, rise, values_read, values_in, saved_rows, saved_from, saved_in, saved_in_bytes, saved_document, value_damage, bytes_damage}
use Rattle.versions_pool.specs.Laws.{ReadsBackAs, DocumentsReadBack}
use Rattle.versions_pool.specs.declared.document.TheConstants.{STORE_VERSION}
use Rattle.versions_pool.proofs.SavedRead.{all-values, no-damage, damage-by-value, saved-by-value}

numbers-back : (ns : List ℕ) → length ns ≤ 2 ^ 50 → numbers_between 0 (2 ^ 50) (naturals ns) ≡ Some ns
numbers-back ns few =
    ap (kept_if (λ ms. is_between 0 (2 ^ 50) (length ms))) (numbers_in-naturals ns)
    ∙ ap (λ b. cond b (Some ns) None) (between-true 0 (2 ^ 50) (length ns) (omega arith) few)

module _ (format : Bytes) (s : Saved) (rises : rise s.names ≡ true) (many : length s.names ≡ length s.roots) (few : length s.names ≤ 2 ^ 50) (range : list_all is_in_range s.rows ≡ true) where
  abbrev values : SavedValues
  values = record { names = s.names; roots = s.roots; rows = map row_value s.rows; version = STORE_VERSION }

  values-are : values_read (naturals s.names) (naturals s.roots) (list (map row_value s.rows)) (natural STORE_VERSION) ≡ Some values
  values-are =
      all-values (naturals s.names) (naturals s.roots) (list (map row_value s.rows)) (natural STORE_VERSION) STORE_VERSION s.names s.roots (map row_value s.rows)
      (numbers-back s.names few) (numbers-back s.roots (omega (arith, many, few))) (ap (λ (ds : List Data). Some ds) (item_list-items (map row_value s.rows))) refl rises many

  values-back : values_in format (saved_document format s) ≡ Some values
  unfolding saved_document
  values-back = ap (λ b. cond b (values_read (naturals s.names) (naturals s.roots) (list (map row_value s.rows)) (natural STORE_VERSION)) None) ((bytes_eq-Decides format format).1 refl) ∙ values-are

  rows-back : saved_rows values ≡ Some s.rows
  rows-back = all_of-rows DEEPEST s.rows range

  same-back : saved_in format (saved_document format s) ≡ Some s
  unfolding saved_in
  same-back = ap (option_and_then saved_from) values-back ∙ ap (option_map (λ rs. record { names = s.names; roots = s.roots; rows = rs })) rows-back

  whole-back : value_damage format (saved_document format s) ≡ None
  whole-back = no-damage format (saved_document format s) values values-back refl s.rows rows-back

  pub document-back : ReadsBackAs format s
  document-back = record { same = same-back; whole = whole-back }

  module _ (bytes : Bytes) (value : value_in bytes ≡ Some (saved_document format s)) where
    pub bytes-back : saved_in_bytes format bytes ≡ Some s
    bytes-back = saved-by-value format bytes (saved_document format s) value ∙ same-back

    pub bytes-whole : bytes_damage format bytes ≡ None
    bytes-whole = damage-by-value format bytes (saved_document format s) value ∙ whole-back

pub documents-back : DocumentsReadBack
documents-back format s rises many few range = document-back format s rises many few range
