-- The document of a store, from its parts, and the text that is written of it.
use Rattle.std.proofs.Common.{◌≡◌, ◌≤◌, ℕ, false, ◌||◌, cond, List, None, Some, map, ap, sym, subst, ◌∙◌, arith}
use Rattle.std.specs.Prelude.{codes}
use Rattle.std.specs.Str.{IsUtf8}
use Rattle.std.proofs.lemmas.Str.{is_utf8-from_IsUtf8}
use Rattle.serde_json.specs.Data.{Data, string, object, member, no_members, depth}
use Rattle.serde_json.specs.Read.{read, max_depth}
use Rattle.serde_json.specs.Written.{has_float, items_have_float, compact_text}
use Rattle.serde_json.specs.View.{items_of}
use Rattle.pool_text.specs.Rows.{Bytes, row_form}
use Rattle.pool_text.specs.Document.{list, natural, naturals, row_value, value_in}
use Rattle.pool_text.specs.declared.row.Row.{Row}
use Rattle.pool_text.proofs.DocumentRows.{map-forms, naturals-no-float, rows-no-float, naturals-depth, rows-depth}
use Rattle.versions_pool.specs.Saved.{Saved, saved_document, saved_text}
use Rattle.versions_pool.specs.declared.document.TheConstants.{STORE_VERSION}

module _ (format : Bytes) (s : Saved) (d : Data) (bytes : Bytes) (same : d ≡ saved_document format s) where
  no-float : has_float (saved_document format s) ≡ false
  unfolding saved_document
  no-float =
      ap (λ b. b || (items_have_float (items_of (map natural s.roots)) || (items_have_float (items_of (map row_value s.rows)) || false))) (naturals-no-float s.names)
      ∙ ap (λ b. b || (items_have_float (items_of (map row_value s.rows)) || false)) (naturals-no-float s.roots) ∙ ap (λ b. b || false) (rows-no-float s.rows)

  shallow : depth (saved_document format s) ≤ max_depth
  unfolding saved_document
  shallow = omega (arith, naturals-depth s.names, naturals-depth s.roots, rows-depth s.rows)

  pub saved-written : (has_float d ≡ false → bytes ≡ compact_text d) → bytes ≡ saved_text format s
  saved-written written = written (ap has_float same ∙ no-float) ∙ ap compact_text same

  pub saved-reads : IsUtf8 bytes → (depth d ≤ max_depth → read bytes ≡ Some d) → value_in bytes ≡ Some (saved_document format s)
  saved-reads utf8 reads =
      ap (λ t. cond t (read bytes) None) (is_utf8-from_IsUtf8 bytes utf8)
      ∙ reads (subst (λ e. depth e ≤ max_depth) (sym same) shallow) ∙ ap Some same

-- the document of these values
abbrev pub document_with : Bytes → Data → Data → Data → Data
document_with format names roots rows =
    object (member (codes "format") (string format) (member (codes "names") names (member (codes "roots") roots
    (member (codes "rows") rows (member (codes "version") (natural STORE_VERSION) no_members)))))

module _ (format : Bytes) (s : Saved) (names roots : List ℕ) (own : List Row) (names_are : names ≡ s.names) (roots_are : roots ≡ s.roots) (rows_are : map row_form own ≡ s.rows) where
  pub document-from : (d e f : Data) → d ≡ naturals names → e ≡ naturals roots → f ≡ list (map (λ row. row_value (row_form row)) own) → document_with format d e f ≡ saved_document format s
  unfolding saved_document
  document-from d e f d_is e_is f_is =
      ap (λ x. document_with format x e f) (d_is ∙ ap naturals names_are) ∙ ap (λ x. document_with format (naturals s.names) x f) (e_is ∙ ap naturals roots_are)
      ∙ ap (document_with format (naturals s.names) (naturals s.roots)) (f_is ∙ ap list (map-forms own ∙ ap (map row_value) rows_are))
