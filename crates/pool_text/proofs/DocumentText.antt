-- The document of a pool from its parts, and the text that is written of it.
use Rattle.std.proofs.Common.{◌≡◌, ◌≤◌, false, cond, None, Some, map, ap, sym, subst, ◌∙◌}
use Rattle.std.proofs.lemmas.Str.{is_utf8-from_IsUtf8}
use Rattle.std.specs.Prelude.{codes}
use Rattle.std.specs.Str.{IsUtf8}
use Rattle.serde_json.specs.Data.{Data, string, object, member, no_members, depth}
use Rattle.serde_json.specs.Read.{read, max_depth}
use Rattle.serde_json.specs.Written.{has_float, compact_text}
use Rattle.pool_text.specs.Rows.{Bytes}
use Rattle.pool_text.specs.Document.{list, natural, naturals, row_value, document, text, value_in}
use Rattle.pool_text.specs.declared.pool.Pool.{Pool}
use Rattle.pool_text.specs.declared.rules.TheConstants.{PRESENT_VERSION}
use Rattle.pool_text.proofs.DocumentRows.{document-no-float, document-shallow}

-- the document with these roots and rows
abbrev pub document_with : Pool → Data → Data → Data
document_with P roots rows = object (member (codes "bits") (natural P.bits) (member (codes "format") (string (codes "ewig-pool")) (member (codes "history") (natural P.history) (member (codes "roots") roots (member (codes "rows") rows (member (codes "version") (natural PRESENT_VERSION) no_members))))))

pub document-from : (P : Pool) (roots rows : Data) → roots ≡ naturals P.roots → rows ≡ list (map row_value P.rows) → document_with P roots rows ≡ document P
unfolding document
document-from P roots rows roots_are rows_are = ap (λ d. document_with P d rows) roots_are ∙ ap (document_with P (naturals P.roots)) rows_are

module _ (P : Pool) (d : Data) (bytes : Bytes) (same : d ≡ document P) where
  -- what is written of a document is its text
  pub document-written : (has_float d ≡ false → bytes ≡ compact_text d) → bytes ≡ text P
  document-written written = written (ap has_float same ∙ document-no-float P) ∙ ap compact_text same

  -- and reads as the document
  pub document-read : IsUtf8 bytes → (depth d ≤ max_depth → read bytes ≡ Some d) → value_in bytes ≡ Some (document P)
  document-read utf8 reads =
      ap (λ t. cond t (read bytes) None) (is_utf8-from_IsUtf8 bytes utf8)
      ∙ reads (subst (λ e. depth e ≤ max_depth) (sym same) (document-shallow P)) ∙ ap Some same
