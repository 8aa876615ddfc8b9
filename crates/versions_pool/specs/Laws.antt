-- Laws of documents of stores.
use Rattle.std.specs.Prelude.{◌≡◌, ◌≤◌, ◌^◌, true, length, Some, None}
use Rattle.std.specs.List.{list_all}
use Rattle.pool_text.specs.Rows.{Bytes, is_in_range}
use Rattle.versions_pool.specs.Saved.{Saved, rise, saved_document, saved_in, value_damage}

-- the document of a format reads back as what it says, and fails no test of the first four
pub record ReadsBackAs (format : Bytes) (s : Saved) : Type 0 where
  pub same : saved_in format (saved_document format s) ≡ Some s
  pub whole : value_damage format (saved_document format s) ≡ None

-- so it is of all names that rise, with a root for each, and rows in range
abbrev pub DocumentsReadBack : Type 0
DocumentsReadBack = (format : Bytes) (s : Saved) → rise s.names ≡ true → length s.names ≡ length s.roots → length s.names ≤ 2 ^ 50 → list_all is_in_range s.rows ≡ true → ReadsBackAs format s
