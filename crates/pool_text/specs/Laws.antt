-- Laws of documents.
use Rattle.std.specs.Prelude.{◌≡◌, ◌≤◌, ℕ, true, None, Some, length, IsSomeAnd}
use Rattle.std.specs.List.{list_all}
use Rattle.serde_json.specs.Data.{Data}
use Rattle.serde_json.specs.Written.{compact_text}
use Rattle.pool_text.specs.Rows.{Bytes, is_in_range}
use Rattle.pool_text.specs.Pool.{at_present_version}
use Rattle.pool_text.specs.Document.{document, text, value_in, pool_in, pool_in_bytes, value_damage, bytes_damage}
use Rattle.pool_text.specs.declared.pool.Pool.{Pool}
use Rattle.pool_text.specs.declared.rules.TheConstants.{PRESENT_VERSION, MOST_HISTORY}

-- a document reads back as its pool and has no damage, where its history is within the greatest bound, there are four roots and every
-- row is in range
pub record ReadsBackAs (P : Pool) : Type 0 where
  pub same : pool_in (document P) ≡ Some (at_present_version P)
  pub whole : value_damage P.bits (document P) ≡ None

abbrev pub ReadsBack : Type 0
ReadsBack = (P : Pool) → P.history ≤ MOST_HISTORY → length P.roots ≡ 4 → list_all is_in_range P.rows ≡ true → ReadsBackAs P

-- a value without damage, of the version that is written, is the document of the pool that it stands for
abbrev pub DocumentsAreExact : Type 0
DocumentsAreExact =
    (bits : ℕ) (d : Data) (P : Pool) → value_damage bits d ≡ None → pool_in d ≡ Some P → P.version ≡ PRESENT_VERSION → document P ≡ d

-- the bytes read as a value, and are its compact text
abbrev pub IsCompact : Bytes → Type 0
IsCompact bytes = IsSomeAnd (value_in bytes) (λ d. bytes ≡ compact_text d)

-- a compact document without damage, of the version that is written, is the text of the pool that it stands for
abbrev pub CompactDocumentsAreTexts : Type 0
CompactDocumentsAreTexts =
    (bits : ℕ) (bytes : Bytes) (P : Pool) → bytes_damage bits bytes ≡ None → pool_in_bytes bytes ≡ Some P
    → P.version ≡ PRESENT_VERSION → IsCompact bytes → text P ≡ bytes
