-- Laws of valid pools.
use Rattle.std.specs.Prelude.{◌≡◌, ◌≢◌, ◌↔◌, ◌≤◌, ℕ, true, length, Some, None}
use Rattle.std.specs.Ordering.{nat_cmp}
use Rattle.std.specs.Cmp.Lexicographic.{slice_cmp}
use Rattle.rrb_core.specs.Seq.{IsWellShaped}
use Rattle.champ_trie.specs.Trie.{IsCanonTo, code_by}
use Rattle.pool_text.specs.Rows.{Bytes}
use Rattle.pool_text.specs.Rules.{Rules, bits_by}
use Rattle.pool_text.specs.Pool.{forms_in, row_count, at_present_version}
use Rattle.pool_text.specs.Document.{document, value_in, pool_in_bytes, HistoryFitsVersion}
use Rattle.pool_text.specs.declared.rules.TheConstants.{MOST_HISTORY}
use Rattle.pool_text.specs.declared.damage.Damage.TheVariants.{Memory}
use Rattle.pool_text.specs.Renaming.{IsOfItself}
use Rattle.pool_text.specs.declared.pool.Pool.{Pool}
use Rattle.pool_check.specs.Tries.{entries_below}
use Rattle.pool_check.specs.Kinds.{is_vector_root, is_trie_root}
use Rattle.pool_check.specs.Damages.{damage_by, document_damage, RowsPass, HasValidRows, IsValidBy, IsValid, IsValidByVersion}
use Rattle.pool_check.specs.Rows.{rows_in_range_by}

-- a vector root of a pool whose rows pass their tests is the root of a well-shaped vector
abbrev pub VectorRootsAreGood : Type 0
VectorRootsAreGood = (rules : Rules) (P : Pool) (l : ℕ) → rows_in_range_by rules P ≡ true → RowsPass rules P → is_vector_root (forms_in P l) ≡ true → IsWellShaped (forms_in P) l

-- a trie row of depth 0 of such a pool is the canonical trie of the entries below it
abbrev pub TrieRootsAreCanonical : Type 0
TrieRootsAreCanonical =
    (rules : Rules) (P : Pool) (l : ℕ) → rows_in_range_by rules P ≡ true → RowsPass rules P → is_trie_root (forms_in P l) ≡ true
    → IsCanonTo (slice_cmp nat_cmp) (code_by rules.code_of P.bits) rules.deepest (forms_in P) l (entries_below (row_count P) (forms_in P) l)

-- a pool has no damage exactly where it is valid
abbrev pub UndamagedIsValid : Type 0
UndamagedIsValid = (rules : Rules) (P : Pool) → (damage_by rules P ≡ None) ↔ IsValidBy rules P

-- the bytes have the pool's rows, and it is valid by the rules of its version, has four roots and keeps the bits and the history of
-- such a document
pub record IsReadAs (bits : ℕ) (P : Pool) (bytes : Bytes) : Type 0 where
  pub read : pool_in_bytes bytes ≡ Some P
  pub kept : P.bits ≡ bits_by P.version bits
  pub roots : length P.roots ≡ 4
  pub valid : IsValidByVersion P
  pub history : HistoryFitsVersion P

-- bytes without damage have the rows of a valid pool
abbrev pub UndamagedDocumentsStand : Type 0
UndamagedDocumentsStand = (bits : ℕ) (bytes : Bytes) → document_damage bits bytes ≡ None → (P : Pool) × IsReadAs bits P bytes

-- no test fails of the bytes, and this is the pool that they stand for, at the present version
pub record IsDocumentOf (P : Pool) (bytes : Bytes) : Type 0 where
  pub undamaged : document_damage P.bits bytes ≡ None
  pub read : pool_in_bytes bytes ≡ Some (at_present_version P)

-- bytes that read as the document of a valid pool of four roots, whose history is within the greatest bound, have no damage
abbrev pub ValidDocumentsAreUndamaged : Type 0
ValidDocumentsAreUndamaged = (P : Pool) (bytes : Bytes) → value_in bytes ≡ Some (document P) → P.history ≤ MOST_HISTORY → length P.roots ≡ 4 → IsValid P
    → IsDocumentOf P bytes

-- the damage of bytes is a test that they fail, and no want of memory
abbrev pub DamagesAreTests : Type 0
DamagesAreTests = (bits : ℕ) (bytes : Bytes) → document_damage bits bytes ≢ Some Memory

-- a pool of valid rows is the pool of its own rows from its roots
abbrev pub ValidIsOfItself : Type 0
ValidIsOfItself = (rules : Rules) (P : Pool) → HasValidRows rules P → IsOfItself P

-- a valid pool has valid rows
abbrev pub ValidHasValidRows : Type 0
ValidHasValidRows = (rules : Rules) (P : Pool) → IsValidBy rules P → HasValidRows rules P
