-- A document of a store: what it says, as a JSON value of a format and as its compact text, and the tests that it is read by.
use Rattle.std.specs.Prelude.{ℕ, Bool, true, not, ◌&&◌, ◌==◌, ◌^◌, nat_lt, List, [], ◌∷◌, length, map, Option, Some, None, is_some, option_map, option_and_then, if◌then◌else◌, codes}
use Rattle.std.specs.Str.{bytes_eq}
use Rattle.elem_core.specs.declared.codes.TheConstants.{DEEPEST}
use Rattle.node_heap.specs.Forms.{Form}
use Rattle.serde_json.specs.Data.{Data, string, object, no_members, member}
use Rattle.serde_json.specs.Written.{compact_text}
use Rattle.pool_text.specs.Rows.{Bytes}
use Rattle.pool_text.specs.Document.{list, natural, naturals, row_value, number_in, elements_in, all_of, row_in, kept_if, values_at, value_in, or_damage}
use Rattle.pool_text.specs.Parsing.{numbers_between}
use Rattle.pool_text.specs.declared.damage.Damage.{Damage}
use Rattle.pool_text.specs.declared.damage.Damage.TheVariants.{Json, Form as FormDamage, Version, Row}
use Rattle.versions_pool.specs.declared.document.TheConstants.{STORE_VERSION}

-- what a document of a store says: the numbers of the versions, the place of the root of each, and the rows
pub record Saved : Type 0 where
  pub names : List ℕ
  pub roots : List ℕ
  pub rows : List (Form Bytes)

-- Writing.

module _ (format : Bytes) where
  -- its document of this format; the keys are in byte order
  unfoldable pub saved_document : Saved → Data
  saved_document s =
      object (member (codes "format") (string format) (member (codes "names") (naturals s.names) (member (codes "roots") (naturals s.roots)
      (member (codes "rows") (list (map row_value s.rows)) (member (codes "version") (natural STORE_VERSION) no_members)))))

  -- the compact text of that document
  abbrev pub saved_text : Saved → Bytes
  saved_text s = compact_text (saved_document s)

-- Reading.

-- each number behind this one is greater than the one before it
abbrev pub rise_after : ℕ → List ℕ → Bool
rise_after n [] = true
rise_after n (m ∷ ms) = nat_lt n m && rise_after m ms

-- each number is less than the next
abbrev pub rise : List ℕ → Bool
rise [] = true
rise (n ∷ ns) = rise_after n ns

-- the keys of a document, in byte order
abbrev pub saved_keys : List Bytes
saved_keys = codes "format" ∷ codes "names" ∷ codes "roots" ∷ codes "rows" ∷ codes "version" ∷ []

-- the values of a document beside its format
pub record SavedValues : Type 0 where
  pub names : List ℕ
  pub roots : List ℕ
  pub rows : List Data
  pub version : ℕ

-- the numbers rise, and there is a root for each
abbrev pub are_named : SavedValues → Bool
are_named v = rise v.names && length v.names == length v.roots

-- the values that these stand for beside the format
abbrev pub values_read : Data → Data → Data → Data → Option SavedValues
values_read names roots rows version =
    kept_if are_named (option_and_then (λ ns. option_and_then (λ rs. option_and_then (λ ds.
    option_map (λ v. record { names = ns; roots = rs; rows = ds; version = v }) (number_in version))
    (elements_in rows)) (numbers_between 0 (2 ^ 50) roots)) (numbers_between 0 (2 ^ 50) names))

-- the rows of the values, each in its form and in range
abbrev pub saved_rows : SavedValues → Option (List (Form Bytes))
saved_rows v = all_of (row_in DEEPEST) v.rows

abbrev pub saved_from : SavedValues → Option Saved
saved_from v = option_map (λ rows. record { names = v.names; roots = v.roots; rows = rows }) (saved_rows v)

-- the first of the tests `Version` and `Row` that the values fail
abbrev pub values_damage : SavedValues → Option Damage
values_damage v =
    if not (v.version == STORE_VERSION) then Some Version else
    if is_some (saved_rows v) then None else Some Row

module _ (format : Bytes) where
  -- the values where this is the format
  abbrev pub values_by_format : Data → Option SavedValues → Option SavedValues
  values_by_format (string found) values = if bytes_eq found format then values else None
  values_by_format _ values = None

  abbrev pub values_from : List Data → Option SavedValues
  values_from (found ∷ names ∷ roots ∷ rows ∷ version ∷ []) = values_by_format found (values_read names roots rows version)
  values_from _ = None

  abbrev pub values_in : Data → Option SavedValues
  values_in (object ms) = option_and_then values_from (values_at saved_keys ms)
  values_in _ = None

  -- what a value says as a document of this format
  unfoldable pub saved_in : Data → Option Saved
  saved_in d = option_and_then saved_from (values_in d)

  -- what the bytes say as one
  abbrev pub saved_in_bytes : Bytes → Option Saved
  saved_in_bytes bytes = option_and_then saved_in (value_in bytes)

  -- the first of the tests `Form` to `Row` that the value fails, if any
  unfoldable pub value_damage : Data → Option Damage
  value_damage d = or_damage FormDamage values_damage (values_in d)

  -- the first of the tests `Json` to `Row` that the bytes fail, if any
  unfoldable pub bytes_damage : Bytes → Option Damage
  bytes_damage bytes = or_damage Json value_damage (value_in bytes)
