-- A partial document: what it says, as a JSON value and as its compact text.
use Rattle.std.specs.Prelude.{ℕ, not, ◌==◌, List, [], ◌∷◌, map, Option, Some, None, is_some, option_map, option_and_then, if◌then◌else◌, codes}
use Rattle.std.specs.Str.{bytes_eq}
use Rattle.elem_core.specs.declared.codes.TheConstants.{DEEPEST}
use Rattle.node_heap.specs.Forms.{Form}
use Rattle.serde_json.specs.Data.{Data, string, object, no_members, member}
use Rattle.serde_json.specs.Written.{compact_text}
use Rattle.pool_text.specs.Rows.{Bytes}
use Rattle.pool_text.specs.Document.{list, natural, naturals, row_value, number_in, elements_in, all_of, numbers_in, row_in, four, values_at, history_in, value_in, or_damage}
use Rattle.pool_text.specs.declared.rules.TheConstants.{PRESENT_VERSION}
use Rattle.pool_text.specs.declared.damage.Damage.{Damage}
use Rattle.pool_text.specs.declared.damage.Damage.TheVariants.{Json, Form as FormDamage, Version, Bits, Row}

-- what a partial document says: after how many rows its own come, and then what a pool has
pub record Part : Type 0 where
  pub after : ℕ
  pub bits : ℕ
  pub history : ℕ
  pub roots : List ℕ
  pub rows : List (Form Bytes)

-- Writing.

-- the document of a part; its keys are in byte order
unfoldable pub part_document : Part → Data
part_document p =
    object (member (codes "after") (natural p.after) (member (codes "bits") (natural p.bits) (member (codes "format") (string (codes "ewig-part"))
    (member (codes "history") (natural p.history) (member (codes "roots") (naturals p.roots) (member (codes "rows") (list (map row_value p.rows))
    (member (codes "version") (natural PRESENT_VERSION) no_members)))))))

-- the compact text of that document
abbrev pub part_text : Part → Bytes
part_text p = compact_text (part_document p)

-- Reading.

-- the keys of a partial document, in byte order
abbrev pub part_keys : List Bytes
part_keys = codes "after" ∷ codes "bits" ∷ codes "format" ∷ codes "history" ∷ codes "roots" ∷ codes "rows" ∷ codes "version" ∷ []

-- the values of a partial document beside its format
pub record PartValues : Type 0 where
  pub after : ℕ
  pub bits : ℕ
  pub history : ℕ
  pub roots : List ℕ
  pub rows : List Data
  pub version : ℕ

-- the values that these stand for beside the format
abbrev pub values_read : Data → Data → Data → Data → Data → Data → Option PartValues
values_read after bits history roots rows version =
    option_and_then (λ a. option_and_then (λ b. option_and_then (λ h. option_and_then (λ rs. option_and_then (λ ds.
    option_map (λ v. record { after = a; bits = b; history = h; roots = rs; rows = ds; version = v }) (number_in version))
    (elements_in rows)) (option_and_then four (numbers_in roots))) (history_in (Some history))) (number_in bits)) (number_in after)

-- the values of which the format is the part's
abbrev pub values_by_format : Data → Option PartValues → Option PartValues
values_by_format (string format) values = if bytes_eq format (codes "ewig-part") then values else None
values_by_format _ values = None

abbrev pub values_from : List Data → Option PartValues
values_from (after ∷ bits ∷ format ∷ history ∷ roots ∷ rows ∷ version ∷ []) = values_by_format format (values_read after bits history roots rows version)
values_from _ = None

abbrev pub values_in : Data → Option PartValues
values_in (object ms) = option_and_then values_from (values_at part_keys ms)
values_in _ = None

-- the rows of the values, each in its form and in range
abbrev pub part_rows : PartValues → Option (List (Form Bytes))
part_rows v = all_of (row_in DEEPEST) v.rows

abbrev pub part_from : PartValues → Option Part
part_from v = option_map (λ rows. record { after = v.after; bits = v.bits; history = v.history; roots = v.roots; rows = rows }) (part_rows v)

-- what a value says as a partial document
unfoldable pub part_in : Data → Option Part
part_in d = option_and_then part_from (values_in d)

-- what the bytes say as one
abbrev pub part_in_bytes : Bytes → Option Part
part_in_bytes bytes = option_and_then part_in (value_in bytes)

-- Damage, in a space of so many bits.

-- the first of the tests `Version`, `Bits` and `Row` that the values fail
abbrev pub values_damage : ℕ → PartValues → Option Damage
values_damage bits v =
    if not (v.version == PRESENT_VERSION) then Some Version else
    if not (v.bits == bits) then Some Bits else
    if is_some (part_rows v) then None else Some Row

-- the first of the tests `Form` to `Row` that the value fails, if any
unfoldable pub part_value_damage : ℕ → Data → Option Damage
part_value_damage bits d = or_damage FormDamage (values_damage bits) (values_in d)

-- the first of the tests `Json` to `Row` that the bytes fail, if any
unfoldable pub part_bytes_damage : ℕ → Bytes → Option Damage
part_bytes_damage bits bytes = or_damage Json (part_value_damage bits) (value_in bytes)
