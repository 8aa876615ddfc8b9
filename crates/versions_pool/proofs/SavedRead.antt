-- A document of a store, read off its members one after another, and its damage.
use Rattle.std.proofs.Common.{◌≡◌, ◌≢◌, ◌≤◌, ℕ, true, false, cond, eqb, length, Option, Some, None, option_map, List, [], ◌∷◌, bytes_eq, refl, ap, sym, ◌∙◌, arith}
use Rattle.std.specs.Prelude.{not, ◌&&◌, ◌==◌, ◌^◌, is_some, option_and_then}
use Rattle.std.proofs.lemmas.Bool.{and_from}
use Rattle.std.proofs.lemmas.Bool.Decides.{nat_tests}
use Rattle.serde_json.specs.Data.{Data, null, boolean, number, string, array, object, Members}
use Rattle.serde_json.specs.Find.{as_object, as_str}
use Rattle.node_heap.specs.Forms.{Form}
use Rattle.pool_text.specs.Rows.{Bytes, is_between}
use Rattle.pool_text.specs.Document.{number_in, elements_in, numbers_in, kept_if, values_at, value_in, or_damage}
use Rattle.pool_text.specs.Parsing.{numbers_between}
use Rattle.pool_text.specs.declared.damage.Damage.{Damage}
use Rattle.pool_text.specs.declared.damage.Damage.TheVariants.{Json, Form as FormDamage, Version, Row}
use Rattle.pool_text.proofs.NumbersRead.{kept-passes}
use Rattle.pool_text.proofs.PoolRead.{other-numbers, same-numbers}
use Rattle.versions_pool.specs.Saved.{SavedValues, rise, are_named, saved_keys, values_read, values_by_format, values_from, values_in, saved_rows, saved_from, saved_in, saved_in_bytes, values_damage, value_damage, bytes_damage}
use Rattle.versions_pool.specs.declared.document.TheConstants.{STORE_VERSION}

-- ## The members

module _ (format : Bytes) where
  object-values : (d : Data) (ms : Members) → Some ms ≡ as_object d → values_in format d ≡ option_and_then (values_from format) (values_at saved_keys ms)
  object-values null ms e = absurd (let f : Some ms ≡ None = e in cc)
  object-values (boolean b) ms e = absurd (let f : Some ms ≡ None = e in cc)
  object-values (number n) ms e = absurd (let f : Some ms ≡ None = e in cc)
  object-values (string s) ms e = absurd (let f : Some ms ≡ None = e in cc)
  object-values (array ds) ms e = absurd (let f : Some ms ≡ None = e in cc)
  object-values (object found) ms e = let f : Some ms ≡ Some found = e in let same : found ≡ ms = cc in ap (λ ns. option_and_then (values_from format) (values_at saved_keys ns)) same

  pub by-values : (d : Data) (ms found : Members) (o : Option (List Data)) → Some ms ≡ as_object d → found ≡ ms → values_at saved_keys found ≡ o → values_in format d ≡ option_and_then (values_from format) o
  by-values d ms found o is same values = object-values d ms is ∙ ap (λ ns. option_and_then (values_from format) (values_at saved_keys ns)) (sym same) ∙ ap (option_and_then (values_from format)) values

  -- ## The format

  text-format : (found : Data) (text : Bytes) (values : Option SavedValues) → Some text ≡ as_str found → values_by_format format found values ≡ cond (bytes_eq text format) values None
  text-format null text values e = absurd (let f : Some text ≡ None = e in cc)
  text-format (boolean b) text values e = absurd (let f : Some text ≡ None = e in cc)
  text-format (number n) text values e = absurd (let f : Some text ≡ None = e in cc)
  text-format (string s) text values e = let f : Some text ≡ Some s = e in let same : s ≡ text = cc in ap (λ t. cond (bytes_eq t format) values None) same
  text-format (array ds) text values e = absurd (let f : Some text ≡ None = e in cc)
  text-format (object ms) text values e = absurd (let f : Some text ≡ None = e in cc)

  other-value : (found : Data) (values : Option SavedValues) → None ≡ as_str found → values_by_format format found values ≡ None
  other-value null values e = refl
  other-value (boolean b) values e = refl
  other-value (number n) values e = refl
  other-value (string s) values e = absurd (let f : None ≡ Some s = e in cc)
  other-value (array ds) values e = refl
  other-value (object ms) values e = refl

  module _ (found names roots rows version : Data) where
    abbrev pub found_values : List Data
    found_values = found ∷ names ∷ roots ∷ rows ∷ version ∷ []

    -- the values where the format is this, and where it isn't
    pub by-format : (text : Bytes) → Some text ≡ as_str found → bytes_eq text format ≡ true → values_from format found_values ≡ values_read names roots rows version
    by-format text e is = text-format found text (values_read names roots rows version) e ∙ ap (λ b. cond b (values_read names roots rows version) None) is

    pub other-format : (text : Bytes) → Some text ≡ as_str found → bytes_eq text format ≡ false → values_from format found_values ≡ None
    other-format text e other = text-format found text (values_read names roots rows version) e ∙ ap (λ b. cond b (values_read names roots rows version) None) other

    pub no-format : None ≡ as_str found → values_from format found_values ≡ None
    no-format e = other-value found (values_read names roots rows version) e

-- ## The values

module _ (names roots rows version : Data) where
  abbrev all_read : Option (List ℕ) → Option (List ℕ) → Option SavedValues
  all_read o p = kept_if are_named (option_and_then (λ ns. option_and_then (λ rs. option_and_then (λ ds. option_map (λ v. record { names = ns; roots = rs; rows = ds; version = v }) (number_in version)) (elements_in rows)) p) o)

  none-then : (o : Option (List ℕ)) → kept_if are_named (option_and_then (λ (ns : List ℕ). None) o) ≡ None
  none-then None = refl
  none-then (Some ns) = refl

  pub no-names : numbers_between 0 (2 ^ 50) names ≡ None → values_read names roots rows version ≡ None
  no-names none = ap (λ o. all_read o (numbers_between 0 (2 ^ 50) roots)) none

  pub no-roots : numbers_between 0 (2 ^ 50) roots ≡ None → values_read names roots rows version ≡ None
  no-roots none = ap (all_read (numbers_between 0 (2 ^ 50) names)) none ∙ none-then (numbers_between 0 (2 ^ 50) names)

  module _ (v : ℕ) (ns rs : List ℕ) (ds : List Data) (is_ns : numbers_between 0 (2 ^ 50) names ≡ Some ns) (is_rs : numbers_between 0 (2 ^ 50) roots ≡ Some rs) (is_ds : elements_in rows ≡ Some ds) (is_v : number_in version ≡ Some v) where
    abbrev found : SavedValues
    found = record { names = ns; roots = rs; rows = ds; version = v }

    read-all : values_read names roots rows version ≡ cond (are_named found) (Some found) None
    read-all =
        ap (λ o. all_read o (numbers_between 0 (2 ^ 50) roots)) is_ns ∙ ap (all_read (Some ns)) is_rs
        ∙ ap (λ o. kept_if are_named (option_and_then (λ es. option_map (λ n. record { names = ns; roots = rs; rows = es; version = n }) (number_in version)) o)) is_ds
        ∙ ap (λ o. kept_if are_named (option_map (λ n. record { names = ns; roots = rs; rows = ds; version = n }) o)) is_v

    pub all-values : rise ns ≡ true → length ns ≡ length rs → values_read names roots rows version ≡ Some found
    all-values rising many = read-all ∙ ap (λ b. cond b (Some found) None) (and_from (rise ns) (length ns == length rs) rising (same-numbers (length ns) (length rs) many))

    pub not-rising : rise ns ≡ false → values_read names roots rows version ≡ None
    not-rising other = read-all ∙ ap (λ b. cond (b && (length ns == length rs)) (Some found) None) other

    pub not-many : rise ns ≡ true → length ns ≢ length rs → values_read names roots rows version ≡ None
    not-many rising other = read-all ∙ ap (λ b. cond (b && (length ns == length rs)) (Some found) None) rising ∙ ap (λ b. cond b (Some found) None) (other-numbers (length ns) (length rs) other)

-- so many are no more than so many
pub few-names : (d : Data) (ns : List ℕ) → numbers_between 0 (2 ^ 50) d ≡ Some ns → length ns ≤ 2 ^ 50
few-names d ns e = let pass = kept-passes (λ ms. is_between 0 (2 ^ 50) (length ms)) (numbers_in d) ns e in few (2 ^ 50) (length ns) pass
  where
    few : (most n : ℕ) → is_between 0 most n ≡ true → n ≤ most
    few most n pass = grind (arith, nat_tests)

-- ## Damage

module _ (format : Bytes) (d : Data) where
  pub form-damage : values_in format d ≡ None → value_damage format d ≡ Some FormDamage
  unfolding value_damage
  form-damage none = ap (or_damage FormDamage values_damage) none

  module _ (v : SavedValues) (is : values_in format d ≡ Some v) where
    abbrev after_version : Option Damage
    after_version = cond (is_some (saved_rows v)) None (Some Row)

    by_version : value_damage format d ≡ cond (not (eqb v.version STORE_VERSION)) (Some Version) after_version
    unfolding value_damage
    by_version = ap (or_damage FormDamage values_damage) is

    pub version-damage : v.version ≢ STORE_VERSION → value_damage format d ≡ Some Version
    version-damage other = by_version ∙ ap (λ b. cond (not b) (Some Version) after_version) (other-numbers v.version STORE_VERSION other)

    module _ (present : v.version ≡ STORE_VERSION) where
      by_rows : value_damage format d ≡ after_version
      by_rows = by_version ∙ ap (λ b. cond (not b) (Some Version) after_version) (same-numbers v.version STORE_VERSION present)

      pub row-damage : saved_rows v ≡ None → value_damage format d ≡ Some Row
      row-damage none = by_rows ∙ ap (λ o. cond (is_some o) None (Some Row)) none

      pub no-damage : (rows : List (Form Bytes)) → saved_rows v ≡ Some rows → value_damage format d ≡ None
      no-damage rows are = by_rows ∙ ap (λ o. cond (is_some o) None (Some Row)) are

    pub saved-read : (rows : List (Form Bytes)) → saved_rows v ≡ Some rows → saved_in format d ≡ Some (record { names = v.names; roots = v.roots; rows = rows })
    unfolding saved_in
    saved-read rows are = ap (option_and_then saved_from) is ∙ ap (option_map (λ rs. record { names = v.names; roots = v.roots; rows = rs })) are

pub json-damage : (format bytes : Bytes) → value_in bytes ≡ None → bytes_damage format bytes ≡ Some Json
unfolding bytes_damage
json-damage format bytes none = ap (or_damage Json (value_damage format)) none

pub damage-by-value : (format bytes : Bytes) (d : Data) → value_in bytes ≡ Some d → bytes_damage format bytes ≡ value_damage format d
unfolding bytes_damage
damage-by-value format bytes d is = ap (or_damage Json (value_damage format)) is

pub saved-by-value : (format bytes : Bytes) (d : Data) → value_in bytes ≡ Some d → saved_in_bytes format bytes ≡ saved_in format d
saved-by-value format bytes d is = ap (option_and_then (saved_in format)) is
