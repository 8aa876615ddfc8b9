-- A partial document, read off its members one after another, and its damage.
use Rattle.std.proofs.Common.{◌≡◌, ◌≢◌, ℕ, true, false, cond, eqb, Option, Some, None, option_map, List, [], ◌∷◌, bytes_eq, refl, ap, sym, ◌∙◌}
use Rattle.std.specs.Prelude.{not, is_some, option_and_then, codes}
use Rattle.serde_json.specs.Data.{Data, null, boolean, number, string, array, object, Members}
use Rattle.serde_json.specs.Find.{as_object, as_str}
use Rattle.node_heap.specs.Forms.{Form}
use Rattle.pool_text.specs.Rows.{Bytes}
use Rattle.pool_text.specs.Document.{number_in, elements_in, numbers_in, four, values_at, history_in, value_in, or_damage}
use Rattle.pool_text.specs.Parsing.{numbers_between}
use Rattle.pool_text.specs.declared.rules.TheConstants.{PRESENT_VERSION}
use Rattle.pool_text.specs.declared.damage.Damage.{Damage}
use Rattle.pool_text.specs.declared.damage.Damage.TheVariants.{Json, Form as FormDamage, Version, Bits, Row}
use Rattle.pool_text.proofs.PartsRead.{roots-are}
use Rattle.pool_text.proofs.PoolRead.{other-numbers, same-numbers}
use Rattle.pool_delta.specs.Parts.{PartValues, part_keys, values_read, values_by_format, values_from, values_in, part_rows, part_from, part_in, part_in_bytes, values_damage, part_value_damage, part_bytes_damage}

-- ## The members

object-values : (d : Data) (ms : Members) → Some ms ≡ as_object d → values_in d ≡ option_and_then values_from (values_at part_keys ms)
object-values null ms e = absurd (let f : Some ms ≡ None = e in cc)
object-values (boolean b) ms e = absurd (let f : Some ms ≡ None = e in cc)
object-values (number n) ms e = absurd (let f : Some ms ≡ None = e in cc)
object-values (string s) ms e = absurd (let f : Some ms ≡ None = e in cc)
object-values (array ds) ms e = absurd (let f : Some ms ≡ None = e in cc)
object-values (object found) ms e = let f : Some ms ≡ Some found = e in let same : found ≡ ms = cc in ap (λ ns. option_and_then values_from (values_at part_keys ns)) same

pub by-values : (d : Data) (ms found : Members) (o : Option (List Data)) → Some ms ≡ as_object d → found ≡ ms → values_at part_keys found ≡ o → values_in d ≡ option_and_then values_from o
by-values d ms found o is same values = object-values d ms is ∙ ap (λ ns. option_and_then values_from (values_at part_keys ns)) (sym same) ∙ ap (option_and_then values_from) values

-- ## The format

text-format : (format : Data) (text : Bytes) (values : Option PartValues) → Some text ≡ as_str format → values_by_format format values ≡ cond (bytes_eq text (codes "ewig-part")) values None
text-format null text values e = absurd (let f : Some text ≡ None = e in cc)
text-format (boolean b) text values e = absurd (let f : Some text ≡ None = e in cc)
text-format (number n) text values e = absurd (let f : Some text ≡ None = e in cc)
text-format (string s) text values e = let f : Some text ≡ Some s = e in let same : s ≡ text = cc in ap (λ t. cond (bytes_eq t (codes "ewig-part")) values None) same
text-format (array ds) text values e = absurd (let f : Some text ≡ None = e in cc)
text-format (object ms) text values e = absurd (let f : Some text ≡ None = e in cc)

other-value : (format : Data) (values : Option PartValues) → None ≡ as_str format → values_by_format format values ≡ None
other-value null values e = refl
other-value (boolean b) values e = refl
other-value (number n) values e = refl
other-value (string s) values e = absurd (let f : None ≡ Some s = e in cc)
other-value (array ds) values e = refl
other-value (object ms) values e = refl

module _ (after bits format history roots rows version : Data) where
  abbrev pub found_values : List Data
  found_values = after ∷ bits ∷ format ∷ history ∷ roots ∷ rows ∷ version ∷ []

  -- the values where the format is the part's, and where it isn't
  pub by-format : (text : Bytes) → Some text ≡ as_str format → bytes_eq text (codes "ewig-part") ≡ true → values_from found_values ≡ values_read after bits history roots rows version
  by-format text e is = text-format format text (values_read after bits history roots rows version) e ∙ ap (λ b. cond b (values_read after bits history roots rows version) None) is

  pub other-format : (text : Bytes) → Some text ≡ as_str format → bytes_eq text (codes "ewig-part") ≡ false → values_from found_values ≡ None
  other-format text e other = text-format format text (values_read after bits history roots rows version) e ∙ ap (λ b. cond b (values_read after bits history roots rows version) None) other

  pub no-format : None ≡ as_str format → values_from found_values ≡ None
  no-format e = other-value format (values_read after bits history roots rows version) e

-- ## The values

module _ (after bits history roots rows version : Data) where
  abbrev with_rows : ℕ → ℕ → ℕ → List ℕ → Option PartValues
  with_rows = λ a b h rs. option_and_then (λ ds. option_map (λ v. record { after = a; bits = b; history = h; roots = rs; rows = ds; version = v }) (number_in version)) (elements_in rows)

  abbrev found_roots : Option (List ℕ)
  found_roots = option_and_then four (numbers_in roots)

  abbrev no_values : Option PartValues
  no_values = None

  none-then : (o : Option ℕ) → option_and_then (λ (n : ℕ). no_values) o ≡ None
  none-then None = refl
  none-then (Some n) = refl

  pub no-roots : numbers_between 4 4 roots ≡ None → values_read after bits history roots rows version ≡ None
  no-roots none =
      ap (λ o. option_and_then (λ a. option_and_then (λ b. option_and_then (λ h. option_and_then (with_rows a b h) o) (history_in (Some history))) (number_in bits)) (number_in after)) (roots-are roots ∙ none)
      ∙ ap (λ o. option_and_then (λ (a : ℕ). option_and_then (λ (b : ℕ). o) (number_in bits)) (number_in after)) (none-then (history_in (Some history)))
      ∙ ap (λ o. option_and_then (λ (a : ℕ). o) (number_in after)) (none-then (number_in bits))
      ∙ none-then (number_in after)

  pub all-values : (a b h v : ℕ) (rs : List ℕ) (ds : List Data) → number_in after ≡ Some a → number_in bits ≡ Some b → history_in (Some history) ≡ Some h → numbers_between 4 4 roots ≡ Some rs → elements_in rows ≡ Some ds
      → number_in version ≡ Some v → values_read after bits history roots rows version ≡ Some (record { after = a; bits = b; history = h; roots = rs; rows = ds; version = v })
  all-values a b h v rs ds is_a is_b is_h is_rs is_ds is_v =
      ap (λ o. option_and_then (λ k. option_and_then (λ n. option_and_then (λ m. option_and_then (with_rows k n m) found_roots) (history_in (Some history))) (number_in bits)) o) is_a
      ∙ ap (λ o. option_and_then (λ n. option_and_then (λ m. option_and_then (with_rows a n m) found_roots) (history_in (Some history))) o) is_b
      ∙ ap (λ o. option_and_then (λ m. option_and_then (with_rows a b m) found_roots) o) is_h
      ∙ ap (option_and_then (with_rows a b h)) (roots-are roots ∙ is_rs)
      ∙ ap (option_and_then (λ es. option_map (λ n. record { after = a; bits = b; history = h; roots = rs; rows = es; version = n }) (number_in version))) is_ds
      ∙ ap (option_map (λ n. record { after = a; bits = b; history = h; roots = rs; rows = ds; version = n })) is_v

-- ## Damage

module _ (bits : ℕ) (d : Data) where
  pub form-damage : values_in d ≡ None → part_value_damage bits d ≡ Some FormDamage
  unfolding part_value_damage
  form-damage none = ap (or_damage FormDamage (values_damage bits)) none

  module _ (v : PartValues) (is : values_in d ≡ Some v) where
    abbrev after_bits : Option Damage
    after_bits = cond (is_some (part_rows v)) None (Some Row)

    abbrev after_version : Option Damage
    after_version = cond (not (eqb v.bits bits)) (Some Bits) after_bits

    by_version : part_value_damage bits d ≡ cond (not (eqb v.version PRESENT_VERSION)) (Some Version) after_version
    unfolding part_value_damage
    by_version = ap (or_damage FormDamage (values_damage bits)) is

    pub version-damage : v.version ≢ PRESENT_VERSION → part_value_damage bits d ≡ Some Version
    version-damage other = by_version ∙ ap (λ b. cond (not b) (Some Version) after_version) (other-numbers v.version PRESENT_VERSION other)

    module _ (present : v.version ≡ PRESENT_VERSION) where
      by_bits : part_value_damage bits d ≡ after_version
      by_bits = by_version ∙ ap (λ b. cond (not b) (Some Version) after_version) (same-numbers v.version PRESENT_VERSION present)

      pub bits-damage : v.bits ≢ bits → part_value_damage bits d ≡ Some Bits
      bits-damage other = by_bits ∙ ap (λ b. cond (not b) (Some Bits) after_bits) (other-numbers v.bits bits other)

      module _ (kept : v.bits ≡ bits) where
        by_rows : part_value_damage bits d ≡ after_bits
        by_rows = by_bits ∙ ap (λ b. cond (not b) (Some Bits) after_bits) (same-numbers v.bits bits kept)

        pub row-damage : part_rows v ≡ None → part_value_damage bits d ≡ Some Row
        row-damage none = by_rows ∙ ap (λ o. cond (is_some o) None (Some Row)) none

        pub no-damage : (rows : List (Form Bytes)) → part_rows v ≡ Some rows → part_value_damage bits d ≡ None
        no-damage rows are = by_rows ∙ ap (λ o. cond (is_some o) None (Some Row)) are

    pub part-read : v.bits ≡ bits → (rows : List (Form Bytes)) → part_rows v ≡ Some rows → part_in d ≡ Some (record { after = v.after; bits = bits; history = v.history; roots = v.roots; rows = rows })
    unfolding part_in
    part-read kept rows are =
        ap (option_and_then part_from) is
        ∙ ap (option_map (λ rs. record { after = v.after; bits = v.bits; history = v.history; roots = v.roots; rows = rs })) are
        ∙ ap (λ n. Some (record { after = v.after; bits = n; history = v.history; roots = v.roots; rows = rows })) kept

pub json-damage : (bits : ℕ) (bytes : Bytes) → value_in bytes ≡ None → part_bytes_damage bits bytes ≡ Some Json
unfolding part_bytes_damage
json-damage bits bytes none = ap (or_damage Json (part_value_damage bits)) none

pub damage-by-value : (bits : ℕ) (bytes : Bytes) (d : Data) → value_in bytes ≡ Some d → part_bytes_damage bits bytes ≡ part_value_damage bits d
unfolding part_bytes_damage
damage-by-value bits bytes d is = ap (or_damage Json (part_value_damage bits)) is

pub part-by-value : (bytes : Bytes) (d : Data) → value_in bytes ≡ Some d → part_in_bytes bytes ≡ part_in d
part-by-value bytes d is = ap (option_and_then part_in) is
