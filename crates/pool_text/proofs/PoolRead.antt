-- The pool and the damage of a document, by its parts and its rows.
use Rattle.std.proofs.Common.{◌≡◌, ◌≢◌, ℕ, ◌≤◌, Bool, true, false, cond, eqb, ◌&&◌, ◌||◌, Option, Some, None, List, [], ◌∷◌, refl, ap, sym, ◌∙◌, arith, subst}
use Rattle.std.specs.Prelude.{not, is_some, option_map, option_and_then, IsSomeAnd}
use Rattle.std.specs.List.{list_all}
use Rattle.std.specs.Str.{is_utf8}
use Rattle.std.proofs.lemmas.Bool.{eqb-true}
use Rattle.std.proofs.lemmas.Bool.Decides.{nat_tests}
use Rattle.std.proofs.lemmas.Option.{none-some}
use Rattle.pool_text.specs.declared.pool.Pool.{Pool}
use Rattle.node_heap.specs.Forms.{Form}
use Rattle.serde_json.specs.Data.{Data}
use Rattle.serde_json.specs.Read.{read}
use Rattle.pool_text.specs.Rows.{Bytes, is_in_range_to}
use Rattle.pool_text.specs.Rules.{Rules, first_rules, second_rules, present_rules, rules_of, bits_by}
use Rattle.pool_text.specs.Document.{form_from, elements_in, all_of, row_in, DocumentParts, parts_in, rows_in, pool_by, pool_from, pool_in, or_damage, parts_damage_by, parts_damage, value_damage, value_in, pool_in_bytes, bytes_damage, present_parts_damage, present_value_damage, present_bytes_damage, IsInRange}
use Rattle.pool_text.specs.declared.rules.TheConstants.{PRESENT_VERSION}
use Rattle.pool_text.specs.declared.damage.Damage.{Damage}
use Rattle.pool_text.specs.declared.damage.Damage.TheVariants.{Json, Form as FormDamage, Version, Bits, Row}
use Rattle.pool_text.proofs.EachRead.{onto-some}
use Rattle.pool_text.proofs.NumbersRead.{kept-passes}

-- the rows that are read are in range
pub rows-in-range : (deepest : ℕ) (ds : List Data) (rows : List (Form Bytes)) → all_of (row_in deepest) ds ≡ Some rows → list_all (is_in_range_to deepest) rows ≡ true
rows-in-range deepest [] rows e = let f : Some [] ≡ Some rows = e in let none : [] ≡ rows = cc in ap (list_all (is_in_range_to deepest)) (sym none)
rows-in-range deepest (d ∷ ds) rows e =
    let parts = onto-some (row_in deepest d) (all_of (row_in deepest) ds) rows e in
    ap (list_all (is_in_range_to deepest)) parts.is_both
    ∙ ap (λ b. b && list_all (is_in_range_to deepest) parts.rest) (kept-passes (is_in_range_to deepest) (option_and_then form_from (elements_in d)) parts.first parts.is_first)
    ∙ rows-in-range deepest ds parts.rest parts.is_rest

-- a pool of a version that is read, whose rows were read by the rules of that version
pub range-by-rules : (P : Pool) (v : ℕ) (rules : Rules) (ds : List Data) → P.version ≡ v → rules_of v ≡ Some rules → all_of (row_in rules.deepest) ds ≡ Some P.rows → IsInRange P
range-by-rules P v rules ds same found are =
    subst (λ o. IsSomeAnd o (λ (r : Rules). list_all (is_in_range_to r.deepest) P.rows ≡ true)) (sym (ap rules_of same ∙ found)) (rows-in-range rules.deepest ds P.rows are)

-- ## By rules

pub other-numbers : (a b : ℕ) → a ≢ b → eqb a b ≡ false
other-numbers a b other = grind (arith, nat_tests)

pub same-numbers : (a b : ℕ) → a ≡ b → eqb a b ≡ true
same-numbers a b same = grind (arith, nat_tests)

module _ (bits : ℕ) (p : DocumentParts) (rules : Rules) where
  -- the bits that the document keeps
  abbrev kept_bits : ℕ
  kept_bits = bits_by p.version bits

  abbrev after_bits : Option Damage
  after_bits = cond (is_some (rows_in p rules)) None (Some Row)

  pub bits-damage : p.bits ≢ kept_bits → parts_damage_by bits p rules ≡ Some Bits
  bits-damage other =
      ap (λ b. cond (not b) (Some Bits) after_bits) (other-numbers p.bits kept_bits other)

  from_bits : p.bits ≡ kept_bits → parts_damage_by bits p rules ≡ after_bits
  from_bits kept =
      ap (λ b. cond (not b) (Some Bits) after_bits) (same-numbers p.bits kept_bits kept)

  pub row-damage : p.bits ≡ kept_bits → rows_in p rules ≡ None → parts_damage_by bits p rules ≡ Some Row
  row-damage kept none = from_bits kept ∙ ap (λ o. cond (is_some o) None (Some Row)) none

  pub no-damage : (rows : List (Form Bytes)) → p.bits ≡ kept_bits → rows_in p rules ≡ Some rows → parts_damage_by bits p rules ≡ None
  no-damage rows kept are = from_bits kept ∙ ap (λ o. cond (is_some o) None (Some Row)) are

  pub pool-read : (rows : List (Form Bytes)) (b v : ℕ) → p.bits ≡ b → p.version ≡ v → rows_in p rules ≡ Some rows
      → pool_by p rules ≡ Some (record { bits = b; version = v; history = p.history; rows = rows; roots = p.roots })
  pool-read rows b v is_b is_v are =
      ap (λ o. option_map (λ rs. record { bits = p.bits; version = p.version; history = p.history; rows = rs; roots = p.roots }) o) are
      ∙ ap (λ n. Some (record { bits = n; version = p.version; history = p.history; rows = rows; roots = p.roots })) is_b
      ∙ ap (λ n. Some (record { bits = b; version = n; history = p.history; rows = rows; roots = p.roots })) is_v

-- ## By the rules of the version

pub form-damage : (bits : ℕ) (d : Data) → parts_in d ≡ None → value_damage bits d ≡ Some FormDamage
unfolding value_damage
form-damage bits d none = ap (or_damage FormDamage (parts_damage bits)) none

module _ (bits : ℕ) (d : Data) (p : DocumentParts) (is : parts_in d ≡ Some p) where
  damage-by-parts : value_damage bits d ≡ parts_damage bits p
  unfolding value_damage
  damage-by-parts = ap (or_damage FormDamage (parts_damage bits)) is

  pub version-damage : rules_of p.version ≡ None → value_damage bits d ≡ Some Version
  version-damage none = damage-by-parts ∙ ap (or_damage Version (parts_damage_by bits p)) none

  pub damage-by-rules : (rules : Rules) → rules_of p.version ≡ Some rules → value_damage bits d ≡ parts_damage_by bits p rules
  damage-by-rules rules found = damage-by-parts ∙ ap (or_damage Version (parts_damage_by bits p)) found

  pub pool-by-rules : (rules : Rules) → rules_of p.version ≡ Some rules → pool_in d ≡ pool_by p rules
  unfolding pool_in
  pool-by-rules rules found = ap (option_and_then pool_from) is ∙ ap (option_and_then (pool_by p)) found

-- a version that is read is small
pub version-low : (v : ℕ) (rules : Rules) → rules_of v ≡ Some rules → v ≤ 3
version-low v rules e = by (eqb v 1) (eqb v 2) (eqb v 3) refl refl refl e
  where
    by : (first second third : Bool) → eqb v 1 ≡ first → eqb v 2 ≡ second → eqb v 3 ≡ third → cond first (Some first_rules) (cond (second || third) (Some second_rules) None) ≡ Some rules → v ≤ 3
    by true _ _ is _ _ _ = omega (arith, eqb-true v 1 is)
    by false true _ _ is _ _ = omega (arith, eqb-true v 2 is)
    by false false true _ _ is _ = omega (arith, eqb-true v 3 is)
    by false false false _ _ _ none = absurd (none-some rules none)

-- bytes that are the text of a value
pub value-read : (bytes : Bytes) (d : Data) → is_utf8 bytes ≡ true → read bytes ≡ Some d → value_in bytes ≡ Some d
value-read bytes d utf8 is = ap (λ b. cond b (read bytes) None) utf8 ∙ is

-- bytes that aren't
pub no-value : (bytes : Bytes) → (is_utf8 bytes ≡ true → read bytes ≡ None) → value_in bytes ≡ None
no-value bytes none = by (is_utf8 bytes) refl
  where
    by : (b : Bool) → is_utf8 bytes ≡ b → cond b (read bytes) None ≡ None
    by true is = none is
    by false is = refl

pub json-damage : (bits : ℕ) (bytes : Bytes) → value_in bytes ≡ None → bytes_damage bits bytes ≡ Some Json
unfolding bytes_damage
json-damage bits bytes none = ap (or_damage Json (value_damage bits)) none

pub damage-by-value : (bits : ℕ) (bytes : Bytes) (d : Data) → value_in bytes ≡ Some d → bytes_damage bits bytes ≡ value_damage bits d
unfolding bytes_damage
damage-by-value bits bytes d is = ap (or_damage Json (value_damage bits)) is

pub pool-by-value : (bytes : Bytes) (d : Data) → value_in bytes ≡ Some d → pool_in_bytes bytes ≡ pool_in d
pool-by-value bytes d is = ap (option_and_then pool_in) is

-- ## Of the version that is written alone

module _ (bits : ℕ) (d : Data) where
  pub present-form-damage : parts_in d ≡ None → present_value_damage bits d ≡ Some FormDamage
  unfolding present_value_damage
  present-form-damage none = ap (or_damage FormDamage (present_parts_damage bits)) none

  module _ (p : DocumentParts) (is : parts_in d ≡ Some p) where
    pub other-version : p.version ≢ PRESENT_VERSION → present_value_damage bits d ≡ Some Version
    unfolding present_value_damage
    other-version other =
        ap (or_damage FormDamage (present_parts_damage bits)) is
        ∙ ap (λ b. cond (not b) (Some Version) (parts_damage_by bits p present_rules)) (other-numbers p.version PRESENT_VERSION other)

    pub present-by-parts : p.version ≡ PRESENT_VERSION → present_value_damage bits d ≡ parts_damage_by bits p present_rules
    unfolding present_value_damage
    present-by-parts same =
        ap (or_damage FormDamage (present_parts_damage bits)) is
        ∙ ap (λ b. cond (not b) (Some Version) (parts_damage_by bits p present_rules)) (same-numbers p.version PRESENT_VERSION same)

pub present-json-damage : (bits : ℕ) (bytes : Bytes) → value_in bytes ≡ None → present_bytes_damage bits bytes ≡ Some Json
unfolding present_bytes_damage
present-json-damage bits bytes none = ap (or_damage Json (present_value_damage bits)) none

pub present-damage-by-value : (bits : ℕ) (bytes : Bytes) (d : Data) → value_in bytes ≡ Some d → present_bytes_damage bits bytes ≡ present_value_damage bits d
unfolding present_bytes_damage
present-damage-by-value bits bytes d is = ap (or_damage Json (present_value_damage bits)) is
