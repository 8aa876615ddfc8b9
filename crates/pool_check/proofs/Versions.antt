-- What a document's pool has by its version: rows in range by the rules of that version, and bits.
use Rattle.std.proofs.Common.{◌≡◌, ◌≢◌, ℕ, ◌≤◌, Bool, true, false, ◌||◌, cond, eqb, Some, None, refl, ap, subst, ◌∙◌, arith}
use Rattle.std.specs.Prelude.{min, IsSomeAnd}
use Rattle.std.specs.List.{list_all}
use Rattle.std.proofs.lemmas.Bool.{eqb-true, ne_eqb}
use Rattle.pool_text.specs.Rows.{is_in_range, is_in_range_to}
use Rattle.pool_text.specs.Rules.{Rules, first_rules, second_rules, rules_of, bits_by}
use Rattle.pool_text.specs.Document.{IsInRange}
use Rattle.pool_text.specs.declared.pool.Pool.{Pool}
use Rattle.pool_text.specs.declared.rules.TheConstants.{FIRST_VERSION, SECOND_VERSION, PRESENT_VERSION, FIRST_CODE_BITS}
use Rattle.pool_check.specs.Rows.{rows_in_range_by}

abbrev range_by : Pool → Rules → Type 0
range_by P rules = list_all (is_in_range_to rules.deepest) P.rows ≡ true

module _ (P : Pool) (range : IsInRange P) where
  -- a document of the first version has its rows in range by the first rules
  pub first-range : P.version ≡ FIRST_VERSION → rows_in_range_by first_rules P ≡ true
  unfolding rows_in_range_by
  first-range first = subst (λ v. IsSomeAnd (rules_of v) (range_by P)) first range

  -- and each other one that is read goes by the rules of today
  later : (one two : Bool) → eqb P.version FIRST_VERSION ≡ one → IsSomeAnd (cond one (Some first_rules) (cond two (Some second_rules) None)) (range_by P) → P.version ≢ FIRST_VERSION
      → cond one (Some first_rules) (cond two (Some second_rules) None) ≡ Some second_rules
  later true two is _ other = absurd (other (eqb-true P.version FIRST_VERSION is))
  later false true is _ other = refl
  later false false is none other = absurd none

  pub present-are : P.version ≢ FIRST_VERSION → rules_of P.version ≡ Some second_rules
  present-are other = later (eqb P.version FIRST_VERSION) (eqb P.version SECOND_VERSION || eqb P.version PRESENT_VERSION) refl range other

  pub present-range : P.version ≢ FIRST_VERSION → list_all is_in_range P.rows ≡ true
  present-range other = subst (λ o. IsSomeAnd o (range_by P)) (present-are other) range

-- the bits that a document keeps
module _ (P : Pool) (bits : ℕ) (kept : P.bits ≡ bits_by P.version bits) where
  pub first-bits : P.version ≡ FIRST_VERSION → P.bits ≤ FIRST_CODE_BITS
  first-bits first = let is : P.bits ≡ min FIRST_CODE_BITS bits = kept ∙ ap (λ v. bits_by v bits) first in omega (arith, is)

  pub present-bits : P.version ≢ FIRST_VERSION → P.bits ≡ bits
  present-bits other = let later : eqb P.version FIRST_VERSION ≡ false = ne_eqb P.version FIRST_VERSION other in kept ∙ ap (λ b. cond b (min FIRST_CODE_BITS bits) bits) later
