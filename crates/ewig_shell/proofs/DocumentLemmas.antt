-- What a document stands for, by its version.
use Rattle.std.proofs.Common.{◌≡◌, ◌≢◌, ℕ, true, cond, eqb, Option, Some, None, Result, Ok, Err, refl, ap, sym, subst, ◌∙◌}
use Rattle.std.specs.Prelude.{not, option_and_then, IsSomeAnd, MatchBool}
use Rattle.std.specs.List.{list_all}
use Rattle.std.specs.Option.{option_or}
use Rattle.std.specs.Result.{IfOk}
use Rattle.std.proofs.lemmas.Bool.{ne_eqb, eq-eqb}
use Rattle.std.proofs.lemmas.Option.{none-some, option_and_then_some}
use Rattle.shell_terms.specs.Edit.{Bytes}
use Rattle.pool_text.specs.Rows.{is_in_range}
use Rattle.pool_text.specs.Rules.{Rules, first_rules, present_rules, rules_of}
use Rattle.pool_text.specs.Pool.{pool, at_present_version}
use Rattle.pool_text.specs.Document.{DocumentParts, parts_in, rows_in, pool_by, pool_from, pool_in, value_in, pool_in_bytes, parts_damage_by, parts_damage, value_damage, bytes_damage, or_damage, present_parts_damage, present_value_damage, present_bytes_damage}
use Rattle.pool_text.specs.declared.pool.Pool.{Pool}
use Rattle.pool_text.specs.declared.rules.TheConstants.{FIRST_VERSION, PRESENT_VERSION}
use Rattle.pool_text.specs.declared.damage.Damage.{Damage}
use Rattle.pool_text.specs.declared.damage.Damage.TheVariants.{Json, Form as FormDamage, Version, Memory}
use Rattle.pool_text.proofs.DocumentBack.{mapped}
use Rattle.pool_check.specs.Rows.{rows_in_range_by}
use Rattle.pool_check.specs.Damages.{damage, damage_by, own_damage, document_damage, IsValid}
use Rattle.pool_check.specs.Laws.{IsDocumentOf}
use Rattle.pool_carry.specs.Carried.{IsCarried}
use Rattle.pool_delta.specs.Chains.{start_damage}
use Rattle.pool_delta.proofs.ChainCode.{start-found}
use Rattle.ewig_shell.specs.Step.{DocumentStandsFor}
use Rattle.ewig_shell.specs.RoundTrip.{IsPresent}

-- ## Tests by the rules of the version

pub own-first : (P : Pool) (found : Option Damage) → P.version ≡ FIRST_VERSION → damage_by first_rules P ≡ found → own_damage P ≡ found
own-first P found first is = ap (λ v. option_and_then (λ (r : Rules). damage_by r P) (rules_of v)) first ∙ is

pub own-present : (P : Pool) (found : Option Damage) → rules_of P.version ≡ Some present_rules → damage P ≡ found → own_damage P ≡ found
own-present P found now is = ap (λ o. option_and_then (λ (r : Rules). damage_by r P) o) now ∙ is

-- ## Pools that are carried over

pub valid-range : (P : Pool) → IsValid P → list_all is_in_range P.rows ≡ true
unfolding rows_in_range_by
valid-range P valid = valid.in_range

-- a damage that can be no test is want of memory
pub no-test : (d : Damage) → (d ≢ Memory → ⊥) → d ≡ Memory
no-test Memory never = refl
no-test _ never = absurd (never (λ e. cc))

-- what two clauses say of a result together
pub both-ok : {A E : Type 0} (r : Result A E) (P Q R : A → Type 0) → ((x : A) → P x → Q x → R x) → IfOk r P → IfOk r Q → IfOk r R
both-ok (Ok x) P Q R both p q = both x p q
both-ok (Err e) P Q R both p q = tt

-- ## What the bytes stand for

abbrev by_version : ℕ → Pool → Pool → Type 0
by_version bits Q P = MatchBool (eqb P.version FIRST_VERSION) (IsCarried present_rules bits P Q) (Q ≡ at_present_version P)

-- what is carried over has the present version
pub carried-at-present : (bits : ℕ) (P Q : Pool) → IsCarried present_rules bits P Q → at_present_version Q ≡ Q
unfolding pool
carried-at-present bits P Q c = ap (λ v. record Q { version = v }) (sym (ap (λ (R : Pool). R.version) c.same))

module _ (bits : ℕ) (bytes : Bytes) (P Q : Pool) (read : pool_in_bytes bytes ≡ Some P) where
  pub stands-carried : P.version ≡ FIRST_VERSION → IsCarried present_rules bits P Q → DocumentStandsFor bits bytes (at_present_version Q)
  stands-carried first is =
      let carried : IsCarried present_rules bits P (at_present_version Q) = subst (IsCarried present_rules bits P) (sym (carried-at-present bits P Q is)) is in
      subst (λ o. IsSomeAnd o (by_version bits (at_present_version Q))) (sym read) (subst (λ v. MatchBool (eqb v FIRST_VERSION) (IsCarried present_rules bits P (at_present_version Q)) (at_present_version Q ≡ at_present_version P)) (sym first) carried)

  pub stands-present : P.version ≢ FIRST_VERSION → Q ≡ at_present_version P → DocumentStandsFor bits bytes Q
  stands-present other is =
      subst (λ o. IsSomeAnd o (by_version bits Q)) (sym read) (subst (λ b. MatchBool b (IsCarried present_rules bits P Q) (Q ≡ at_present_version P)) (sym (ne_eqb P.version FIRST_VERSION other)) is)

-- of the present version, for the pool of their rows
pub present-stands : (bits : ℕ) (bytes : Bytes) (Q : Pool) → IsPresent bytes → DocumentStandsFor bits bytes Q → (pool_in_bytes bytes ≡ Some Q) × (Q.version ≡ PRESENT_VERSION)
present-stands bits bytes Q now stands = by (pool_in_bytes bytes) now stands
  where
    by : (o : Option Pool) → IsSomeAnd o (λ P. P.version ≡ PRESENT_VERSION) → IsSomeAnd o (by_version bits Q) → (o ≡ Some Q) × (Q.version ≡ PRESENT_VERSION)
    by None now stands = absurd now
    by (Some P) now stands =
        let same : Q ≡ at_present_version P = subst (λ v. MatchBool (eqb v FIRST_VERSION) (IsCarried present_rules bits P Q) (Q ≡ at_present_version P)) now stands in
        let as_made : at_present_version P ≡ P = ap (λ v. record P { version = v }) (sym now) in
        (ap Some (sym (same ∙ as_made)), ap (λ (R : Pool). R.version) same)

pub is-present : (bytes : Bytes) (P : Pool) → pool_in_bytes bytes ≡ Some P → P.version ≡ PRESENT_VERSION → IsPresent bytes
is-present bytes P read now = subst (λ o. IsSomeAnd o (λ (R : Pool). R.version ≡ PRESENT_VERSION)) (sym read) now

-- ## The first document of a chain

-- one of which a pool is read has the pool's version
version-read : (p : DocumentParts) (Q : Pool) → pool_from p ≡ Some Q → p.version ≡ Q.version
version-read p Q e =
    option_and_then_some (pool_by p) (rules_of p.version) Q e (λ rules _ by.
    mapped (λ rows. record { bits = p.bits; version = p.version; history = p.history; rows = rows; roots = p.roots }) (rows_in p rules) Q by (λ rows _ is. ap (λ (R : Pool). R.version) is))

-- one without damage, of the version that is written, has none as the first
module _ (bits : ℕ) (Q : Pool) (now : Q.version ≡ PRESENT_VERSION) where
  present-parts : (o : Option DocumentParts) → option_and_then pool_from o ≡ Some Q → or_damage FormDamage (parts_damage bits) o ≡ None → or_damage FormDamage (present_parts_damage bits) o ≡ None
  present-parts None e whole = absurd (none-some Q e)
  present-parts (Some p) e whole =
      let is : p.version ≡ PRESENT_VERSION = version-read p Q e ∙ now in
      ap (λ b. cond (not b) (Some Version) (parts_damage_by bits p present_rules)) (eq-eqb p.version PRESENT_VERSION is)
      ∙ sym (ap (or_damage Version (parts_damage_by bits p)) (ap rules_of is)) ∙ whole

  present-value : {X : Type 0} (parts : X → Option DocumentParts) (o : Option X) → option_and_then (λ d. option_and_then pool_from (parts d)) o ≡ Some Q
      → or_damage Json (λ d. or_damage FormDamage (parts_damage bits) (parts d)) o ≡ None → or_damage Json (λ d. or_damage FormDamage (present_parts_damage bits) (parts d)) o ≡ None
  present-value parts None e whole = absurd (none-some Q e)
  present-value parts (Some d) e whole = present-parts (parts d) e whole

  present-bytes : (bytes : Bytes) → pool_in_bytes bytes ≡ Some Q → bytes_damage bits bytes ≡ None → present_bytes_damage bits bytes ≡ None
  unfolding pool_in value_damage bytes_damage present_value_damage present_bytes_damage
  present-bytes bytes read whole = present-value parts_in (value_in bytes) read whole

none-before : (a b : Option Damage) → option_or a b ≡ None → (a ≡ None) × (b ≡ None)
none-before None b e = (refl, e)
none-before (Some d) b e = absurd (let some : Some d ≡ None = e in cc)

pub begins-chain : (P : Pool) (bytes : Bytes) → IsDocumentOf P bytes → start_damage P.bits bytes ≡ None
unfolding document_damage
begins-chain P bytes is =
    let Q : Pool = at_present_version P in
    let none = none-before (bytes_damage P.bits bytes) (option_and_then own_damage (pool_in_bytes bytes)) is.undamaged in
    let own : damage Q ≡ None = sym (ap (option_and_then own_damage) is.read) ∙ none.1 in
    start-found P.bits bytes Q None (present-bytes P.bits Q refl bytes is.read none.0) is.read own
