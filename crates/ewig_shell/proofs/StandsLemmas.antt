-- What bytes without damage stand for: one valid pool, which keeps what an old one was.
use Rattle.std.proofs.Common.{◌≡◌, ◌≢◌, ℕ, ◌≤◌, Bool, true, false, ◌||◌, cond, eqb, Some, None, refl, ap, sym, subst, ◌∙◌, inl, inr, ◌⊎◌, arith}
use Rattle.std.specs.Prelude.{IsSomeAnd, MatchBool}
use Rattle.std.proofs.lemmas.Bool.{eqb-true, eqb-false, ne_eqb}
use Rattle.std.proofs.lemmas.Option.{same_Some}
use Rattle.elem_core.specs.declared.codes.TheConstants.{CODE_BITS}
use Rattle.shell_terms.specs.Edit.{Bytes}
use Rattle.pool_text.specs.Rules.{Rules, first_rules, second_rules, present_rules, rules_of}
use Rattle.pool_text.specs.Pool.{pool, at_present_version}
use Rattle.pool_text.specs.Document.{pool_in_bytes}
use Rattle.pool_text.specs.declared.pool.Pool.{Pool}
use Rattle.pool_text.specs.declared.rules.TheConstants.{FIRST_VERSION, PRESENT_VERSION, MOST_HISTORY}
use Rattle.pool_check.specs.Damages.{IsValidBy, IsValid, IsValidByVersion}
use Rattle.pool_check.specs.Laws.{IsReadAs}
use Rattle.pool_check.proofs.DocumentLaw.{undamaged-stands, valid-at-present}
use Rattle.pool_check.proofs.Versions.{present-bits}
use Rattle.pool_carry.specs.Carried.{IsCarried}
use Rattle.pool_carry.specs.Computed.{carried}
use Rattle.pool_carry.specs.Laws.{PoolsAreCarried, CarriedIsOne, CarriedIsValid, CarriedIsKept}
use Rattle.ewig_shell.specs.Step.{DocumentStandsFor}
use Rattle.ewig_shell.specs.Stands.{StandsForOne, DocumentsStand, OldDocumentsAreKept}
use Rattle.ewig_shell.proofs.DocumentLemmas.{carried-at-present, stands-carried, stands-present}

-- ## Valid by the rules of its version

abbrev valid_by : Pool → Rules → Type 0
valid_by P rules = IsValidBy rules P

module _ (P : Pool) (valid : IsValidByVersion P) where
  first-valid : P.version ≡ FIRST_VERSION → IsValidBy first_rules P
  first-valid first = subst (λ v. IsSomeAnd (rules_of v) (valid_by P)) first valid

  -- or one of a later version
  by-version : (one later : Bool) → eqb P.version 1 ≡ one → IsSomeAnd (cond one (Some first_rules) (cond later (Some second_rules) None)) (valid_by P)
      → (P.version ≡ FIRST_VERSION) ⊎ (P.version ≢ FIRST_VERSION) × IsValid P
  by-version true later is _ = inl (eqb-true P.version 1 is)
  by-version false true is valid = inr (eqb-false P.version 1 is, valid)
  by-version false false is none = absurd none

  either : (P.version ≡ FIRST_VERSION) ⊎ (P.version ≢ FIRST_VERSION) × IsValid P
  either = by-version (eqb P.version 1) (eqb P.version 2 || eqb P.version 3) refl valid

-- ## The pool that bytes stand for

abbrev by_version : ℕ → Pool → Pool → Type 0
by_version bits Q P = MatchBool (eqb P.version FIRST_VERSION) (IsCarried present_rules bits P Q) (Q ≡ at_present_version P)

module _ (bits : ℕ) (bytes : Bytes) (P Q : Pool) (read : pool_in_bytes bytes ≡ Some P) (stands : DocumentStandsFor bits bytes Q) where
  stood : by_version bits Q P
  stood = subst (λ o. IsSomeAnd o (by_version bits Q)) read stands

  carried-stood : P.version ≡ FIRST_VERSION → IsCarried present_rules bits P Q
  carried-stood first = subst (λ v. MatchBool (eqb v FIRST_VERSION) (IsCarried present_rules bits P Q) (Q ≡ at_present_version P)) first stood

  present-stood : P.version ≢ FIRST_VERSION → Q ≡ at_present_version P
  present-stood other = subst (λ b. MatchBool b (IsCarried present_rules bits P Q) (Q ≡ at_present_version P)) (ne_eqb P.version FIRST_VERSION other) stood

carried-bits : (bits : ℕ) (P Q : Pool) → IsCarried present_rules bits P Q → Q.bits ≡ bits
unfolding pool
carried-bits bits P Q c = ap (λ (R : Pool). R.bits) c.same

module _ (bits : ℕ) (bytes : Bytes) (P : Pool) (is : IsReadAs bits P bytes) where
  old-stands : PoolsAreCarried → CarriedIsOne → CarriedIsValid → bits ≤ CODE_BITS → P.version ≡ FIRST_VERSION → StandsForOne bits bytes
  old-stands pools-carried carried-alone carried-valid few first =
      let valid = first-valid P is.valid first in
      let Q : Pool = carried present_rules bits P in
      let comes : IsCarried present_rules bits P Q = pools-carried first_rules present_rules bits P valid in
      record {
        pool = Q;
        stands = subst (DocumentStandsFor bits bytes) (carried-at-present bits P Q comes) (stands-carried bits bytes P Q is.read first comes);
        valid = carried-valid first_rules present_rules bits P Q (omega (arith, few)) valid comes;
        same_bits = carried-bits bits P Q comes;
        alone = λ R other. carried-alone first_rules present_rules bits P R Q valid (carried-stood bits bytes P R is.read other first) comes;
      }

  present-one : P.version ≢ FIRST_VERSION → IsValid P → StandsForOne bits bytes
  present-one other valid = record {
    pool = at_present_version P;
    stands = stands-present bits bytes P (at_present_version P) is.read other refl;
    valid = valid-at-present P valid;
    same_bits = present-bits P bits is.kept other;
    alone = λ R stands. present-stood bits bytes P R is.read stands other;
  }

pub documents-stand : PoolsAreCarried → CarriedIsOne → CarriedIsValid → DocumentsStand
documents-stand comes alone valid bits bytes few whole =
    let read = undamaged-stands bits bytes whole in
    elim (either read.0 read.1.valid) [
      | inl first ↦ old-stands bits bytes read.0 read.1 comes alone valid few first
      | inr later ↦ present-one bits bytes read.0 read.1 later.0 later.1
    ]

pub old-documents-kept : CarriedIsKept → OldDocumentsAreKept
old-documents-kept carried-kept bits bytes P Q whole read first stands =
    let found = undamaged-stands bits bytes whole in
    let same : P ≡ found.0 = same_Some P found.0 (sym read ∙ found.1.read) in
    let valid : IsValidByVersion P = subst IsValidByVersion (sym same) found.1.valid in
    let history : P.history ≡ MOST_HISTORY = ap (λ (R : Pool). R.history) same ∙ found.1.history.older (λ later. let never : FIRST_VERSION ≡ PRESENT_VERSION = sym first ∙ ap (λ (R : Pool). R.version) same ∙ later in cc) in
    carried-kept first_rules present_rules bits P Q (first-valid P valid first) history (carried-stood bits bytes P Q read stands first)
