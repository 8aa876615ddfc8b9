-- Faults are counted over one call after another.
use Rattle.std.proofs.Common.{ℕ, ◌<◌, arith, ◌∙◌, refl, inl, inr}
use Rattle.std.proofs.lemmas.Bool.{cases_lt}
use Rattle.shell_io.specs.Fault.{last_count, CountsFaults, Calls}

module _ {S : Type 0} {faults : S → ℕ} {steady : S → Type 0} where
  -- no call
  pub CountsFaults-none : {a : S} → CountsFaults faults steady a a ⊥
  CountsFaults-none = record { counted = omega arith; cause = λ q. absurd q; told = λ s. (s, λ _. refl) }

  -- a call behind one that didn't fail
  pub CountsFaults-then : {a b c : S} {P Q : Type 0} → CountsFaults faults steady a b P → ¬ P → CountsFaults faults steady b c Q → CountsFaults faults steady a c Q
  CountsFaults-then {a} {b} {c} first succeeds next = record {
    counted = omega (arith, first.counted, next.counted);
    cause = λ q low.
        elim (cases_lt (faults b) last_count) [
          | inl h ↦ let rises : faults b < faults c = next.cause q h in omega (arith, first.counted, rises)
          | inr h ↦ omega (arith, low, h, next.counted)
        ];
    told = λ s.
        let one = first.told s in
        let two = next.told one.0 in
        (two.0, λ n. two.1 n ∙ one.1 succeeds);
  }

  -- the same failure in other words
  pub CountsFaults-as : {a b : S} {P Q : Type 0} → CountsFaults faults steady a b P → (P → Q) → (Q → P) → CountsFaults faults steady a b Q
  CountsFaults-as counts into back = record {
    counted = counts.counted;
    cause = λ q. counts.cause (back q);
    told = λ s. let one = counts.told s in (one.0, λ n. one.1 (λ p. n (into p)));
  }

-- no call
pub Calls-none : {S : Type 0} (faults : S → ℕ) (steady faultless : S → Type 0) (a : S) → Calls faults steady faultless a a ⊥
Calls-none faults steady faultless a = record { counts = CountsFaults-none; sure = λ s. (s, refl, λ q. q) }

-- a call behind one that didn't fail
pub Calls-then : {S : Type 0} {faults : S → ℕ} {steady faultless : S → Type 0} {a b c : S} {P Q : Type 0} →
    Calls faults steady faultless a b P → ¬ P → Calls faults steady faultless b c Q → Calls faults steady faultless a c Q
Calls-then first succeeds next = record {
  counts = CountsFaults-then first.counts succeeds next.counts;
  sure = λ s.
      let one = first.sure s in
      let two = next.sure one.0 in
      (two.0, two.1 ∙ one.1, two.2);
}

-- the same failure in other words
pub Calls-as : {S : Type 0} {faults : S → ℕ} {steady faultless : S → Type 0} {a b : S} {P Q : Type 0} →
    Calls faults steady faultless a b P → (P → Q) → (Q → P) → Calls faults steady faultless a b Q
Calls-as pulls into back = record {
  counts = CountsFaults-as pulls.counts into back;
  sure = λ s. let one = pulls.sure s in (one.0, one.1, λ q. one.2 (back q));
}
