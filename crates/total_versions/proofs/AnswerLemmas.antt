-- What a store answered is what the total call answers.
use Rattle.std.proofs.Common.{◌≡◌, ℕ, ◌≤◌, List, [], ◌∷◌, zero, suc, length, Option, Some, None, refl, sym, ◌∙◌, arith}
use Rattle.std.specs.Prelude.{◌↔◌, Bool, false, IsTrue, Result, Ok, Err, IfOk, IfErr, IsErrAnd, OnErr, slice_get}
use Rattle.std.specs.FinMap as map
use Rattle.std.proofs.lemmas.Option.{slice_get_within}
use Rattle.versions.specs.Store.{Versions}
use Rattle.versions.specs.declared.faults.Fault.{Fault}
use Rattle.versions.specs.declared.faults.Refused.{Refused}
use Rattle.versions.specs.declared.faults.Fault.TheVariants as fault
use Rattle.total_versions.specs.Answers.{Answers, refusal_of, told, told_back, told_memory, told_here, told_back_here, told_memory_here}
use Rattle.total_versions.specs.Calls.{Makes, Edits}

pub not-yes : {b : Bool} → IsTrue b → b ≡ false → ⊥
not-yes holds fails = absurd cc

-- what never comes is answered nowhere
pub never : {P : Type 0} → (P → ⊥) → (P ↔ ⊥)
never denied = (denied, λ none. absurd none)

pub no-err : {A E : Type 0} (r : Result A E) (P : E → Type 0) → IfErr r (λ e. P e → ⊥) → IsErrAnd r P → ⊥
no-err (Ok x) P denied is = is
no-err (Err e) P denied is = denied is

-- what is found isn't absent
pub found : {X : Type 0} {o : Option X} {x : X} → o ≡ Some x → o ≡ None → ⊥
found is none = absurd (let bad = sym is ∙ none in cc)

pub got-near : {X : Type 0} (xs : List X) (i : ℕ) (x : X) → slice_get xs i ≡ Some x → length xs ≤ i → ⊥
got-near xs i x got past = omega (arith, past, slice_get_within xs i x got)

pub none-far : {X : Type 0} (xs : List X) (i : ℕ) → slice_get xs i ≡ None → length xs ≤ i
none-far [] i none = omega arith
none-far (x ∷ xs) zero none = absurd (let bad = none in cc)
none-far (x ∷ xs) (suc i) none = omega (arith, none-far xs i none)

module _ {A : Type 0} {held past long same : Type 0} (done : A → Type 0) where
  -- a fault is answered by its own name
  refused : held → same → (f : Fault) → ((f ≡ fault.Range) ↔ past) → ((f ≡ fault.Long) ↔ long) → Answers held past long done same (Err (refusal_of f))
  refused is kept fault.Long range long = (is, long.0 refl, kept)
  refused is kept fault.Range range long = (is, range.0 refl, kept)
  refused is kept fault.Memory range long = (is, (λ p. absurd (let bad = range.1 p in cc)), (λ l. absurd (let bad = long.1 l in cc)), kept)

module _ {held past long : Type 0} (same : Type 0) (done : ℕ → Type 0) where
  answers : held → (r : Result ℕ Fault) → IfOk r done → OnErr r same → ((r ≡ Err fault.Range) ↔ past) → ((r ≡ Err fault.Long) ↔ long) → Answers held past long done same (told r)
  answers is (Ok v) so kept range long = (is, (λ p. absurd (let bad = range.1 p in cc)), (λ l. absurd (let bad = long.1 l in cc)), so)
  answers is (Err fault.Long) so kept range long = (is, long.0 refl, kept)
  answers is (Err fault.Range) so kept range long = (is, range.0 refl, kept)
  answers is (Err fault.Memory) so kept range long = (is, (λ p. absurd (let bad = range.1 p in cc)), (λ l. absurd (let bad = long.1 l in cc)), kept)

  answers-back : {X : Type 0} → held → (r : Result ℕ (Refused X)) → IfOk r done → OnErr r same → (IsErrAnd r (λ e. e.fault ≡ fault.Range) ↔ past) → (IsErrAnd r (λ e. e.fault ≡ fault.Long) ↔ long) → Answers held past long done same (told_back r)
  answers-back is (Ok v) so kept range long = (is, range.1, long.1, so)
  answers-back is (Err e) so kept range long = refused done is kept e.fault range long

  answers-memory : {E : Type 0} → held → (r : Result ℕ E) → IfOk r done → OnErr r same → (past → ⊥) → (long → ⊥) → Answers held past long done same (told_memory r)
  answers-memory is (Ok v) so kept near short = (is, near, short, so)
  answers-memory is (Err _) so kept near short = (is, near, short, kept)

  answers-here : (v : ℕ) → held → (r : Result (Unit {0}) Fault) → IfOk r (λ _. done v) → OnErr r same → ((r ≡ Err fault.Range) ↔ past) → ((r ≡ Err fault.Long) ↔ long) → Answers held past long done same (told_here v r)
  answers-here v is (Ok _) so kept range long = (is, (λ p. absurd (let bad = range.1 p in cc)), (λ l. absurd (let bad = long.1 l in cc)), so)
  answers-here v is (Err fault.Long) so kept range long = (is, long.0 refl, kept)
  answers-here v is (Err fault.Range) so kept range long = (is, range.0 refl, kept)
  answers-here v is (Err fault.Memory) so kept range long = (is, (λ p. absurd (let bad = range.1 p in cc)), (λ l. absurd (let bad = long.1 l in cc)), kept)

  answers-back-here : {X : Type 0} (v : ℕ) → held → (r : Result (Unit {0}) (Refused X)) → IfOk r (λ _. done v) → OnErr r same → (IsErrAnd r (λ e. e.fault ≡ fault.Range) ↔ past) → (IsErrAnd r (λ e. e.fault ≡ fault.Long) ↔ long) → Answers held past long done same (told_back_here v r)
  answers-back-here v is (Ok _) so kept range long = (is, range.1, long.1, so)
  answers-back-here v is (Err e) so kept range long = refused done is kept e.fault range long

  answers-memory-here : {E : Type 0} (v : ℕ) → held → (r : Result (Unit {0}) E) → IfOk r (λ _. done v) → OnErr r same → (past → ⊥) → (long → ⊥) → Answers held past long done same (told_memory_here v r)
  answers-memory-here v is (Ok _) so kept near short = (is, near, short, so)
  answers-memory-here v is (Err _) so kept near short = (is, near, short, kept)

-- the two clauses on a version that was made, in one
both-ok : {A E : Type 0} (r : Result A E) (P Q : A → Type 0) → IfOk r P → IfOk r Q → IfOk r (λ x. P x × Q x)
both-ok (Ok x) P Q p q = (p, q)
both-ok (Err e) P Q p q = tt

module _ {V : Type 0} {held past long : Type 0} (had now : Versions V) (value : V) (is : held) where
  pub makes : (r : Result ℕ Fault) → IfOk r (λ v. map.get had v ≡ None) → IfOk r (λ v. now ≡ map.insert had v value) → OnErr r (now ≡ had) → ((r ≡ Err fault.Range) ↔ past) → ((r ≡ Err fault.Long) ↔ long) → Makes held past long value had now (told r)
  makes r fresh made kept range long = answers (now ≡ had) (λ v. (map.get had v ≡ None) × (now ≡ map.insert had v value)) is r (both-ok r (λ v. map.get had v ≡ None) (λ v. now ≡ map.insert had v value) fresh made) kept range long

  pub makes-back : {X : Type 0} (r : Result ℕ (Refused X)) → IfOk r (λ v. map.get had v ≡ None) → IfOk r (λ v. now ≡ map.insert had v value) → OnErr r (now ≡ had) → (IsErrAnd r (λ e. e.fault ≡ fault.Range) ↔ past) → (IsErrAnd r (λ e. e.fault ≡ fault.Long) ↔ long) → Makes held past long value had now (told_back r)
  makes-back r fresh made kept range long = answers-back (now ≡ had) (λ v. (map.get had v ≡ None) × (now ≡ map.insert had v value)) is r (both-ok r (λ v. map.get had v ≡ None) (λ v. now ≡ map.insert had v value) fresh made) kept range long

  pub makes-memory : {E : Type 0} (r : Result ℕ E) → IfOk r (λ v. map.get had v ≡ None) → IfOk r (λ v. now ≡ map.insert had v value) → OnErr r (now ≡ had) → (past → ⊥) → (long → ⊥) → Makes held past long value had now (told_memory r)
  makes-memory r fresh made kept near short = answers-memory (now ≡ had) (λ v. (map.get had v ≡ None) × (now ≡ map.insert had v value)) is r (both-ok r (λ v. map.get had v ≡ None) (λ v. now ≡ map.insert had v value) fresh made) kept near short

-- what is done to the version itself
also-same : {V E : Type 0} (had now : Versions V) (version : ℕ) (value : V) (r : Result (Unit {0}) E) → IfOk r (λ _. now ≡ map.insert had version value) → IfOk r (λ _. (version ≡ version) × (now ≡ map.insert had version value))
also-same had now version value (Ok _) made = (refl, made)
also-same had now version value (Err e) made = tt

module _ {V : Type 0} {held past long : Type 0} (had now : Versions V) (version : ℕ) (value : V) (is : held) where
  pub edits : (r : Result (Unit {0}) Fault) → IfOk r (λ _. now ≡ map.insert had version value) → OnErr r (now ≡ had) → ((r ≡ Err fault.Range) ↔ past) → ((r ≡ Err fault.Long) ↔ long) → Edits held past long version value had now (told_here version r)
  edits r made kept range long = answers-here (now ≡ had) (λ v. (v ≡ version) × (now ≡ map.insert had version value)) version is r (also-same had now version value r made) kept range long

  pub edits-back : {X : Type 0} (r : Result (Unit {0}) (Refused X)) → IfOk r (λ _. now ≡ map.insert had version value) → OnErr r (now ≡ had) → (IsErrAnd r (λ e. e.fault ≡ fault.Range) ↔ past) → (IsErrAnd r (λ e. e.fault ≡ fault.Long) ↔ long) → Edits held past long version value had now (told_back_here version r)
  edits-back r made kept range long = answers-back-here (now ≡ had) (λ v. (v ≡ version) × (now ≡ map.insert had version value)) version is r (also-same had now version value r made) kept range long

  pub edits-memory : {E : Type 0} (r : Result (Unit {0}) E) → IfOk r (λ _. now ≡ map.insert had version value) → OnErr r (now ≡ had) → (past → ⊥) → (long → ⊥) → Edits held past long version value had now (told_memory_here version r)
  edits-memory r made kept near short = answers-memory-here (now ≡ had) (λ v. (v ≡ version) × (now ≡ map.insert had version value)) version is r (also-same had now version value r made) kept near short
