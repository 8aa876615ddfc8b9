-- What a call answers: a value, or why it did nothing.
use Rattle.std.specs.Prelude.{ℕ, Result, Ok, Err}
use Rattle.std.specs.Borrow.{Bor}
use Rattle.versions.specs.declared.faults.Fault.{Fault}
use Rattle.versions.specs.declared.faults.Refused.{Refused}
use Rattle.versions.specs.declared.faults.Fault.TheVariants as fault
use Rattle.total_versions.specs.declared.answers.Refusal.{Refusal}
use Rattle.total_versions.specs.declared.answers.Refusal.TheVariants.{NoStore, NoVersion, Range, Long, Memory, NotText}

-- the number of a refusal outside
abbrev pub refusal_code : Refusal → ℕ
refusal_code NoStore = 1
refusal_code NoVersion = 2
refusal_code Range = 3
refusal_code Long = 4
refusal_code Memory = 5
refusal_code NotText = 6

abbrev pub refusal_of : Fault → Refusal
refusal_of fault.Long = Long
refusal_of fault.Range = Range
refusal_of fault.Memory = Memory

-- what a store answered
abbrev pub told : Result ℕ Fault → Result ℕ Refusal
told (Ok v) = Ok v
told (Err f) = Err (refusal_of f)

abbrev pub told_back : {X : Type 0} → Result ℕ (Refused X) → Result ℕ Refusal
told_back (Ok v) = Ok v
told_back (Err r) = Err (refusal_of r.fault)

-- the same where it wants memory alone
abbrev pub told_memory : {E : Type 0} → Result ℕ E → Result ℕ Refusal
told_memory (Ok v) = Ok v
told_memory (Err _) = Err Memory

-- the same of a version that it edited
abbrev pub told_here : ℕ → Result (Unit {0}) Fault → Result ℕ Refusal
told_here v (Ok _) = Ok v
told_here v (Err f) = Err (refusal_of f)

abbrev pub told_back_here : {X : Type 0} → ℕ → Result (Unit {0}) (Refused X) → Result ℕ Refusal
told_back_here v (Ok _) = Ok v
told_back_here v (Err r) = Err (refusal_of r.fault)

abbrev pub told_memory_here : {E : Type 0} → ℕ → Result (Unit {0}) E → Result ℕ Refusal
told_memory_here v (Ok _) = Ok v
told_memory_here v (Err _) = Err Memory

-- what is behind the reference that was answered
abbrev pub lent : {A : Type 0} → Result (Bor A) Refusal → Result A Refusal
lent (Ok x) = Ok x.now
lent (Err r) = Err r

-- The call did what `done` says, or it did nothing and says why: exactly where the version isn't held, where the index is past the
-- end or the key is absent, or where the list is too long, and else only for want of memory.
abbrev pub Answers : {A : Type 0} → (held past long : Type 0) → (done : A → Type 0) → (same : Type 0) → Result A Refusal → Type 0
Answers held past long done same (Ok x) = held × (past → ⊥) × (long → ⊥) × done x
Answers held past long done same (Err NoStore) = ⊥
Answers held past long done same (Err NoVersion) = (held → ⊥) × same
Answers held past long done same (Err Range) = held × past × same
Answers held past long done same (Err Long) = held × long × same
Answers held past long done same (Err Memory) = held × (past → ⊥) × (long → ⊥) × same
Answers held past long done same (Err NotText) = ⊥

-- The same of a call that takes no memory and makes no list: it is refused for these two reasons alone.
abbrev pub AnswersAtOnce : {A : Type 0} → (held past : Type 0) → (done : A → Type 0) → (same : Type 0) → Result A Refusal → Type 0
AnswersAtOnce held past done same (Ok x) = held × (past → ⊥) × done x
AnswersAtOnce held past done same (Err NoStore) = ⊥
AnswersAtOnce held past done same (Err NoVersion) = (held → ⊥) × same
AnswersAtOnce held past done same (Err Range) = held × past × same
AnswersAtOnce held past done same (Err Long) = ⊥
AnswersAtOnce held past done same (Err Memory) = ⊥
AnswersAtOnce held past done same (Err NotText) = ⊥
