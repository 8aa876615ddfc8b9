-- What questions answer.
use Rattle.std.specs.Prelude.{◌≡◌, ◌↔◌, Bool, List, Option, Some, None, Result, Ok, Err, IsTrue, IsSomeAnd, IsOkAnd}
use Rattle.shell_terms.specs.Edit.{Bytes}
use Rattle.plain_space.specs.declared.refusal.Refusal.{Refusal}
use Rattle.plain_space.specs.declared.refusal.Refusal.TheVariants.{Absent, Exists, Range, Limit, Batch, Empty, Memory}
use Rattle.plain_space.specs.Workspace.{Workspace, lines_of}

-- what is answered of a buffer's lines: this answer, or Range where the lines have no such part, or Absent exactly where there
-- is no such buffer, and no other refusal
abbrev pub OnLines : {X : Type 0} → Workspace → Bytes → Result X Refusal → (List Bytes → X → Type 0) → (List Bytes → Type 0) → Type 0
OnLines W name (Ok x) IsAnswer IsPast = IsSomeAnd (lines_of W.current name) (λ lines. IsAnswer lines x)
OnLines W name (Err Range) IsAnswer IsPast = IsSomeAnd (lines_of W.current name) IsPast
OnLines W name (Err Absent) IsAnswer IsPast = lines_of W.current name ≡ None
OnLines W name (Err Exists) IsAnswer IsPast = ⊥
OnLines W name (Err Limit) IsAnswer IsPast = ⊥
OnLines W name (Err Batch) IsAnswer IsPast = ⊥
OnLines W name (Err Empty) IsAnswer IsPast = ⊥
OnLines W name (Err Memory) IsAnswer IsPast = ⊥

-- what is answered of two that may be there: whether they are equal, or Absent exactly where one of them isn't there
abbrev pub AreEqual : {X : Type 0} → Option X → Option X → Result Bool Refusal → Type 0
AreEqual (Some x) (Some y) result = IsOkAnd result (λ same. IsTrue same ↔ (x ≡ y))
AreEqual (Some x) None result = result ≡ Err Absent
AreEqual None y result = result ≡ Err Absent
