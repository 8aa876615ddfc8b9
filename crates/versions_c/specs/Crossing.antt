-- How an answer and a value cross: the code of an answer, the places that it is put into, and what was passed.
use Rattle.std.specs.Prelude.{◌≡◌, ◌⊎◌, ℕ, List, IsTrue, Result, Ok, Err}
use Rattle.total_versions.specs.declared.answers.Refusal.{Refusal}
use Rattle.total_versions.specs.declared.answers.Refusal.TheVariants.{NoStore, NoVersion, Range, Long, Memory, NotText}
use Rattle.total_versions.specs.Answers.{refusal_code}
use Rattle.versions_c.specs.declared.form.Form.{Form}
use Rattle.versions_c.specs.declared.value.Value.{Value}
use Rattle.versions_c.specs.Values.{IsGiven, given, shown_value}

-- 0 of a value
abbrev pub code_of : {A : Type 0} → Result A Refusal → ℕ
code_of (Ok x) = 0
code_of (Err r) = refusal_code r

-- what stands in a place where a value was put, and stood there where none was
abbrev pub put_or : {A : Type 0} → A → Result A Refusal → A
put_or was (Ok x) = x
put_or was (Err r) = was

-- the same of a value, by its form and the room for its bytes
abbrev pub shown_or : Form × List ℕ → Result Value Refusal → Form × List ℕ
shown_or was (Ok x) = shown_value was x
shown_or was (Err r) = was

-- the value that is passed, which a number always is; the bytes are no text; or memory ran out for a text
abbrev pub Taken : Form → List ℕ → Result Value Refusal → Type 0
Taken form bytes (Ok x) = IsGiven form bytes × (x ≡ given form bytes)
Taken form bytes (Err NotText) = IsGiven form bytes → ⊥
Taken form bytes (Err Memory) = IsGiven form bytes × IsTrue form.is_text
Taken form bytes (Err NoStore) = ⊥
Taken form bytes (Err NoVersion) = ⊥
Taken form bytes (Err Range) = ⊥
Taken form bytes (Err Long) = ⊥

-- the first value, or why there is none; and then the second
abbrev pub TakenPair : Form → List ℕ → Form → List ℕ → Result (Value × Value) Refusal → Type 0
TakenPair form bytes form' bytes' (Ok p) = Taken form bytes (Ok p.0) × Taken form' bytes' (Ok p.1)
TakenPair form bytes form' bytes' (Err r) = Taken form bytes (Err r) ⊎ (IsGiven form bytes × Taken form' bytes' (Err r))
