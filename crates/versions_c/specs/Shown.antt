-- Many values that are shown at once.
use Rattle.std.specs.Prelude.{◌≡◌, ◌⊎◌, ⊤, ℕ, ◌+◌, ◌<◌, ◌≤◌, List, [], ◌∷◌, ◌++◌, length, map, take, sum_by, Result}
use Rattle.champ_chain.specs.Entry.{SameSet}
use Rattle.versions.specs.Store.{Versions, Holds}
use Rattle.versions.specs.Sorted.{keys_of, entries_of}
use Rattle.total_versions.specs.declared.answers.Refusal.{Refusal}
use Rattle.total_versions.specs.Answers.{AnswersAtOnce}
use Rattle.versions_c.specs.declared.fill.Place.{Place}
use Rattle.versions_c.specs.declared.form.Form.{Form}
use Rattle.versions_c.specs.declared.value.Value.{Value}
use Rattle.versions_c.specs.Values.{value_bytes, form_of}

-- how many bytes beside its form a value has
abbrev pub size : Value → ℕ
size x = length (value_bytes x)

-- the bytes of all, one after another
abbrev pub all_bytes : List Value → List ℕ
all_bytes [] = []
all_bytes (x ∷ xs) = value_bytes x ++ all_bytes xs

-- the forms begin with those of these values, and the room with their bytes
pub record AreShown (xs : List Value) (fs : List Form) (room : List ℕ) : Type 0 where
  pub forms : take (length xs) fs ≡ map form_of xs
  pub bytes : take (sum_by size xs) room ≡ all_bytes xs

-- so many forms or so many bytes are too few for these values
abbrev pub HasTooLittle : List Value → (forms bytes : ℕ) → Type 0
HasTooLittle xs forms bytes = (forms < length xs) ⊎ (bytes < sum_by size xs)

-- the values stand before this place
pub record StandBefore (xs : List Value) (at : Place) (forms : List Form) (room : List ℕ) : Type 0 where
  pub count : at.count ≡ length xs
  pub bytes : at.bytes ≡ sum_by size xs
  pub few : at.bytes ≤ length room
  pub shown : AreShown xs forms room

-- the keys are shown, in some order
abbrev pub KeysShown : List Value → List Form → List ℕ → Type 0
KeysShown keys forms room = (xs : List Value) × SameSet xs keys × AreShown xs forms room

-- keys and values by turns
abbrev pub flat : List (Value × Value) → List Value
flat [] = []
flat (e ∷ es) = e.0 ∷ e.1 ∷ flat es

-- the entries are shown, in some order, each as its key and then its value
abbrev pub EntriesShown : List (Value × Value) → List Form → List ℕ → Type 0
EntriesShown entries forms room = (es : List (Value × Value)) × SameSet es entries × AreShown (flat es) forms room

-- how many values there are, where there is room for all
abbrev pub Fills : (held : Type 0) → List Value → (forms bytes : ℕ) → Result ℕ Refusal → Type 0
Fills held values forms bytes r = AnswersAtOnce held (HasTooLittle values forms bytes) (λ n. n ≡ length values) ⊤ r

abbrev pub FillsKeys : ℕ → (forms bytes : ℕ) → Versions (List Value) → Result ℕ Refusal → Type 0
FillsKeys version forms bytes had r = Fills (Holds had version) (keys_of had version) forms bytes r

abbrev pub FillsEntries : ℕ → (forms bytes : ℕ) → Versions (List (Value × Value)) → Result ℕ Refusal → Type 0
FillsEntries version forms bytes had r = Fills (Holds had version) (flat (entries_of had version)) forms bytes r
