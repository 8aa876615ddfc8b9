-- What a reader of a document answers.
use Rattle.std.specs.Prelude.{◌≡◌, ◌≢◌, ℕ, List, [], ◌∷◌, map, length, Option, Some, None, Result, Ok, Err}
use Rattle.serde_json.specs.Data.{Data}
use Rattle.serde_json.specs.View.{view}
use Rattle.pool_text.specs.Rows.{is_between}
use Rattle.pool_text.specs.Document.{DocumentParts, numbers_in, kept_if}
use Rattle.pool_text.specs.declared.from_json.Parts.{Parts}
use Rattle.pool_text.specs.declared.damage.Damage.{Damage}
use Rattle.pool_text.specs.declared.damage.Damage.TheVariants.{Memory}

-- the answer is seen as what is there, or it is this damage and nothing is there, or memory ran out
abbrev pub Reads : {A X : Type 0} → (A → X) → Damage → Option X → Result A Damage → Type 0
Reads seen d found (Ok a) = found ≡ Some (seen a)
Reads seen d found (Err e) = e ≢ Memory → (e ≡ d) × (found ≡ None)

-- the values that follow, with that of `history` before them where there is one
abbrev pub with_history : Option Data → List Data → List Data
with_history (Some value) values = value ∷ values
with_history None values = values

-- so many numbers
abbrev pub numbers_between : ℕ → ℕ → Data → Option (List ℕ)
numbers_between least most d = kept_if (λ ns. is_between least most (length ns)) (numbers_in d)

-- so many numbers, where nothing else is there
abbrev pub links_between : ℕ → ℕ → List Data → Option (List ℕ)
links_between least most (d ∷ []) = numbers_between least most d
links_between least most _ = None

abbrev pub two_links : ℕ × ℕ → List ℕ
two_links p = p.0 ∷ p.1 ∷ []

abbrev pub parts_seen : Parts → DocumentParts
parts_seen p = record { bits = p.bits; history = p.history; roots = p.roots; rows = map view p.rows.now; version = p.version }
