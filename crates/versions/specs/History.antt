-- What a program keeps of versions: handles that are held, each once.
use Rattle.std.specs.Prelude.{◌≢◌, ℕ, List, [], ◌∷◌, map, slice_index_or}
use Rattle.versions.specs.Store.{Versions, Holds, list_of}

-- none of these is the version
abbrev pub IsApart : ℕ → List ℕ → Type 0
IsApart v [] = Unit {0}
IsApart v (w ∷ ws) = (v ≢ w) × IsApart v ws

-- each of these is held, and none stands twice
abbrev pub AreHeld : {V : Type 0} → Versions V → List ℕ → Type 0
AreHeld m [] = Unit {0}
AreHeld m (v ∷ vs) = Holds m v × IsApart v vs × AreHeld m vs

-- their lists
abbrev pub lists_of : {T : Type 0} → Versions (List T) → List ℕ → List (List T)
lists_of m vs = map (list_of m) vs

-- the newest of the lists that a history has
abbrev pub present : {T : Type 0} → List (List T) → List T
present lists = slice_index_or lists 0 []
