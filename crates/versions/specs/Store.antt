-- What a store promises: the value of each version that it holds.
use Rattle.std.specs.Prelude.{ℕ, List, [], IsSome, unwrap_or}
use Rattle.std.specs.Ordering.{nat_cmp}
use Rattle.std.specs.FinMap.{FinMap, get}

-- the value of each version that is held
abbrev pub Versions : Type 0 → Type 0
Versions V = FinMap nat_cmp V

-- the version is held
abbrev pub Holds : {V : Type 0} → Versions V → ℕ → Type 0
Holds m v = IsSome (get m v)

-- the list of a version, which is held
abbrev pub list_of : {T : Type 0} → Versions (List T) → ℕ → List T
list_of m v = unwrap_or (get m v) []
