-- Roots by their numbers: as a store keeps them in slots, and as names and roots in two lists.
use Rattle.std.specs.Prelude.{◌≡◌, ℕ, ◌<◌, ◌≤◌, true, List, length, drop, Option, None, IsSome}
use Rattle.std.specs.List.{All, zip}
use Rattle.std.specs.Ordering.{nat_cmp}
use Rattle.std.specs.FinMap.{find}
use Rattle.versions.specs.Roots.{root_of}
use Rattle.versions_pool.specs.Saved.{rise}

-- the slots have these roots at these numbers, and nothing at any other
abbrev pub AreNamed : List ℕ → List ℕ → List (Option ℕ) → Type 0
AreNamed names roots slots = (v : ℕ) → root_of slots v ≡ find nat_cmp v (zip names roots)

-- so many slots, each with a root
pub record AreFull (count : ℕ) (slots : List (Option ℕ)) : Type 0 where
  pub some : (v : ℕ) → v < count → IsSome (root_of slots v)
  pub none : (v : ℕ) → count ≤ v → root_of slots v ≡ None

-- from this number on, what is named stands at `next` or behind it
pub record IsAt (names roots : List ℕ) (number next : ℕ) : Type 0 where
  pub inside : next ≤ length names
  pub from : All (λ n. number ≤ n) (drop next names)
  pub rise : rise (drop next names) ≡ true
  pub later : (v : ℕ) → number ≤ v → find nat_cmp v (zip names roots) ≡ find nat_cmp v (zip (drop next names) (drop next roots))
