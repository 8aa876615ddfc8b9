-- Sets of positions, as numbers whose bits they are.
use Rattle.std.specs.Prelude.{◌≡◌, ◌≢◌, ℕ, zero, suc, ◌+◌, ◌<◌, Bool, nat_eq}
use Rattle.std.specs.Int.{bit_at}

-- whether the position is in the set
abbrev pub has : ℕ → ℕ → Bool
has set p = nat_eq (bit_at set p) 1

-- how many positions of the set are below this one
unfoldable pub rank : ℕ → ℕ → ℕ
rank set zero = 0
rank set (suc p) = rank set p + bit_at set p

-- the second set has this position besides
pub record GainsPosition (a b p : ℕ) : Type 0 where
  pub was : bit_at a p ≡ 0
  pub is : bit_at b p ≡ 1
  pub others : (q : ℕ) → q < 32 → q ≢ p → bit_at b q ≡ bit_at a q
