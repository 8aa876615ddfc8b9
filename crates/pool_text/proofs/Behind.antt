-- What stands where in one list behind another.
use Rattle.std.proofs.Common.{◌≡◌, ℕ, zero, suc, ◌+◌, ◌<◌, refl, ap, arith, List, [], ◌∷◌, ◌++◌, length, IsSome}
use Rattle.std.specs.Prelude.{slice_get}

pub get-before : {X : Type 0} (xs ys : List X) (i : ℕ) → i < length xs → slice_get (xs ++ ys) i ≡ slice_get xs i
get-before [] ys i low = absurd (omega (arith, low))
get-before (x ∷ xs) ys zero low = refl
get-before (x ∷ xs) ys (suc i) low = get-before xs ys i (omega (arith, low))

pub get-after : {X : Type 0} (xs ys : List X) (i k : ℕ) → k ≡ length xs + i → slice_get (xs ++ ys) k ≡ slice_get ys i
get-after [] ys i k is = ap (slice_get ys) (omega (arith, is))
get-after (x ∷ xs) ys i zero is = absurd (omega (arith, is))
get-after (x ∷ xs) ys i (suc k) is = get-after xs ys i k (omega (arith, is))

-- something stands at each place of a list
pub some-at : {X : Type 0} (xs : List X) (i : ℕ) → i < length xs → IsSome (slice_get xs i)
some-at [] i low = absurd (omega (arith, low))
some-at (x ∷ xs) zero low = refl
some-at (x ∷ xs) (suc i) low = some-at xs i (omega (arith, low))
