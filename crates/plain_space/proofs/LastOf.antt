-- The last elements of a list.
use Rattle.std.proofs.Common.{◌≡◌, ℕ, ◌-◌, ◌≤◌, List, [], ◌∷◌, ◌++◌, Some, length, take, drop, slice_get, refl, ap, ◌∙◌, arith, length-append}
use Rattle.std.proofs.lemmas.List.{length-drop, drop-append-le}
use Rattle.std.proofs.Math.ListN.{drop_of_length-le}
use Rattle.std.proofs.Math.Seq.{take-append_seam}
use Rattle.plain_space.specs.Workspace.{last_of}

module _ {X : Type 0} where
  -- no more than so many
  pub last-few : (n : ℕ) (xs : List X) → length (last_of n xs) ≤ n
  last-few n xs = omega (arith, length-drop (length xs - n) xs)

  -- and no more than there were
  pub last-fewer : (n : ℕ) (xs : List X) → length (last_of n xs) ≤ length xs
  last-fewer n xs = omega (arith, length-drop (length xs - n) xs)

  -- all of them, where there are no more
  pub last-all : (n : ℕ) (xs : List X) → length xs ≤ n → last_of n xs ≡ xs
  last-all n xs few = let none : length xs - n ≡ 0 = omega (arith, few) in ap (λ i. drop i xs) none

  -- one more after them, where one at least stays
  pub last-one-more : (n : ℕ) (xs : List X) (x : X) → 1 ≤ n → last_of n (xs ++ x ∷ []) ≡ last_of (n - 1) xs ++ x ∷ []
  last-one-more n xs x some =
      let long = length-append xs (x ∷ []) in
      let same : length (xs ++ x ∷ []) - n ≡ length xs - (n - 1) = omega (arith, long, some) in
      let within : length xs - (n - 1) ≤ length xs = omega arith in
      ap (λ i. drop i (xs ++ x ∷ [])) same ∙ drop-append-le (length xs - (n - 1)) xs (x ∷ []) within

  -- none of one, where none stays
  pub last-none : (xs : List X) → last_of 0 xs ≡ []
  last-none xs = drop_of_length-le xs (omega arith)

  -- a list with one more element at its end: that element, and those before it
  pub shorter : (xs : List X) (x : X) → length (xs ++ x ∷ []) - 1 ≡ length xs
  shorter xs x = let e = length-append xs (x ∷ []) in omega arith

  pub seam : (xs : List X) (x : X) → slice_get (xs ++ x ∷ []) (length xs) ≡ Some x
  seam [] x = refl
  seam (y ∷ xs) x = seam xs x

  pub before-last : (xs : List X) (x : X) → take (length xs) (xs ++ x ∷ []) ≡ xs
  before-last xs x = take-append_seam xs (x ∷ [])
