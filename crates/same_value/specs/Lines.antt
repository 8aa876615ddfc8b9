-- Where two lists of cells are equal, and where they differ.
use Rattle.std.specs.Prelude.{ℕ, ◌<◌, ◌≤◌, List, length, take, slice_index}
use Rattle.std.specs.List.{AllZip}

-- at some place of both the elements aren't so related
pub record DifferSomewhere (R : ℕ → ℕ → Type 0) (xs ys : List ℕ) : Type 0 where
  pub place : ℕ
  pub first : place < length xs
  pub second : place < length ys
  pub differ : ¬ R (slice_index xs place) (slice_index ys place)

-- both lists have so many elements or more, which are at least one, and the first of them are so related
pub record BeginAlike (R : ℕ → ℕ → Type 0) (count : ℕ) (xs ys : List ℕ) : Type 0 where
  pub some : 1 ≤ count
  pub first : count ≤ length xs
  pub second : count ≤ length ys
  pub alike : AllZip R (take count xs) (take count ys)
