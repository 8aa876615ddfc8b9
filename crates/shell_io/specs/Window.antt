-- The buffer of a reader of lines, as the reader sees it.
use Rattle.std.specs.Prelude.{◌≡◌, ℕ, List, ◌++◌, length}
use Rattle.std.specs.declared.option.Option.{Option}
use Rattle.std.specs.Io.KnownBytes.{Consumes}

-- the line that was given last, and the bytes that wait
pub record Waiting : Type 0 where
  pub line : List ℕ
  pub held : List ℕ

-- n bytes were moved from the source to the end of those that wait
pub record TakesMore (n : ℕ) (old new : List ℕ) (left_old left_new : Option (List ℕ)) : Type 0 where
  pub more : List ℕ
  pub count : length more ≡ n
  pub held : new ≡ old ++ more
  pub moved : Consumes left_old left_new more
