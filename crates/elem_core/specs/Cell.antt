-- What a text cell is.
use Rattle.std.specs.Prelude.{ℕ, ◌≤◌, List, length, Contains}
use Rattle.elem_core.specs.declared.TheConstants.{MAX_LINE, NEWLINE}

-- The bytes of a cell: no newline, and at most the longest line.
-- That they are UTF-8 comes with each `str` and `String`.
pub record IsCell (bytes : List ℕ) : Type 0 where
  pub unbroken : ¬ Contains bytes NEWLINE
  pub short : length bytes ≤ MAX_LINE
