-- What a maker of lines shows.
use Rattle.std.specs.Prelude.{ℕ, zero, suc, ◌-◌, List, [], ◌∷◌}
use Rattle.work_lines.specs.Lines.{new_line}

-- The line that was made last, none at first, and the lines to come.
pub record WorkView : Type 0 where
  pub line : List ℕ
  pub left : List (List ℕ)

-- The lines that make the last so many of eight buffers.
unfoldable pub last_new_lines : ℕ → List (List ℕ)
last_new_lines zero = []
last_new_lines (suc left) = new_line (7 - left) ∷ last_new_lines left
