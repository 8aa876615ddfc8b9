-- What small pools stand for.
use Rattle.std.specs.Prelude.{[], ◌∷◌, codes}
use Rattle.pool_text.specs.Documents.{start_pool, two_cells, shared_empties, sub_node, one_line_twice}
use Rattle.pool_check.specs.Documents.{chained}
use Rattle.plain_space.specs.Workspace.{State, Workspace, blank, start, with_lines}
use Rattle.state_rows.specs.Standing.{StandsFor}

-- the new workspace but for its current state
abbrev pub space_of : State → Workspace
space_of now = record start { current = now }

-- one buffer of two equal lines
abbrev pub two_lines : State
two_lines = with_lines blank (codes "a") (codes "x" ∷ codes "x" ∷ [])

-- two buffers without lines
abbrev pub two_buffers : State
two_buffers = with_lines (with_lines blank (codes "A") []) (codes "a") []

-- what is shared isn't seen: pools of more rows and of fewer stand for one workspace
pub record WorkedSpaces : Type 0 where
  pub start_stands : StandsFor start_pool start
  pub shared_stands : StandsFor shared_empties start
  pub two_cells_stand : StandsFor two_cells (space_of two_lines)
  pub one_line_stands : StandsFor one_line_twice (space_of two_lines)
  pub sub_node_stands : StandsFor sub_node (space_of two_buffers)
  pub chained_stands : StandsFor chained (space_of two_buffers)
