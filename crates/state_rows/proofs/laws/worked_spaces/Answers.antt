use Rattle.state_rows.proofs.WorkedSpaces.{start-stands, shared-stands, two_cells-stand, one_line-stands, sub_node-stands, chained-stands}
use Rattle.state_rows.proofs.laws.worked_spaces.Goals as goal

pub returns : goal.returns
returns c = record {
  start_stands = start-stands;
  shared_stands = shared-stands;
  two_cells_stand = two_cells-stand;
  one_line_stands = one_line-stands;
  sub_node_stands = sub_node-stands;
  chained_stands = chained-stands;
}
