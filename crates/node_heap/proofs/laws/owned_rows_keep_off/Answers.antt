use Rattle.node_heap.proofs.EditLaws.{paths-off, roots-off}
use Rattle.node_heap.proofs.laws.owned_rows_keep_off.Goals as goal

pub returns-clause-paths : goal.returns-clause-paths
returns-clause-paths g c = paths-off

pub returns-clause-roots : goal.returns-clause-roots
returns-clause-roots g c = roots-off
