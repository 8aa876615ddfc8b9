use Rattle.node_heap.proofs.BuildLemmas.{Builds-cell}
use Rattle.champ_kinds.proofs.map.key_cell.Goals as goal

pub returns-in-None-clause-builds : goal.returns-in-None-clause-builds
returns-in-None-clause-builds g c = Builds-cell c.cell.ensures.adds c.cell.ensures.makes c.cell.ensures.count c.cell.ensures.graph c.cell.ensures.extends
