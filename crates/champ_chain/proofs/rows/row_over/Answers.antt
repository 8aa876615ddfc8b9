use Rattle.node_heap.proofs.BuildLemmas.{Builds-node}
use Rattle.champ_chain.proofs.rows.row_over.Goals as goal

pub returns-in-None-clause-builds : goal.returns-in-None-clause-builds
returns-in-None-clause-builds g c =
    rw c.in-None.is (Builds-node c.node.ensures.adds c.node.ensures.makes c.node.ensures.count c.node.ensures.graph c.node.ensures.extends)

pub returns-in-Some-clause-builds : goal.returns-in-Some-clause-builds
returns-in-Some-clause-builds g c =
    rw c.in-Some.is (Builds-node c.node-in-Some.ensures.adds c.node-in-Some.ensures.makes c.node-in-Some.ensures.count c.node-in-Some.ensures.graph c.node-in-Some.ensures.extends)
