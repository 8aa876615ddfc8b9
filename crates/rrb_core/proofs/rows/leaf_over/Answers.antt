use Rattle.node_heap.proofs.BuildLemmas.{Builds-node}
use Rattle.rrb_core.proofs.BuildLemmas.{added-keeps-owners}
use Rattle.rrb_core.proofs.RowLists.{leaf-made}
use Rattle.rrb_core.proofs.rows.leaf_over.Goals as goal

pub returns-clause-row : goal.returns-clause-row
returns-clause-row g c = leaf-made c.node.new.self c.node.result c.args.elements.now c.node.ensures.adds.here c.requires.few

pub returns-clause-builds : goal.returns-clause-builds
returns-clause-builds g c = Builds-node c.node.ensures.adds c.node.ensures.makes c.node.ensures.count c.node.ensures.graph c.node.ensures.extends

pub returns-clause-fresh : goal.returns-clause-fresh
returns-clause-fresh g c = c.node.ensures.adds.fresh

pub returns-clause-owners : goal.returns-clause-owners
returns-clause-owners g c = added-keeps-owners c.node.ensures.adds c.node.ensures.owners
