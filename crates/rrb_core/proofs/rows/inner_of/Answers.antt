use Rattle.std.proofs.Common.{arith, ◌+◌}
use Rattle.rrb_core.proofs.Stays.{live-stays}
use Rattle.node_heap.proofs.BuildLemmas.{Builds-node}
use Rattle.rrb_core.proofs.BuildLemmas.{added-keeps-owners}
use Rattle.rrb_core.proofs.RowLists.{inner-made}
use Rattle.rrb_core.proofs.rows.inner_of.Goals as goal

pub returns-clause-row : goal.returns-clause-row
returns-clause-row g c =
    inner-made c.node.new.self c.args.heap.now c.args.below c.node.result (c.args.below + 1) c.args.sums c.args.children.now
    (live-stays c.requires.graph c.node.ensures.extends) c.requires.rows c.requires.sums c.requires.some c.requires.few (omega arith) c.node.ensures.adds.here

pub returns-clause-builds : goal.returns-clause-builds
returns-clause-builds g c = Builds-node c.node.ensures.adds c.node.ensures.makes c.node.ensures.count c.node.ensures.graph c.node.ensures.extends

pub returns-clause-fresh : goal.returns-clause-fresh
returns-clause-fresh g c = c.node.ensures.adds.fresh

pub returns-clause-owners : goal.returns-clause-owners
returns-clause-owners g c = added-keeps-owners c.node.ensures.adds c.node.ensures.owners
