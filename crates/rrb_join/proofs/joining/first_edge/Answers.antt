use Rattle.std.proofs.Common.{arith}
use Rattle.node_heap.specs.Heap.{links_at}
use Rattle.rrb_core.proofs.RowLists.{at-place}
use Rattle.rrb_join.proofs.SeamLemmas.{first-edge}
use Rattle.rrb_join.proofs.joining.first_edge.Goals as goal

pub returns : goal.returns
returns g c =
    first-edge c.args.heap.now c.args.below c.args.height c.args.link c.index-links-0.result c.requires.row (omega arith) (at-place c.links-links.result.now (links_at c.args.heap.now c.args.link) 0 c.index-links-0.result c.index-links-0.is c.links-links.ensures.links (omega (arith, c.requires.row.some)))
