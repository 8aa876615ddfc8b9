use Rattle.std.proofs.Common.{arith, ◌≡◌, ◌-◌, length, ap}
use Rattle.node_heap.specs.Heap.{links_at}
use Rattle.rrb_core.proofs.RowLists.{at-place}
use Rattle.rrb_join.proofs.SeamLemmas.{last-edge}
use Rattle.rrb_join.proofs.joining.last_edge.Goals as goal

pub returns : goal.returns
returns g c =
    let size : length c.links-links.result.now ≡ length (links_at c.args.heap.now c.args.link) = ap length c.links-links.ensures.links in
    last-edge c.args.heap.now c.args.below c.args.height c.args.link (length c.links-links.result.now - 1) c.index-links-place.result c.requires.row (omega arith) (omega (arith, size, c.requires.row.some))
    (at-place c.links-links.result.now (links_at c.args.heap.now c.args.link) (length c.links-links.result.now - 1) c.index-links-place.result c.index-links-place.is c.links-links.ensures.links (omega (arith, size, c.requires.row.some)))
