use Rattle.std.proofs.Common.{ap, subst, arith, length, IsSome}
use Rattle.node_heap.specs.Nodes.{node_links}
use Rattle.node_heap.proofs.Free.{found}
use Rattle.node_heap.proofs.Rooming.{linked-some}
use Rattle.node_heap.proofs.Woven.{slot-inside}
use Rattle.node_heap.proofs.lists.push_beside.Goals as goal

pub index-requires : goal.index-requires
index-requires g c = omega (arith, slot-inside c.args.large.now.items c.args.from (linked-some _ c.args.index c.requires.index), c.args.large.now.ok.0)

pub row_links-links-requires : goal.row_links-links-requires
row_links-links-requires g c =
    let live = linked-some _ c.args.index c.requires.index in
    subst IsSome (found c.args.large.now.items c.args.from _ _ live c.index.ensures) live

pub replace-requires : goal.replace-requires
replace-requires g c =
    let live = linked-some _ c.args.index c.requires.index in
    let is = found c.args.large.now.items c.args.from _ _ live c.index.ensures in
    omega (arith, c.requires.index, ap length c.row_links-links.ensures, ap (λ o. length (node_links o)) is)
