use Rattle.std.proofs.Common.{sym, ap, subst, arith, length, IsSome}
use Rattle.node_heap.specs.Nodes.{node_links}
use Rattle.node_heap.proofs.Free.{found, last-free, fills-free}
use Rattle.node_heap.proofs.Rooming.{linked-some}
use Rattle.node_heap.proofs.Woven.{slot-inside}
use Rattle.node_heap.proofs.lists.put_beside.Goals as goal

pub index-requires : goal.index-requires
index-requires g c = omega (arith, slot-inside c.args.large.now.items c.args.from (linked-some _ c.args.index c.requires.index), c.args.large.now.ok.0)

pub row_links-links-requires : goal.row_links-links-requires
row_links-links-requires g c =
    let live = linked-some _ c.args.index c.requires.index in
    subst IsSome (found c.args.large.now.items c.args.from _ _ live c.index.ensures) live

pub index_mut-requires : goal.index_mut-requires
index_mut-requires g c =
    let free = c.requires.free in
    omega (arith, free.inside c.in-Some.place (last-free _ _ _ c.in-Some.place c.in-Some.ensures.items free), c.args.large.now.ok.0)

pub fill_but-requires : goal.fill_but-requires
fill_but-requires g c =
    let live = linked-some _ c.args.index c.requires.index in
    let is = found c.args.large.now.items c.args.from _ _ live c.index.ensures in
    omega (arith, c.requires.index, ap length c.row_links-links.ensures, ap (λ o. length (node_links o)) is)

pub returns-in-Some-clause-fills : goal.returns-in-Some-clause-fills
returns-in-Some-clause-fills g c =
    let live = linked-some _ c.args.index c.requires.index in
    let is = found c.args.large.now.items c.args.from _ _ live c.index.ensures in
    rw (c.fill_but.ensures, c.row_links-links.ensures, sym is) (fills-free _ _ _ _ _ c.in-Some.ensures.items c.requires.free)
