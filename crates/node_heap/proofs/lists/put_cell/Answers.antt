use Rattle.std.proofs.Common.{◌∙◌, arith}
use Rattle.node_heap.proofs.Free.{last-free, fills-free, get_or_default}
use Rattle.node_heap.proofs.lists.put_cell.Goals as goal

pub index_mut-requires : goal.index_mut-requires
index_mut-requires g c =
    let free = c.requires.free in
    omega (arith, free.inside c.in-Some.place (last-free _ _ _ c.in-Some.place c.in-Some.ensures.items free), c.args.cells.now.ok.0)

pub returns-in-Some-clause-fills : goal.returns-in-Some-clause-fills
returns-in-Some-clause-fills g c = rw c.fill.ensures (fills-free _ _ _ _ _ c.in-Some.ensures.items c.requires.free)

pub fill-requires : goal.fill-requires
fill-requires g c =
    let free = c.requires.free in
    let place = last-free _ _ _ c.in-Some.place c.in-Some.ensures.items free in
    c.index_mut.ensures.value ∙ get_or_default _ _ _ (free.inside c.in-Some.place place) ∙ free.vacant c.in-Some.place place
