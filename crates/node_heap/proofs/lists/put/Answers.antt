use Rattle.std.proofs.Common.{◌∙◌, arith}
use Rattle.node_heap.proofs.Free.{last-free, fills-free, no_value, get_or_default}
use Rattle.node_heap.proofs.lists.put.Goals as goal

pub index_mut-requires : goal.index_mut-requires
index_mut-requires g c =
    let free = c.requires.free in
    omega (arith, free.inside c.in-Some.place (last-free _ _ _ c.in-Some.place c.in-Some.ensures.items free), c.args.slots.now.ok.0)

pub unreachable-requires : goal.unreachable-requires
unreachable-requires g c =
    let free = c.requires.free in
    let was = free.vacant c.in-Some.place (last-free _ _ _ c.in-Some.place c.in-Some.ensures.items free) in
    let within = free.inside c.in-Some.place (last-free _ _ _ c.in-Some.place c.in-Some.ensures.items free) in
    no_value (c.in-Some-replace.ensures.value ∙ c.index_mut.ensures.value ∙ get_or_default _ _ _ within ∙ was)

pub returns-in-None-replace-clause-fills : goal.returns-in-None-replace-clause-fills
returns-in-None-replace-clause-fills g c = rw c.replace.ensures.after (fills-free _ _ _ _ _ c.in-Some.ensures.items c.requires.free)
