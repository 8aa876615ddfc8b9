use Rattle.std.proofs.Common.{rules, arith, ◌+◌, ◌<◌, ◌^◌, length}
use Rattle.node_heap.specs.Heap.{links_at}
use Rattle.rrb_core.proofs.EditLemmas.{leaf-items, leaf-most, sets-leaf}
use Rattle.rrb_core.proofs.replace.set_leaf.Goals as goal

pub overflow_add-place : goal.overflow_add-place
overflow_add-place g c =
    let inside : c.args.place < length (links_at c.args.heap.now c.args.link) = rw (leaf-items c.args.heap.now c.args.link) at c.requires.inside in
    let fits : c.args.place + 1 < 2 ^ 64 = omega (arith, inside, leaf-most c.requires.row) in
    search rules

pub leaf_with-requires-clause-keep : goal.leaf_with-requires-clause-keep
leaf_with-requires-clause-keep g c = omega (arith, rw (leaf-items c.args.heap.now c.args.link) at c.requires.inside)

pub leaf_with-requires-clause-skip : goal.leaf_with-requires-clause-skip
leaf_with-requires-clause-skip g c = omega (arith, rw (leaf-items c.args.heap.now c.args.link) at c.requires.inside)

pub leaf_with-requires-clause-few : goal.leaf_with-requires-clause-few
leaf_with-requires-clause-few g c = omega (arith, rw (leaf-items c.args.heap.now c.args.link) at c.requires.inside, leaf-most c.requires.row)

pub returns : goal.returns
returns g c = sets-leaf c.args.place c.args.element (rw (leaf-items c.args.heap.now c.args.link) at c.requires.inside) c.leaf_with.ensures.edits c.leaf_with.ensures.links
