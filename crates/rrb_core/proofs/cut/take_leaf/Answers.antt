use Rattle.std.proofs.Common.{arith, ◌≡◌, ◌≤◌, length, take, ap, ◌∙◌}
use Rattle.std.proofs.lemmas.List.{length-take-le}
use Rattle.node_heap.specs.Heap.{links_at}
use Rattle.node_heap.proofs.BuildLemmas.{Builds-then}
use Rattle.rrb_core.proofs.Lists.{leaf-front}
use Rattle.rrb_core.proofs.Stays.{well-live}
use Rattle.rrb_core.proofs.EditLemmas.{leaf-items, leaf-most, takes-leaf}
use Rattle.rrb_core.proofs.cut.take_leaf.Given.{Over}
use Rattle.rrb_core.proofs.cut.take_leaf.Goals.{After-as_slice}
use Rattle.rrb_core.proofs.cut.take_leaf.Goals as goal

pub links-end-requires : goal.links-end-requires
links-end-requires g c = well-live c.args.heap.now 0 c.args.link c.requires.row.well

pub gathered-elements-requires-clause-left : goal.gathered-elements-requires-clause-left
gathered-elements-requires-clause-left g c = well-live c.args.heap.now 0 c.args.link c.requires.row.well

pub gathered-elements-requires-clause-right : goal.gathered-elements-requires-clause-right
gathered-elements-requires-clause-right g c = well-live c.args.heap.now 0 c.args.link c.requires.row.well

pub gathered-elements-requires-clause-keep : goal.gathered-elements-requires-clause-keep
gathered-elements-requires-clause-keep g c = rw (leaf-items c.args.heap.now c.args.link) at c.requires.inside

pub gathered-elements-requires-clause-skip : goal.gathered-elements-requires-clause-skip
gathered-elements-requires-clause-skip g c = omega (arith, ap length c.links-end.ensures.links)

pub gathered-elements-requires-clause-few : goal.gathered-elements-requires-clause-few
gathered-elements-requires-clause-few g c =
    let inside : c.args.count ≤ length (links_at c.args.heap.now c.args.link) = rw (leaf-items c.args.heap.now c.args.link) at c.requires.inside in
    omega (arith, leaf-most c.requires.row, inside, ap length c.links-end.ensures.links)

-- the links that were gathered
front : (g : Over) (c : After-as_slice g) → c.as_slice.result.now ≡ take c.args.count (links_at c.args.heap.now c.args.link)
front g c = c.as_slice.ensures.value ∙ c.gathered-elements.ensures.items ∙ leaf-front (links_at c.args.heap.now c.args.link) c.args.count (length c.links-end.result.now) (ap length c.links-end.ensures.links)

size : (g : Over) (c : After-as_slice g) → length c.as_slice.result.now ≤ 32
size g c =
    let inside : c.args.count ≤ length (links_at c.args.heap.now c.args.link) = rw (leaf-items c.args.heap.now c.args.link) at c.requires.inside in
    rw (front g c) (omega (arith, length-take-le c.args.count (links_at c.args.heap.now c.args.link) inside, inside, leaf-most c.requires.row))

pub leaf_over-requires-clause-few : goal.leaf_over-requires-clause-few
leaf_over-requires-clause-few g c = size g c

pub leaf_over-requires-clause-held : goal.leaf_over-requires-clause-held
leaf_over-requires-clause-held g c = λ k. rw c.as_slice.ensures.value (omega (arith, c.gathered-elements.ensures.builds.holds k))

pub leaf_over-requires-clause-spare : goal.leaf_over-requires-clause-spare
leaf_over-requires-clause-spare g c = omega (arith, c.gathered-elements.ensures.builds.makes.spare_nodes, c.gathered-elements.ensures.builds.few_nodes, c.requires.row.spare)

pub leaf_over-requires-clause-holds : goal.leaf_over-requires-clause-holds
leaf_over-requires-clause-holds g c = omega (arith, c.gathered-elements.ensures.builds.total, ap length c.as_slice.ensures.value, size g c, c.requires.row.holds)

pub returns : goal.returns
returns g c =
    takes-leaf c.args.count (rw (front g c.before) at c.leaf_over.ensures.row) (Builds-then c.gathered-elements.ensures.builds (rw c.as_slice.ensures.value at c.leaf_over.ensures.builds))
