use Rattle.std.proofs.Common.{arith, length, ap, refl}
use Rattle.node_heap.specs.Heap.{form_at}
use Rattle.rrb_core.proofs.PushLemmas.{packed-leaf}
use Rattle.rrb_core.proofs.Stays.{well-live, links-form}
use Rattle.rrb_core.proofs.EditLemmas.{leaf-most, pushes-leaf}
use Rattle.rrb_core.proofs.grow.push_leaf.Goals as goal

pub links-count-requires : goal.links-count-requires
links-count-requires g c = well-live c.args.heap.now 0 c.args.link c.requires.row.well

pub returns-then-count-eq-ROW_LINKS-clause-packed : goal.returns-then-count-eq-ROW_LINKS-clause-packed
returns-then-count-eq-ROW_LINKS-clause-packed g c =
    (packed-leaf (form_at c.args.heap.now) c.args.link (rw (links-form c.args.heap.now c.args.link) (omega (arith, ap length c.links-count.ensures.links, c.if-count-eq-ROW_LINKS.true))), refl)

pub leaf_with-row-requires-clause-few : goal.leaf_with-row-requires-clause-few
leaf_with-row-requires-clause-few g c = omega (arith, leaf-most c.requires.row, ap length c.links-count.ensures.links, c.if-count-eq-ROW_LINKS.false)

pub returns-clause-pushes : goal.returns-clause-pushes
returns-clause-pushes g c =
    let e = c.links-count.ensures.links in
    pushes-leaf c.args.element (rw e at c.if-count-eq-ROW_LINKS.false) c.requires.row (rw e at c.leaf_with-row.ensures.edits) (rw e at c.leaf_with-row.ensures.links)
