use Rattle.std.proofs.Common.{arith, suc, length, ap, refl}
use Rattle.node_heap.specs.Heap.{form_at}
use Rattle.rrb_core.proofs.Stays.{well-live, links-form}
use Rattle.rrb_core.proofs.PushLemmas.{packed-inner}
use Rattle.rrb_core.proofs.EditLemmas.{place-beside, pushes-beside}
use Rattle.rrb_core.proofs.grow.push_beside.Goals as goal

pub links-count-requires : goal.links-count-requires
links-count-requires g c = well-live c.args.heap.now (suc c.args.below) c.args.link c.requires.row.well

pub returns-then-count-eq-ROW_LINKS-clause-packed : goal.returns-then-count-eq-ROW_LINKS-clause-packed
returns-then-count-eq-ROW_LINKS-clause-packed g c =
    (packed-inner (form_at c.args.heap.now) c.args.below c.args.link (rw (links-form c.args.heap.now c.args.link) (omega (arith, ap length c.links-count.ensures.links, c.if-count-eq-ROW_LINKS.true))) c.requires.packed, refl)

pub inner_with-row-requires : goal.inner_with-row-requires
inner_with-row-requires g c =
    let e = c.links-count.ensures.links in
    rw e (place-beside c.requires.row c.requires.short c.requires.held c.requires.packed (rw e at c.if-count-eq-ROW_LINKS.false) c.spine-child.ensures.made).can

pub returns-clause-pushes : goal.returns-clause-pushes
returns-clause-pushes g c =
    let e = c.links-count.ensures.links in
    pushes-beside c.requires.row c.requires.short c.requires.held c.requires.packed (rw e at c.if-count-eq-ROW_LINKS.false) c.spine-child.ensures.made (rw e at c.inner_with-row.ensures.row) c.inner_with-row.ensures.builds (rw e at c.inner_with-row.ensures.links)
