use Rattle.std.proofs.Common.{arith, ◌-◌, ◌<◌, ℕ, suc, length, get_or, ap, ◌∙◌, List}
use Rattle.node_heap.specs.Heap.{links_at}
use Rattle.rrb_core.proofs.Stays.{well-live, links-form}
use Rattle.rrb_core.proofs.RowLists.{over, at-place}
use Rattle.rrb_core.proofs.grow.last_child.Goals as goal

pub links-links-requires : goal.links-links-requires
links-links-requires g c = well-live c.args.heap.now (suc c.args.below) c.args.link c.requires.well

pub overflow_sub-result : goal.overflow_sub-result
overflow_sub-result g c = omega (arith, ap length c.links-links.ensures.links, (over c.args.heap.now c.args.below c.args.link c.requires.well c.requires.sums).some)

pub bounds-links-links : goal.bounds-links-links
bounds-links-links g c = omega (arith, ap length c.links-links.ensures.links, (over c.args.heap.now c.args.below c.args.link c.requires.well c.requires.sums).some)

pub returns : goal.returns
returns g c =
    let e = c.links-links.ensures.links in
    let inside : length c.links-links.result.now - 1 < length (links_at c.args.heap.now c.args.link) = omega (arith, ap length e, (over c.args.heap.now c.args.below c.args.link c.requires.well c.requires.sums).some) in
    rw (links-form c.args.heap.now c.args.link) (at-place c.links-links.result.now (links_at c.args.heap.now c.args.link) (length c.links-links.result.now - 1) c.index-links-links.result c.index-links-links.is e inside ∙ ap (λ (xs : List ℕ). get_or (links_at c.args.heap.now c.args.link) (length xs - 1) 0) e)
