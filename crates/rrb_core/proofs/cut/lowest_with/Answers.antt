use Rattle.std.proofs.Common.{arith, ◌≡◌, ◌-◌, ◌<◌, ◌≤◌, suc, length, ◌∙◌}
use Rattle.node_heap.specs.Heap.{form_at}
use Rattle.rrb_core.specs.Seq.{seq_at}
use Rattle.rrb_core.specs.Vector.{height_at}
use Rattle.rrb_core.proofs.Stays.{well-live}
use Rattle.rrb_core.proofs.RowLists.{over}
use Rattle.rrb_core.proofs.EditLemmas.{first-child}
use Rattle.rrb_core.proofs.cut.lowest_with.Goals as goal

pub height_of-height-requires : goal.height_of-height-requires
height_of-height-requires g c = well-live c.args.heap.now (height_at c.args.heap.now c.args.root) c.args.root c.requires.good.shape.well

pub links-requires : goal.links-requires
links-requires g c = well-live c.args.heap.now c.loop-height.height c.loop-height.link c.loop-height.invariant.well

pub bounds-links-0 : goal.bounds-links-0
bounds-links-0 g c =
    let down : suc (c.loop-height.height - 1) ≡ c.loop-height.height = omega arith in
    let o = over c.args.heap.now (c.loop-height.height - 1) c.loop-height.link (rw down c.loop-height.invariant.well) (rw down c.loop-height.invariant.sums) in
    rw c.links.ensures.links o.some

pub size-requires-clause-well : goal.size-requires-clause-well
size-requires-clause-well g c = (first-child c.args.heap.now c.loop-height.height c.loop-height.link c.index-links-0.result c.links.result.now c.loop-height-test.true c.loop-height.invariant.well c.loop-height.invariant.sums c.index-links-0.is c.links.ensures.links).well

pub size-requires-clause-sums : goal.size-requires-clause-sums
size-requires-clause-sums g c = (first-child c.args.heap.now c.loop-height.height c.loop-height.link c.index-links-0.result c.links.result.now c.loop-height-test.true c.loop-height.invariant.well c.loop-height.invariant.sums c.index-links-0.is c.links.ensures.links).sums

pub size-requires-clause-short : goal.size-requires-clause-short
size-requires-clause-short g c = omega (arith, (first-child c.args.heap.now c.loop-height.height c.loop-height.link c.index-links-0.result c.links.result.now c.loop-height-test.true c.loop-height.invariant.well c.loop-height.invariant.sums c.index-links-0.is c.links.ensures.links).short, c.loop-height.invariant.short)

pub loop-height-preserved : goal.loop-height-preserved
loop-height-preserved g c =
    let first = first-child c.args.heap.now c.loop-height.height c.loop-height.link c.index-links-0.result c.links.result.now c.loop-height-test.true c.loop-height.invariant.well c.loop-height.invariant.sums c.index-links-0.is c.links.ensures.links in
    let fits : c.args.count ≤ length (seq_at (form_at c.args.heap.now) (c.loop-height.height - 1) c.index-links-0.result) = omega (arith, c.size.ensures.value) in
    record {
      well = first.well;
      sums = first.sums;
      low = omega (arith, c.loop-height.invariant.low);
      inside = fits;
      short = omega (arith, first.short, c.loop-height.invariant.short);
      edge = first.edge c.args.root c.loop-height.invariant.edge;
      same = first.front c.args.count fits ∙ c.loop-height.invariant.same;
    }

pub returns-then-count-size-clause-past : goal.returns-then-count-size-clause-past
returns-then-count-size-clause-past g c =
    let past : length (seq_at (form_at c.args.heap.now) (c.loop-height.height - 1) c.index-links-0.result) < c.args.count = omega (arith, c.size.ensures.value) in
    λ _. rw (first-child c.args.heap.now c.loop-height.height c.loop-height.link c.index-links-0.result c.links.result.now c.loop-height-test.true c.loop-height.invariant.well c.loop-height.invariant.sums c.index-links-0.is c.links.ensures.links).is at past
