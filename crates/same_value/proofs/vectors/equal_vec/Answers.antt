use Rattle.std.proofs.Common.{arith, length-drop}
use Rattle.node_heap.specs.Heap.{form_at}
use Rattle.rrb_core.specs.Vector.{elements}
use Rattle.same_value.specs.Cells.{IsSameCell}
use Rattle.same_value.proofs.Zips.{differ-not}
use Rattle.same_value.proofs.PlaceLemmas.{zip-behind, differ-behind}
use Rattle.same_value.proofs.vectors.equal_vec.Goals as goal

pub loop-index-preserved : goal.loop-index-preserved
loop-index-preserved g c =
    let R = IsSameCell g.T.Ord.cmp (form_at c.args.heap.now) in
    let xs = elements c.args.heap.now c.args.a in
    let ys = elements c.args.heap.now c.args.b in
    let more = c.in-Some.ensures.alike in
    record {
      inside = omega (arith, more.first, length-drop c.loop-index.index xs, c.len-count.ensures.value, c.loop-index-test.true);
      alike = zip-behind R c.loop-index.index c.in-Some.more xs ys c.loop-index.invariant.alike more;
    }

pub returns-in-None : goal.returns-in-None
returns-in-None g c =
    let R = IsSameCell g.T.Ord.cmp (form_at c.args.heap.now) in
    let xs = elements c.args.heap.now c.args.a in
    let ys = elements c.args.heap.now c.args.b in
    record { equal = (λ no. absurd cc, λ zip. absurd (differ-not R xs ys (differ-behind R c.loop-index.index xs ys c.in-None.ensures.different) zip)) }
