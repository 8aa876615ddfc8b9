use Rattle.std.proofs.Common.{rules, arith, ◌+◌, ◌<◌, ◌^◌}
use Rattle.std.proofs.lemmas.List.Folds.{length-flat_map-take}
use Rattle.std.proofs.lemmas.List.{length_push}
use Rattle.node_heap.specs.Heap.{form_at}
use Rattle.rrb_core.specs.Seq.{seq_at}
use Rattle.rrb_core.specs.Vector.{AreSums}
use Rattle.rrb_core.proofs.Lists.{sums-push}
use Rattle.rrb_core.proofs.RowLists.{keeps}
use Rattle.rrb_core.proofs.rows.sums_over.Goals as goal

pub size-total-requires-clause-short : goal.size-total-requires-clause-short
size-total-requires-clause-short g c =
    let most = length-flat_map-take (seq_at (form_at c.args.heap.now) c.args.below) c.args.children.now c.loop-child.child-index c.child-item.result c.loop-child-test.true in
    let most' = rw (← c.child-item.is) at most in
    omega (arith, most', c.requires.short)

pub overflow_add-total : goal.overflow_add-total
overflow_add-total g c =
    let most = length-flat_map-take (seq_at (form_at c.args.heap.now) c.args.below) c.args.children.now c.loop-child.child-index c.child-item.result c.loop-child-test.true in
    let most' = rw (← c.child-item.is) at most in
    let fits : c.loop-child.total + c.size-total.result < 2 ^ 32 = omega (arith, most', c.requires.short, c.loop-child.invariant.total, c.size-total.ensures.value) in
    search rules

pub loop-child-preserved : goal.loop-child-preserved
loop-child-preserved g c =
    let more = sums-push (seq_at (form_at c.args.heap.now) c.args.below) c.args.children.now c.loop-child.sums.items c.loop-child.child-index c.child-item.result c.loop-child.total c.size-total.result c.loop-child-test.true c.child-item.is c.loop-child.invariant.count c.loop-child.invariant.total c.size-total.ensures.value c.loop-child.invariant.each in
    record {
      count = rw c.push.ensures.items (omega (arith, length_push c.loop-child.sums.items (c.loop-child.total + c.size-total.result), c.loop-child.invariant.count));
      total = more.0;
      each = rw c.push.ensures.items more.1;
    }

pub returns : goal.returns
returns g c =
    let sums : AreSums c.loop-child.sums.items (seq_at (form_at c.args.heap.now) c.args.below) c.args.children.now = record {
      count = omega (arith, c.loop-child.invariant.count, c.loop-child-test.false);
      each = λ k b. c.loop-child.invariant.each k (omega (arith, b, c.loop-child-test.false));
    } in
    keeps c.args.heap.now c.args.below c.args.children.now c.loop-child.sums.items c.kept_sums.result c.requires.rows c.requires.some sums (rw c.as_slice.ensures.value at c.kept_sums.ensures.none) (rw c.as_slice.ensures.value at c.kept_sums.ensures.kept)
