use Rattle.std.proofs.Common.{arith, ◌≡◌, drop, sym, subst}
use Rattle.std.specs.List.{All}
use Rattle.std.proofs.lemmas.Bool.{eqb-true}
use Rattle.std.proofs.lemmas.Option.{IfSome_then}
use Rattle.std.proofs.lemmas.List.Elements.{All-drop}
use Rattle.node_heap.specs.Heap.{form_at}
use Rattle.rrb_core.specs.Vector.{elements}
use Rattle.rrb_core.proofs.Stays.{well-live}
use Rattle.same_value.specs.Cells.{IsCellLink, IsSameCell}
use Rattle.same_value.specs.CompareLaws.{cell-itself}
use Rattle.same_value.proofs.PlaceLemmas.{rest-some, rest-all, leaf-inside, leaf-rest, leaves-alike, leaves-differ, row-alike, none-then}
use Rattle.same_value.proofs.vectors.alike_from.Goals as goal

pub loop-left-init : goal.loop-left-init
loop-left-init g c = record { left = c.place_from-left.ensures.way; right = c.place_from-right.ensures.way; left_begins = c.place_from-left.ensures.begins; right_begins = c.place_from-right.ensures.begins }

pub loop-left-preserved : goal.loop-left-preserved
loop-left-preserved g c =
    let was = c.loop-left.invariant in
    record {
      left = c.lower-left.ensures.way (drop c.args.index (elements c.args.heap.now c.args.a)) was.left;
      right = was.right;
      left_begins = λ high. c.lower-left.ensures.begins (was.left_begins (omega (arith, high, c.lower-left.ensures.height)));
      right_begins = was.right_begins;
    }

pub returns-then-eq-clause-alike : goal.returns-then-eq-clause-alike
returns-then-eq-clause-alike g c =
    let F = form_at c.args.heap.now in
    let R = IsSameCell g.T.Ord.cmp F in
    let was = c.loop-left.invariant in
    let same : c.loop-left.left.link ≡ c.loop-left.right.link = eqb-true c.loop-left.left.link c.loop-left.right.link (sym c.if-eq.ensures) in
    let cells : All (IsCellLink F) (drop c.args.index (elements c.args.heap.now c.args.a)) = All-drop (IsCellLink F) c.args.index (elements c.args.heap.now c.args.a) c.requires.first.cells in
    row-alike R was.left was.right (IsCellLink F) (cell-itself g.T.Ord.cmp g.met.T.Ord.total F) cells same c.loop-left-test.true was.left_begins was.right_begins c.size.result c.size.ensures.value

pub links-requires : goal.links-requires
links-requires g c = well-live c.args.heap.now c.loop-left.left.height c.loop-left.left.link c.loop-left.invariant.left.well

pub slice_bounds-links-count : goal.slice_bounds-links-count
slice_bounds-links-count g c = omega (arith, leaf-inside c.loop-left.invariant.left (omega (arith, c.loop-left-test.false)) c.links.result.now c.links.ensures.links)

pub slice_bounds-links-start : goal.slice_bounds-links-start
slice_bounds-links-start g c = omega (arith, leaf-inside c.loop-left.invariant.left (omega (arith, c.loop-left-test.false)) c.links.result.now c.links.ensures.links)

pub links-requires-2 : goal.links-requires-2
links-requires-2 g c = well-live c.args.heap.now c.loop-left.right.height c.loop-left.right.link c.loop-left.invariant.right.well

pub slice_bounds-others-count : goal.slice_bounds-others-count
slice_bounds-others-count g c = omega (arith, leaf-inside c.loop-left.invariant.right (omega (arith, c.loop-left-test.false)) c.links-2.result.now c.links-2.ensures.links)

pub slice_bounds-others-start : goal.slice_bounds-others-start
slice_bounds-others-start g c = omega (arith, leaf-inside c.loop-left.invariant.right (omega (arith, c.loop-left-test.false)) c.links-2.result.now c.links-2.ensures.links)

pub alike_leaves-requires-clause-some : goal.alike_leaves-requires-clause-some
alike_leaves-requires-clause-some g c =
    let left = leaf-rest c.loop-left.invariant.left (omega (arith, c.loop-left-test.false)) c.links.result.now c.links.ensures.links in
    rw left (rest-some c.loop-left.invariant.left)

pub alike_leaves-requires-clause-some_others : goal.alike_leaves-requires-clause-some_others
alike_leaves-requires-clause-some_others g c =
    let right = leaf-rest c.loop-left.invariant.right (omega (arith, c.loop-left-test.false)) c.links-2.result.now c.links-2.ensures.links in
    rw right (rest-some c.loop-left.invariant.right)

pub alike_leaves-requires-clause-left : goal.alike_leaves-requires-clause-left
alike_leaves-requires-clause-left g c =
    let F = form_at c.args.heap.now in
    let left = leaf-rest c.loop-left.invariant.left (omega (arith, c.loop-left-test.false)) c.links.result.now c.links.ensures.links in
    subst (All (IsCellLink F)) (sym left) (rest-all c.loop-left.invariant.left (IsCellLink F) (All-drop (IsCellLink F) c.args.index (elements c.args.heap.now c.args.a) c.requires.first.cells))

pub alike_leaves-requires-clause-right : goal.alike_leaves-requires-clause-right
alike_leaves-requires-clause-right g c =
    let F = form_at c.args.heap.now in
    let right = leaf-rest c.loop-left.invariant.right (omega (arith, c.loop-left-test.false)) c.links-2.result.now c.links-2.ensures.links in
    subst (All (IsCellLink F)) (sym right) (rest-all c.loop-left.invariant.right (IsCellLink F) (All-drop (IsCellLink F) c.args.index (elements c.args.heap.now c.args.b) c.requires.second.cells))

pub returns-clause-alike : goal.returns-clause-alike
returns-clause-alike g c =
    let R = IsSameCell g.T.Ord.cmp (form_at c.args.heap.now) in
    let was = c.loop-left.invariant in
    let left = leaf-rest was.left (omega (arith, c.loop-left-test.false)) c.links.result.now c.links.ensures.links in
    let right = leaf-rest was.right (omega (arith, c.loop-left-test.false)) c.links-2.result.now c.links-2.ensures.links in
    IfSome_then c.alike_leaves.result (rw (left, right) at c.alike_leaves.ensures.alike) (λ count. leaves-alike R was.left was.right count)

pub returns-clause-different : goal.returns-clause-different
returns-clause-different g c =
    let R = IsSameCell g.T.Ord.cmp (form_at c.args.heap.now) in
    let was = c.loop-left.invariant in
    let left = leaf-rest was.left (omega (arith, c.loop-left-test.false)) c.links.result.now c.links.ensures.links in
    let right = leaf-rest was.right (omega (arith, c.loop-left-test.false)) c.links-2.result.now c.links-2.ensures.links in
    none-then c.alike_leaves.result (rw (left, right) at c.alike_leaves.ensures.different) (leaves-differ R was.left was.right)
