use Rattle.std.proofs.Common.{arith, ◌≡◌, ◌+◌, ◌-◌, ◌<◌, ℕ, suc, length, take, drop, ap, ◌∙◌, sym, List, [], ◌++◌}
use Rattle.std.specs.List.{flat_map}
use Rattle.std.proofs.lemmas.List.{take_rest}
use Rattle.node_heap.specs.Heap.{form_at, links_at}
use Rattle.rrb_core.specs.Seq.{seq_at}
use Rattle.rrb_core.specs.Vector.{height_at, elements}
use Rattle.std.proofs.Common.{append-nil, append_assoc, length-drop}
use Rattle.rrb_core.proofs.Lists.{items-drop, front-of}
use Rattle.rrb_core.proofs.FillRule.{seq-leaf}
use Rattle.rrb_core.proofs.Stays.{well-live, links-form}
use Rattle.rrb_core.proofs.RowLists.{over, at-place, child-at}
use Rattle.rrb_core.proofs.search.leaf_from.Goals as goal

pub height_of-height-requires : goal.height_of-height-requires
height_of-height-requires g c = well-live c.args.heap.now (height_at c.args.heap.now c.args.root) c.args.root c.requires.good.shape.well

pub loop-height-init : goal.loop-height-init
loop-height-init g c = record {
  well = rw c.height_of-height.ensures c.requires.good.shape.well;
  sums = rw c.height_of-height.ensures c.requires.good.sums;
  low = rw c.height_of-height.ensures c.requires.good.shape.low;
  inside = rw c.height_of-height.ensures c.requires.inside;
  front = rw c.height_of-height.ensures ([], sym (append-nil (drop c.args.index (elements c.args.heap.now c.args.root))));
}

pub loop-height-preserved : goal.loop-height-preserved
loop-height-preserved g c =
    let down : suc (c.loop-height.height - 1) ≡ c.loop-height.height = omega arith in
    let o = over c.args.heap.now (c.loop-height.height - 1) c.loop-height.link (rw down c.loop-height.invariant.well) (rw down c.loop-height.invariant.sums) in
    let at = at-place c.links.result.now (links_at c.args.heap.now c.loop-height.link) c.spot_of-found.result.place c.index-links-found.result c.index-links-found.is c.links.ensures.links c.spot_of-found.ensures.place in
    let child = child-at c.args.heap.now (c.loop-height.height - 1) c.loop-height.link c.spot_of-found.result.place c.index-links-found.result o c.spot_of-found.ensures.place at in
    let small : c.spot_of-found.result.within < length (seq_at (form_at c.args.heap.now) (c.loop-height.height - 1) c.index-links-found.result) = rw at c.spot_of-found.ensures.inside in
    let cut = items-drop (seq_at (form_at c.args.heap.now) (c.loop-height.height - 1)) (links_at c.args.heap.now c.loop-height.link) c.spot_of-found.result.place c.spot_of-found.result.within c.loop-height.within c.spot_of-found.ensures.place c.spot_of-found.ensures.before (omega (arith, c.spot_of-found.ensures.inside)) in
    let rest : List ℕ = flat_map (seq_at (form_at c.args.heap.now) (c.loop-height.height - 1)) (drop (c.spot_of-found.result.place + 1) (links_at c.args.heap.now c.loop-height.link)) in
    let whole : drop c.loop-height.within (seq_at (form_at c.args.heap.now) (suc (c.loop-height.height - 1)) c.loop-height.link) ≡ drop c.spot_of-found.result.within (seq_at (form_at c.args.heap.now) (c.loop-height.height - 1) c.index-links-found.result) ++ rest = rw (o.items, at) cut in
    let here = rw down at whole in
    record {
      well = child.well;
      sums = child.sums;
      low = omega (arith, c.loop-height.invariant.low);
      inside = small;
      front = (rest ++ c.loop-height.invariant.front.0, c.loop-height.invariant.front.1 ∙ ap (λ xs. xs ++ c.loop-height.invariant.front.0) here ∙ append_assoc (drop c.spot_of-found.result.within (seq_at (form_at c.args.heap.now) (c.loop-height.height - 1) c.index-links-found.result)) rest c.loop-height.invariant.front.0);
    }

pub links-requires-2 : goal.links-requires-2
links-requires-2 g c = well-live c.args.heap.now c.loop-height.height c.loop-height.link c.loop-height.invariant.well

pub returns-clause-some : goal.returns-clause-some
returns-clause-some g c =
    let is : c.links-2.result.now ≡ seq_at (form_at c.args.heap.now) c.loop-height.height c.loop-height.link = c.links-2.ensures.links ∙ sym (links-form c.args.heap.now c.loop-height.link) ∙ sym (seq-leaf (form_at c.args.heap.now) c.loop-height.height c.loop-height.link c.loop-height-test.false) in
    rw (is, take_rest (seq_at (form_at c.args.heap.now) c.loop-height.height c.loop-height.link) c.loop-height.within) (omega (arith, length-drop c.loop-height.within (seq_at (form_at c.args.heap.now) c.loop-height.height c.loop-height.link), c.loop-height.invariant.inside))

pub returns-clause-front : goal.returns-clause-front
returns-clause-front g c =
    let is : c.links-2.result.now ≡ seq_at (form_at c.args.heap.now) c.loop-height.height c.loop-height.link = c.links-2.ensures.links ∙ sym (links-form c.args.heap.now c.loop-height.link) ∙ sym (seq-leaf (form_at c.args.heap.now) c.loop-height.height c.loop-height.link c.loop-height-test.false) in
    front-of (drop c.args.index (elements c.args.heap.now c.args.root)) (drop c.loop-height.within (seq_at (form_at c.args.heap.now) c.loop-height.height c.loop-height.link)) c.loop-height.invariant.front.0 (take (length c.links-2.result.now - c.loop-height.within) (drop c.loop-height.within c.links-2.result.now)) (take_rest c.links-2.result.now c.loop-height.within ∙ ap (drop c.loop-height.within) is) c.loop-height.invariant.front.1

pub slice_bounds-result-count : goal.slice_bounds-result-count
slice_bounds-result-count g c =
    let is : c.links-2.result.now ≡ seq_at (form_at c.args.heap.now) c.loop-height.height c.loop-height.link = c.links-2.ensures.links ∙ sym (links-form c.args.heap.now c.loop-height.link) ∙ sym (seq-leaf (form_at c.args.heap.now) c.loop-height.height c.loop-height.link c.loop-height-test.false) in
    omega (arith, ap length is, c.loop-height.invariant.inside)

pub slice_bounds-result-start : goal.slice_bounds-result-start
slice_bounds-result-start g c =
    let is : c.links-2.result.now ≡ seq_at (form_at c.args.heap.now) c.loop-height.height c.loop-height.link = c.links-2.ensures.links ∙ sym (links-form c.args.heap.now c.loop-height.link) ∙ sym (seq-leaf (form_at c.args.heap.now) c.loop-height.height c.loop-height.link c.loop-height-test.false) in
    omega (arith, ap length is, c.loop-height.invariant.inside)
