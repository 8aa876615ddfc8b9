use Rattle.std.proofs.Common.{rules, arith, ◌≡◌, ◌+◌, ◌-◌, ◌<◌, ◌≤◌, ◌^◌, ◌++◌, ℕ, List, [], ◌∷◌, length-append, length, get_or, take, ap, ◌∙◌, sym}
use Rattle.std.proofs.lemmas.List.{length-take-le, length_push}
use Rattle.node_heap.specs.Heap.{form_at, links_at}
use Rattle.rrb_core.specs.Seq.{seq_at}
use Rattle.rrb_core.specs.Vector.{AreSums}
use Rattle.rrb_core.specs.Edit.{links_with}
use Rattle.rrb_core.proofs.Lists.{each-push}
use Rattle.rrb_core.proofs.RowLists.{placed-child, placed-short, part, sums-first, sums-count, part-short, until-is, sum-moves, keeps}
use Rattle.rrb_core.proofs.BuildLemmas.{on-ok}
use Rattle.rrb_core.proofs.EditLemmas.{around-length}
use Rattle.rrb_core.proofs.rows.sums_beside.Goals as goal

pub sum_before-gone-requires : goal.sum_before-gone-requires
sum_before-gone-requires g c = omega (arith, sums-count c.requires.place c.requires.some c.sums_of-old.ensures, c.requires.place.skip_in)

pub sum_before-requires : goal.sum_before-requires
sum_before-requires g c = omega (arith, sums-count c.requires.place c.requires.some c.sums_of-old.ensures, c.requires.place.keep_in)

pub size-requires-clause-well : goal.size-requires-clause-well
size-requires-clause-well g c = (placed-child c.requires.place).0

pub size-requires-clause-sums : goal.size-requires-clause-sums
size-requires-clause-sums g c = (placed-child c.requires.place).1

pub size-requires-clause-short : goal.size-requires-clause-short
size-requires-clause-short g c = placed-short c.requires.place

pub overflow_add-until : goal.overflow_add-until
overflow_add-until g c =
    let fits : c.sum_before.result + c.size.result < 2 ^ 32 = omega (arith, until-is c.requires.place c.requires.some c.sums_of-old.ensures c.sum_before.ensures.first c.sum_before.ensures.later c.sum_before-gone.ensures.first c.sum_before-gone.ensures.later c.size.ensures.value, part-short c.requires.place c.requires.some c.sums_of-old.ensures (c.args.keep + 1)) in
    search rules

pub slice_bounds-try_extend_from_slice-end : goal.slice_bounds-try_extend_from_slice-end
slice_bounds-try_extend_from_slice-end g c = omega (arith, sums-count c.requires.place c.requires.some c.sums_of-old.ensures, c.requires.place.keep_in, length-take-le c.args.keep c.sums_of-old.result.now)

pub loop-place-init : goal.loop-place-init
loop-place-init g c =
    let size : length (take c.args.keep c.sums_of-old.result.now) ≡ c.args.keep = length-take-le c.args.keep c.sums_of-old.result.now (omega (arith, sums-count c.requires.place c.requires.some c.sums_of-old.ensures, c.requires.place.keep_in)) in
    let few : c.args.keep ≤ 32 = omega (arith, c.requires.place.few) in
    let none = ap length c.new-sums.ensures in
    let front : c.try_extend_from_slice.new.self.items ≡ take c.args.keep c.sums_of-old.result.now = on-ok c.try_extend_from_slice.result (c.try_extend_from_slice.ensures.variant.1 (omega (arith, size, few, none))) c.try_extend_from_slice.ensures.ok ∙ ap (λ (xs : List ℕ). xs ++ take c.args.keep c.sums_of-old.result.now) c.new-sums.ensures in
    let all : c.push.new.self.items ≡ take c.args.keep c.sums_of-old.result.now ++ (c.sum_before.result + c.size.result) ∷ [] = c.push.ensures.items ∙ ap (λ (xs : List ℕ). xs ++ (c.sum_before.result + c.size.result) ∷ []) front in
    let start : c.args.keep + 1 + (c.args.skip - c.args.skip) ≡ c.args.keep + 1 = omega arith in
    rw (all, start) (record {
      count = omega (arith, size, length-append (take c.args.keep c.sums_of-old.result.now) ((c.sum_before.result + c.size.result) ∷ []));
      each = each-push (λ k. part c.requires.place c.requires.some c.sums_of-old.ensures (k + 1)) (take c.args.keep c.sums_of-old.result.now) c.args.keep (c.sum_before.result + c.size.result) size (sums-first c.requires.place c.requires.some c.sums_of-old.ensures) (until-is c.requires.place c.requires.some c.sums_of-old.ensures c.sum_before.ensures.first c.sum_before.ensures.later c.sum_before-gone.ensures.first c.sum_before-gone.ensures.later c.size.ensures.value);
    })

pub overflow_sub-old : goal.overflow_sub-old
overflow_sub-old g c =
    let at : c.args.skip + (c.loop-place.place - c.args.skip) ≡ c.loop-place.place = omega (arith, c.loop-place.auto.place) in
    let inside : c.args.skip + (c.loop-place.place - c.args.skip) < length (links_at c.args.heap.now c.args.link) = omega (arith, sums-count c.requires.place c.requires.some c.sums_of-old.ensures, c.loop-place-test.true, at) in
    let moved = sum-moves c.requires.place c.requires.some c.sums_of-old.ensures c.sum_before.ensures.first c.sum_before.ensures.later c.sum_before-gone.ensures.first c.sum_before-gone.ensures.later c.size.ensures.value (c.loop-place.place - c.args.skip) (get_or c.sums_of-old.result.now c.loop-place.place 0) inside (ap (λ (k : ℕ). get_or c.sums_of-old.result.now k 0) (sym at)) in
    moved.0

pub overflow_add-until-in-loop-place : goal.overflow_add-until-in-loop-place
overflow_add-until-in-loop-place g c =
    let at : c.args.skip + (c.loop-place.place - c.args.skip) ≡ c.loop-place.place = omega (arith, c.loop-place.auto.place) in
    let inside : c.args.skip + (c.loop-place.place - c.args.skip) < length (links_at c.args.heap.now c.args.link) = omega (arith, sums-count c.requires.place c.requires.some c.sums_of-old.ensures, c.loop-place-test.true, at) in
    let moved = sum-moves c.requires.place c.requires.some c.sums_of-old.ensures c.sum_before.ensures.first c.sum_before.ensures.later c.sum_before-gone.ensures.first c.sum_before-gone.ensures.later c.size.ensures.value (c.loop-place.place - c.args.skip) (get_or c.sums_of-old.result.now c.loop-place.place 0) inside (ap (λ (k : ℕ). get_or c.sums_of-old.result.now k 0) (sym at)) in
    let fits : c.sum_before.result + c.size.result + (get_or c.sums_of-old.result.now c.loop-place.place 0 - c.sum_before-gone.result) < 2 ^ 32 = omega (arith, moved.1, part-short c.requires.place c.requires.some c.sums_of-old.ensures (c.args.keep + 1 + (c.loop-place.place - c.args.skip) + 1)) in
    search rules

pub loop-place-preserved : goal.loop-place-preserved
loop-place-preserved g c =
    let at : c.args.skip + (c.loop-place.place - c.args.skip) ≡ c.loop-place.place = omega (arith, c.loop-place.auto.place) in
    let inside : c.args.skip + (c.loop-place.place - c.args.skip) < length (links_at c.args.heap.now c.args.link) = omega (arith, sums-count c.requires.place c.requires.some c.sums_of-old.ensures, c.loop-place-test.true, at) in
    let moved = sum-moves c.requires.place c.requires.some c.sums_of-old.ensures c.sum_before.ensures.first c.sum_before.ensures.later c.sum_before-gone.ensures.first c.sum_before-gone.ensures.later c.size.ensures.value (c.loop-place.place - c.args.skip) (get_or c.sums_of-old.result.now c.loop-place.place 0) inside (ap (λ (k : ℕ). get_or c.sums_of-old.result.now k 0) (sym at)) in
    let more : c.args.keep + 1 + (c.loop-place.place + 1 - c.args.skip) ≡ c.args.keep + 1 + (c.loop-place.place - c.args.skip) + 1 = omega (arith, c.loop-place.auto.place) in
    rw (c.push-in-loop-place.ensures.items, more) (record {
      count = omega (arith, length_push c.loop-place.sums.items (c.sum_before.result + c.size.result + (get_or c.sums_of-old.result.now c.loop-place.place 0 - c.sum_before-gone.result)), c.loop-place.invariant.count);
      each = each-push (λ k. part c.requires.place c.requires.some c.sums_of-old.ensures (k + 1)) c.loop-place.sums.items (c.args.keep + 1 + (c.loop-place.place - c.args.skip)) (c.sum_before.result + c.size.result + (get_or c.sums_of-old.result.now c.loop-place.place 0 - c.sum_before-gone.result)) c.loop-place.invariant.count c.loop-place.invariant.each moved.1;
    })

pub returns : goal.returns
returns g c =
    let wide : length (links_with (links_at c.args.heap.now c.args.link) c.args.keep c.args.child c.args.skip) ≡ c.args.keep + 1 + (length (links_at c.args.heap.now c.args.link) - c.args.skip) = around-length (links_at c.args.heap.now c.args.link) c.args.keep c.args.skip c.args.child c.requires.place.keep_in in
    let count = sums-count c.requires.place c.requires.some c.sums_of-old.ensures in
    let sums : AreSums c.loop-place.sums.items (seq_at (form_at c.args.heap.now) c.args.below) (links_with (links_at c.args.heap.now c.args.link) c.args.keep c.args.child c.args.skip) = record {
      count = omega (arith, c.loop-place.invariant.count, c.loop-place-test.false, wide, count, c.requires.place.skip_in);
      each = λ k b. c.loop-place.invariant.each k (omega (arith, b, c.loop-place-test.false, wide, count, c.requires.place.skip_in));
    } in
    keeps c.args.heap.now c.args.below (links_with (links_at c.args.heap.now c.args.link) c.args.keep c.args.child c.args.skip) c.loop-place.sums.items c.kept_sums.result c.requires.place.rows (omega (arith, wide)) sums (rw c.as_slice.ensures.value at c.kept_sums.ensures.none) (rw c.as_slice.ensures.value at c.kept_sums.ensures.kept)
