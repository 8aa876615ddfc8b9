use Rattle.std.proofs.Common.{arith, ◌≡◌, ◌-◌, ◌≤◌, ℕ, List, suc, length, get_or, ap, ◌∙◌}
use Rattle.std.specs.List.{slice_get}
use Rattle.node_heap.specs.Heap.{form_at, links_at}
use Rattle.rrb_core.specs.Seq.{seq_at}
use Rattle.rrb_core.specs.Vector.{sums_at}
use Rattle.rrb_core.proofs.RowLists.{over, sized, at-place, child-at}
use Rattle.rrb_core.proofs.GetLemmas.{items-get}
use Rattle.rrb_core.proofs.search.child_spot_by.Goals as goal

pub returns-then-index-sums-clause-past : goal.returns-then-index-sums-clause-past
returns-then-index-sums-clause-past g c =
    let is = sized c.args.heap.now (suc c.args.below) c.args.link (omega arith) c.requires.well c.requires.sums in
    let some : 1 ≤ length (sums_at c.args.heap.now c.args.link) = rw c.requires.kept at c.requires.some in
    let last : get_or c.args.sums.now (length c.args.sums.now - 1) 0 ≡ length (seq_at (form_at c.args.heap.now) (suc c.args.below) c.args.link) = rw c.requires.kept (is.by_sums some) in
    omega (arith, last, c.if-index-sums.true)

pub spot_of-spot-requires-clause-inside : goal.spot_of-spot-requires-clause-inside
spot_of-spot-requires-clause-inside g c =
    let is = sized c.args.heap.now (suc c.args.below) c.args.link (omega arith) c.requires.well c.requires.sums in
    let some : 1 ≤ length (sums_at c.args.heap.now c.args.link) = rw c.requires.kept at c.requires.some in
    let last : get_or c.args.sums.now (length c.args.sums.now - 1) 0 ≡ length (seq_at (form_at c.args.heap.now) (suc c.args.below) c.args.link) = rw c.requires.kept (is.by_sums some) in
    omega (arith, last, c.if-index-sums.false)

pub returns-clause-well : goal.returns-clause-well
returns-clause-well g c =
    let at = at-place c.links.result.now (links_at c.args.heap.now c.args.link) c.spot_of-spot.result.place c.index-links-spot.result c.index-links-spot.is c.links.ensures.links c.spot_of-spot.ensures.place in
    (child-at c.args.heap.now c.args.below c.args.link c.spot_of-spot.result.place c.index-links-spot.result (over c.args.heap.now c.args.below c.args.link c.requires.well c.requires.sums) c.spot_of-spot.ensures.place at).well

pub returns-clause-sums : goal.returns-clause-sums
returns-clause-sums g c =
    let at = at-place c.links.result.now (links_at c.args.heap.now c.args.link) c.spot_of-spot.result.place c.index-links-spot.result c.index-links-spot.is c.links.ensures.links c.spot_of-spot.ensures.place in
    (child-at c.args.heap.now c.args.below c.args.link c.spot_of-spot.result.place c.index-links-spot.result (over c.args.heap.now c.args.below c.args.link c.requires.well c.requires.sums) c.spot_of-spot.ensures.place at).sums

pub returns-clause-same : goal.returns-clause-same
returns-clause-same g c =
    let at = at-place c.links.result.now (links_at c.args.heap.now c.args.link) c.spot_of-spot.result.place c.index-links-spot.result c.index-links-spot.is c.links.ensures.links c.spot_of-spot.ensures.place in
    let o = over c.args.heap.now c.args.below c.args.link c.requires.well c.requires.sums in
    rw at (ap (λ (xs : List ℕ). slice_get xs c.args.index) o.items ∙ items-get (seq_at (form_at c.args.heap.now) c.args.below) (links_at c.args.heap.now c.args.link) c.spot_of-spot.result.place c.spot_of-spot.result.within c.args.index c.spot_of-spot.ensures.place c.spot_of-spot.ensures.before c.spot_of-spot.ensures.inside)
