use Rattle.std.proofs.Common.{arith, ◌≡◌, ◌∙◌, length, length-drop, [], drop}
use Rattle.std.proofs.lemmas.List.{drop_all}
use Rattle.node_heap.specs.Heap.{form_at}
use Rattle.node_heap.proofs.BuildLemmas.{Builds-then, Builds-more}
use Rattle.rrb_core.specs.Vector.{height_at, elements, IsVectorOf}
use Rattle.rrb_core.proofs.FillRule.{height-is}
use Rattle.rrb_core.proofs.Stays.{well-live, live-stays}
use Rattle.rrb_core.proofs.RowLists.{good-row}
use Rattle.rrb_join.specs.Unmade.{items_below}
use Rattle.rrb_join.proofs.JoinLemmas.{rows-of-kept}
use Rattle.rrb_join.proofs.RestRows.{all-left, left-none, left-root}
use Rattle.rrb_join.proofs.FewerRows.{fewer-itself, fewer-none, fewer-root}
use Rattle.rrb_join.proofs.rests.rest_root.Given as given
use Rattle.rrb_join.proofs.rests.rest_root.Goals as goal

nothing : (g : given.Over) (c : goal.After-leaf_over g) → IsVectorOf c.leaf_over.new.heap c.leaf_over.result []
nothing g c = good-row c.leaf_over.new.heap 0 c.leaf_over.result [] c.leaf_over.ensures.row (omega arith) (λ some. absurd (omega arith)) (omega arith)

pub returns-then-count-len-clause-items : goal.returns-then-count-len-clause-items
returns-then-count-len-clause-items g c =
    let len : c.len.result ≡ length (elements c.args.heap.now c.args.root) = rw c.at.ensures at c.len.ensures.value in
    let none : drop c.args.count (elements c.args.heap.now c.args.root) ≡ [] = drop_all c.args.count (elements c.args.heap.now c.args.root) (omega (arith, len, c.if-count-len.true)) in
    rw none (nothing g c).1

pub returns-then-count-len-clause-good : goal.returns-then-count-len-clause-good
returns-then-count-len-clause-good g c = (nothing g c).0

pub returns-then-count-len-clause-low : goal.returns-then-count-len-clause-low
returns-then-count-len-clause-low g c = omega (arith, height-is (form_at c.leaf_over.new.heap) 0 c.leaf_over.result c.leaf_over.ensures.row.well)

pub height_of-height-requires : goal.height_of-height-requires
height_of-height-requires g c = well-live c.args.heap.now (height_at c.args.heap.now c.args.root) c.args.root c.requires.good.shape.well

rest : (g : given.Over) (c : goal.After-row_over g) → IsVectorOf c.row_over.new.heap c.row_over.result (drop c.args.count (elements c.args.heap.now c.args.root))
rest g c =
    let items : items_below c.rest_of-rest.new.heap c.rest_of-rest.result.height c.as_slice.result.now ≡ drop c.args.count (elements c.args.heap.now c.args.root) = rw (c.as_slice.ensures.value, ← c.height_of-height.ensures) c.rest_of-rest.ensures.links.items in
    good-row c.row_over.new.heap c.rest_of-rest.result.height c.row_over.result (drop c.args.count (elements c.args.heap.now c.args.root)) (rw items at c.row_over.ensures.row) (omega (arith, c.rest_of-rest.ensures.low, c.height_of-height.ensures, c.requires.good.shape.low))
    (λ some. rw (c.row_over.ensures.links, c.as_slice.ensures.value) (c.rest_of-rest.ensures.two some)) (omega (arith, length-drop c.args.count (elements c.args.heap.now c.args.root), c.requires.good.shape.short))

pub returns-clause-items : goal.returns-clause-items
returns-clause-items g c = (rest g c).1

pub returns-clause-good : goal.returns-clause-good
returns-clause-good g c = (rest g c).0

pub returns-clause-low : goal.returns-clause-low
returns-clause-low g c =
    let e = height-is (form_at c.row_over.new.heap) c.rest_of-rest.result.height c.row_over.result c.row_over.ensures.row.well in
    omega (arith, e, c.rest_of-rest.ensures.low, c.height_of-height.ensures)

pub returns-clause-builds : goal.returns-clause-builds
returns-clause-builds g c =
    Builds-more 0 _ (Builds-then c.rest_of-rest.ensures.builds (rw c.as_slice.ensures.value at c.row_over.ensures.builds)) (omega arith) (omega (arith, height-is (form_at c.row_over.new.heap) c.rest_of-rest.result.height c.row_over.result c.row_over.ensures.row.well))

pub returns-then-count-eq0-clause-rows : goal.returns-then-count-eq0-clause-rows
returns-then-count-eq0-clause-rows g c =
    let stays = live-stays c.requires.graph c.held_again.ensures.shares.builds.extends in
    let live = well-live c.args.heap.now (height_at c.args.heap.now c.args.root) c.args.root c.requires.good.shape.well in
    rw c.held_again.ensures.same (all-left c.args.heap.now c.held_again.new.heap c.args.root (λ m. rows-of-kept stays m c.args.root live))

pub returns-then-count-len-clause-rows : goal.returns-then-count-len-clause-rows
returns-then-count-len-clause-rows g c = left-none c.args.heap.now c.leaf_over.new.heap c.args.root c.leaf_over.result c.leaf_over.ensures.row.well

pub returns-clause-rows : goal.returns-clause-rows
returns-clause-rows g c =
    left-root c.args.heap.now c.rest_of-rest.new.heap c.row_over.new.heap c.args.root c.height_of-height.result c.rest_of-rest.result.height c.row_over.result c.height_of-height.ensures (live-stays c.rest_of-rest.ensures.builds.graph c.row_over.ensures.builds.extends) c.rest_of-rest.ensures.links.links c.row_over.ensures.row.well (c.row_over.ensures.links ∙ c.as_slice.ensures.value) c.rest_of-rest.ensures.rows

pub returns-then-count-eq0-clause-within : goal.returns-then-count-eq0-clause-within
returns-then-count-eq0-clause-within g c =
    let stays = live-stays c.requires.graph c.held_again.ensures.shares.builds.extends in
    let live = well-live c.args.heap.now (height_at c.args.heap.now c.args.root) c.args.root c.requires.good.shape.well in
    rw (c.held_again.ensures.same, c.if-count-eq0.true) (fewer-itself c.args.heap.now c.args.root c.requires.good c.held_again.new.heap (λ m. rows-of-kept stays m c.args.root live))

pub returns-then-count-len-clause-within : goal.returns-then-count-len-clause-within
returns-then-count-len-clause-within g c = fewer-none c.args.heap.now c.leaf_over.new.heap c.args.root c.args.count c.leaf_over.result c.leaf_over.ensures.row.well

pub returns-clause-within : goal.returns-clause-within
returns-clause-within g c =
    fewer-root c.args.heap.now c.rest_of-rest.new.heap c.row_over.new.heap c.args.root c.args.count c.height_of-height.result c.rest_of-rest.result.height c.row_over.result c.height_of-height.ensures (live-stays c.rest_of-rest.ensures.builds.graph c.row_over.ensures.builds.extends) c.rest_of-rest.ensures.links.links c.row_over.ensures.row.well (c.row_over.ensures.links ∙ c.as_slice.ensures.value) c.rest_of-rest.ensures.within
