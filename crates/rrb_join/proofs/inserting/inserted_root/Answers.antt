use Rattle.std.proofs.Common.{arith, ◌<◌, ◌^◌, ◌∙◌, ◌∷◌, ◌++◌, length, take, drop}
use Rattle.rrb_core.specs.Vector.{height_at, elements}
use Rattle.rrb_core.proofs.Stays.{well-live, live-stays}
use Rattle.node_heap.proofs.BuildLemmas.{Builds-then, Builds-more}
use Rattle.rrb_core.proofs.BuildLemmas.{builds-held}
use Rattle.rrb_join.proofs.UnmadeLemmas.{unmade-rows}
use Rattle.rrb_join.proofs.InsertLemmas.{inserted-length}
use Rattle.rrb_join.proofs.JoinLemmas.{puts-root}
use Rattle.rrb_join.proofs.inserting.inserted_root.Goals as goal

pub height_of-height-requires : goal.height_of-height-requires
height_of-height-requires g c = well-live c.args.heap.now (height_at c.args.heap.now c.args.root) c.args.root c.requires.good.shape.well

pub root_over-requires-clause-rows : goal.root_over-requires-clause-rows
root_over-requires-clause-rows g c =
    let made = c.insert_links-links.ensures in
    let short : length (take c.args.index (elements c.args.heap.now c.args.root) ++ c.args.element ∷ drop c.args.index (elements c.args.heap.now c.args.root)) < 2 ^ 32 = omega (arith, inserted-length (elements c.args.heap.now c.args.root) c.args.index c.args.element c.requires.inside, c.requires.short) in
    rw c.as_slice.ensures.value (unmade-rows made.links made.builds.graph (omega (arith, c.height_of-height.ensures, c.requires.good.shape.low)) (rw c.height_of-height.ensures short) (builds-held c.args.element c.requires.held made.builds) (omega (arith, made.builds.total, made.links.most, c.requires.holds)))

pub returns-clause-builds : goal.returns-clause-builds
returns-clause-builds g c =
    Builds-more 0 _ (Builds-then c.insert_links-links.ensures.builds (rw c.as_slice.ensures.value at c.root_over.ensures.builds)) (omega arith) (omega (arith, c.height_of-height.ensures))

pub returns-clause-flat : goal.returns-clause-flat
returns-clause-flat g c = λ few. c.root_over.ensures.flat (rw c.as_slice.ensures.value (omega (arith, c.insert_links-links.ensures.few, few))) ∙ c.height_of-height.ensures

pub returns-clause-low : goal.returns-clause-low
returns-clause-low g c = rw (← c.height_of-height.ensures) c.root_over.ensures.low

pub returns-clause-seam : goal.returns-clause-seam
returns-clause-seam g c =
    puts-root c.args.heap.now c.insert_links-links.new.heap c.root_over.new.heap c.args.root c.height_of-height.result c.root_over.result c.insert_links-links.result.items c.height_of-height.ensures (live-stays c.insert_links-links.ensures.builds.graph c.root_over.ensures.builds.extends)
    c.insert_links-links.ensures.links.links c.insert_links-links.ensures.seam (λ m low. rw c.as_slice.ensures.value at (c.root_over.ensures.below m low)) c.root_over.ensures.top
