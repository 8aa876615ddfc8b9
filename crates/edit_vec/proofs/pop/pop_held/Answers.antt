use Rattle.std.proofs.Common.{◌≡◌, ℕ, List, ap, ◌∙◌, arith}
use Rattle.node_heap.proofs.OwnedRows.{Owns, owned-hold, owns}
use Rattle.node_heap.specs.Heap.{form_at, links_at}
use Rattle.node_heap.specs.InPlace.{child_at}
use Rattle.rrb_core.proofs.RowLists.{at-place}
use Rattle.rrb_core.proofs.Stays.{well-live}
use Rattle.rrb_core.specs.Vector.{height_at}
use Rattle.edit_vec.proofs.PopLemmas.{room-trans, room-makes, needs-kept}
use Rattle.edit_vec.proofs.PopSteps.{not-both}
use Rattle.edit_vec.proofs.PopTop.{two-children, pops-child, enough-mid, more-mid, can-pop-root, pops-root}
use Rattle.edit_vec.proofs.TopLemmas.{good-node}
use Rattle.edit_vec.specs.Steps.{LeavesChild, LeavesFirst}
use Rattle.edit_vec.proofs.pop.pop_held.Given.{Over}
use Rattle.edit_vec.proofs.pop.pop_held.Goals.{After-own-own}
use Rattle.edit_vec.proofs.pop.pop_held.Goals as goal

pub height_of-height-requires : goal.height_of-height-requires
height_of-height-requires g c = rw c.into_root-root.ensures (well-live c.args.heap.now (height_at c.args.heap.now c.args.vector) c.args.vector c.requires.good.shape.well)

pub leaves_child-requires-clause-good : goal.leaves_child-requires-clause-good
leaves_child-requires-clause-good g c = rw c.into_root-root.ensures c.requires.good

pub leave_first-given-requires-clause-good : goal.leave_first-given-requires-clause-good
leave_first-given-requires-clause-good g c = rw c.into_root-root.ensures c.requires.good

pub returns-then-leaves_child-clause-pops : goal.returns-then-leaves_child-clause-pops
returns-then-leaves_child-clause-pops g c =
    let h = c.args.heap.now in
    let root : ℕ = c.args.vector in
    let height : c.height_of-height.result ≡ height_at h root = c.height_of-height.ensures ∙ ap (height_at h) c.into_root-root.ensures in
    let goes : LeavesChild (form_at h) c.height_of-height.result root = rw c.into_root-root.ensures at (c.leaves_child.ensures.0 c.if-leaves_child.true) in
    let left : LeavesFirst h c.leave_first-given.new.heap root c.leave_first-given.result = rw c.into_root-root.ensures at c.leave_first-given.ensures in
    let ks : List ℕ = links_at h root in
    let links : c.links.result.now ≡ ks = rw c.into_root-root.ensures at c.links.ensures.links in
    let first : c.index-links-0.result ≡ child_at h root 0 = at-place c.links.result.now ks 0 c.index-links-0.result c.index-links-0.is links (omega (arith, two-children h c.height_of-height.result root goes)) in
    rw (c.from_root.ensures ∙ first) (pops-child c.requires.good height goes left)

pub returns-then-leaves_child-clause-spares : goal.returns-then-leaves_child-clause-spares
returns-then-leaves_child-clause-spares g c = needs-kept c.leave_first-given.ensures.room

pub own-own-requires-clause-node : goal.own-own-requires-clause-node
own-own-requires-clause-node g c = rw c.into_root-root.ensures (good-node c.requires.good)

-- the root is its holder's own then
module _ (g : Over) (c : After-own-own g) where
  own : Owns c.args.heap.now c.own-own.new.self c.args.vector c.own-own.result
  own =
      let did = c.own-own.ensures in
      owns c.into_root-root.ensures c.rows_form_a_graph.ensures c.requires.held did.same did.row did.sole did.fresh did.owners did.builds did.makes

  height : c.height_of-height.result ≡ height_at c.args.heap.now c.args.vector
  height = c.height_of-height.ensures ∙ ap (height_at c.args.heap.now) c.into_root-root.ensures

pub pop_in-given-requires-clause-row : goal.pop_in-given-requires-clause-row
pop_in-given-requires-clause-row g c =
    let before = (goal.at.pop_in-given-requires-clause-row g c).After-own-own in
    can-pop-root (owned-hold (own g before)) c.requires.good (height g before) c.own-own.ensures.builds.graph (omega (arith, c.requires.few, c.own-own.ensures.builds.total))

pub pop_in-given-requires-clause-some : goal.pop_in-given-requires-clause-some
pop_in-given-requires-clause-some g c =
    let before = (goal.at.pop_in-given-requires-clause-some g c).After-own-own in
    enough-mid (owned-hold (own g before)) c.requires.good (height g before) c.requires.some

pub pop_in-given-requires-clause-more : goal.pop_in-given-requires-clause-more
pop_in-given-requires-clause-more g c =
    let before = (goal.at.pop_in-given-requires-clause-more g c).After-own-own in
    more-mid (owned-hold (own g before)) c.requires.good (height g before)

pub returns-clause-pops : goal.returns-clause-pops
returns-clause-pops g c =
    let before = (goal.at.returns-clause-pops g c).After-own-own in
    let stays : ¬ LeavesChild (form_at c.args.heap.now) c.height_of-height.result c.args.vector = λ goes. not-both (c.leaves_child.ensures.1 (rw c.into_root-root.ensures goes)) c.if-leaves_child.false in
    let made = rw c.into_root-root.ensures at c.own-own.ensures.makes in
    rw c.from_root-2.ensures (pops-root (owned-hold (own g before)) c.requires.good (height g before) c.requires.some stays (omega (arith, made.made)) c.pop_in-given.ensures)

pub returns-clause-spares : goal.returns-clause-spares
returns-clause-spares g c = needs-kept (room-trans (room-makes c.own-own.ensures.makes) c.pop_in-given.ensures.room)
