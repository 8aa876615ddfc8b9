use Rattle.std.proofs.Common.{arith, ap, ◌≡◌, ℕ, List, length, ◌∙◌}
use Rattle.node_heap.specs.Heap.{links_at}
use Rattle.rrb_core.proofs.RowLists.{at-place}
use Rattle.edit_vec.proofs.PopTop.{root-child, two-children, given-live-root, leaves-first}
use Rattle.edit_vec.proofs.pop.leave_first.Goals as goal

pub only_element-given-requires-clause-well : goal.only_element-given-requires-clause-well
only_element-given-requires-clause-well g c =
    let wide : length c.links-links.result.now ≡ 2 = ap length c.links-links.ensures.links ∙ two-children c.args.heap.now c.args.height c.args.root c.requires.goes in
    (root-child c.args.heap.now c.args.height c.args.root 1 c.index-links-1.result c.links-links.result.now c.requires.good c.requires.height c.requires.goes.0 c.links-links.ensures.links (omega (arith, wide)) c.index-links-1.is).well

pub hold-requires-2-clause-live : goal.hold-requires-2-clause-live
hold-requires-2-clause-live g c =
    let ks : List ℕ = links_at c.args.heap.now c.args.root in
    let two = two-children c.args.heap.now c.args.height c.args.root c.requires.goes in
    let first = at-place c.links-links.result.now ks 0 c.index-links-0.result c.index-links-0.is c.links-links.ensures.links (omega (arith, two)) in
    let last = at-place c.links-links.result.now ks 1 c.index-links-1.result c.index-links-1.is c.links-links.ensures.links (omega (arith, two)) in
    rw (c.hold.ensures.rows c.only_element-given.result) (given-live-root c.requires.graph c.requires.good c.requires.height c.requires.goes first last c.only_element-given.ensures)

pub returns : goal.returns
returns g c =
    let ks : List ℕ = links_at c.args.heap.now c.args.root in
    let two = two-children c.args.heap.now c.args.height c.args.root c.requires.goes in
    let first = at-place c.links-links.result.now ks 0 c.index-links-0.result c.index-links-0.is c.links-links.ensures.links (omega (arith, two)) in
    let last = at-place c.links-links.result.now ks 1 c.index-links-1.result c.index-links-1.is c.links-links.ensures.links (omega (arith, two)) in
    leaves-first c.requires.graph c.requires.good c.requires.height c.requires.goes first last c.only_element-given.ensures
    c.hold.ensures.rows c.hold.ensures.holds c.hold.ensures.makes c.hold.ensures.count c.hold-2.ensures.rows c.hold-2.ensures.holds c.hold-2.ensures.makes c.hold-2.ensures.count c.release.ensures.graph c.release.ensures.releases c.release.ensures.below
