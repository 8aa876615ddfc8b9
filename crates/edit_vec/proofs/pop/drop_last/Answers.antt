use Rattle.std.proofs.Common.{arith, ◌≡◌, ◌+◌, ◌-◌, suc, ap, length}
use Rattle.node_heap.specs.Heap.{links_at}
use Rattle.rrb_core.proofs.Stays.{well-live}
use Rattle.edit_vec.proofs.PopLemmas.{sole-left, form-left, well-next, one-next, held-child, given-live, drops-last}
use Rattle.edit_vec.proofs.pop.drop_last.Goals as goal

pub links-requires : goal.links-requires
links-requires g c = well-live c.args.heap.now (suc c.args.below) c.args.row c.requires.row.well

pub put_sums-requires-clause-sole : goal.put_sums-requires-clause-sole
put_sums-requires-clause-sole g c =
    let is : length c.links.result.now - 1 ≡ length (links_at c.args.heap.now c.args.row) - 1 = omega (arith, ap length c.links.ensures.links) in
    sole-left c.requires.row c.requires.two c.requires.one is c.remove_link-child.ensures.old c.remove_link-child.ensures.writes c.remove_link-child.ensures.changes c.remove_link-child.ensures.owners

pub put_sums-requires-clause-inner : goal.put_sums-requires-clause-inner
put_sums-requires-clause-inner g c =
    let is : length c.links.result.now - 1 ≡ length (links_at c.args.heap.now c.args.row) - 1 = omega (arith, ap length c.links.ensures.links) in
    let up : c.args.below + 1 ≡ suc c.args.below = omega arith in
    rw up (form-left c.requires.row c.requires.two c.requires.one is c.remove_link-child.ensures.old c.remove_link-child.ensures.writes c.remove_link-child.ensures.changes c.remove_link-child.ensures.owners)

pub only_element-given-requires-clause-well : goal.only_element-given-requires-clause-well
only_element-given-requires-clause-well g c =
    let is : length c.links.result.now - 1 ≡ length (links_at c.args.heap.now c.args.row) - 1 = omega (arith, ap length c.links.ensures.links) in
    well-next c.requires.row c.requires.two c.requires.one is c.remove_link-child.ensures.old c.remove_link-child.ensures.writes c.remove_link-child.ensures.changes c.remove_link-child.ensures.owners (omega arith) c.sums_without_last-sums.ensures c.put_sums.ensures.writes c.put_sums.ensures.changes c.put_sums.ensures.owners

pub only_element-given-requires-clause-one : goal.only_element-given-requires-clause-one
only_element-given-requires-clause-one g c =
    let is : length c.links.result.now - 1 ≡ length (links_at c.args.heap.now c.args.row) - 1 = omega (arith, ap length c.links.ensures.links) in
    one-next c.requires.row c.requires.two c.requires.one is c.remove_link-child.ensures.old c.remove_link-child.ensures.writes c.remove_link-child.ensures.changes c.remove_link-child.ensures.owners (omega arith) c.sums_without_last-sums.ensures c.put_sums.ensures.writes c.put_sums.ensures.changes c.put_sums.ensures.owners

pub hold-requires-clause-live : goal.hold-requires-clause-live
hold-requires-clause-live g c =
    let is : length c.links.result.now - 1 ≡ length (links_at c.args.heap.now c.args.row) - 1 = omega (arith, ap length c.links.ensures.links) in
    given-live c.requires.row c.requires.two c.requires.one is c.remove_link-child.ensures.old c.remove_link-child.ensures.writes c.remove_link-child.ensures.changes c.remove_link-child.ensures.owners (omega arith) c.sums_without_last-sums.ensures c.put_sums.ensures.writes c.put_sums.ensures.changes c.put_sums.ensures.owners c.only_element-given.ensures

pub release-requires : goal.release-requires
release-requires g c =
    let is : length c.links.result.now - 1 ≡ length (links_at c.args.heap.now c.args.row) - 1 = omega (arith, ap length c.links.ensures.links) in
    let held = held-child c.requires.row c.requires.two c.requires.one is c.remove_link-child.ensures.old c.remove_link-child.ensures.writes c.remove_link-child.ensures.changes c.remove_link-child.ensures.owners (omega arith) c.sums_without_last-sums.ensures c.put_sums.ensures.writes c.put_sums.ensures.changes c.put_sums.ensures.owners in
    omega (arith, held, c.hold.ensures.holds c.remove_link-child.result)

pub returns : goal.returns
returns g c =
    let is : length c.links.result.now - 1 ≡ length (links_at c.args.heap.now c.args.row) - 1 = omega (arith, ap length c.links.ensures.links) in
    drops-last c.requires.row c.requires.two c.requires.one is c.remove_link-child.ensures.old c.remove_link-child.ensures.writes c.remove_link-child.ensures.changes c.remove_link-child.ensures.owners (omega arith) c.sums_without_last-sums.ensures c.put_sums.ensures.writes c.put_sums.ensures.changes c.put_sums.ensures.owners c.only_element-given.ensures c.remove_link-child.ensures.makes c.put_sums.ensures.makes c.hold.ensures.graph c.hold.ensures.rows c.hold.ensures.holds c.hold.ensures.owners c.hold.ensures.makes c.hold.ensures.count c.hold.ensures.extends c.release.ensures.graph c.release.ensures.releases c.release.ensures.below
