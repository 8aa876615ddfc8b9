use Rattle.std.proofs.Common.{arith, ap, length, suc, ◌+◌, ◌≡◌, ◌∙◌}
use Rattle.std.proofs.lemmas.List.{length_push}
use Rattle.node_heap.specs.Heap.{form_at}
use Rattle.rrb_core.specs.Seq.{seq_at}
use Rattle.rrb_core.proofs.Stays.{well-live}
use Rattle.edit_vec.proofs.HereLemmas.{sole-built, node-built, links-built, held-built, apart-built, rows-placed, items-placed, few-placed, two-placed, inner-placed, sums-placed, one-placed, pushes-beside}
use Rattle.edit_vec.proofs.push.push_beside.Goals as goal

pub links-count-requires : goal.links-count-requires
links-count-requires g c = well-live c.args.heap.now (suc c.args.below) c.args.row c.requires.row.well

pub insert_link-requires-clause-sole : goal.insert_link-requires-clause-sole
insert_link-requires-clause-sole g c = sole-built c.requires.row c.spine-child.ensures.made c.spine-child.ensures.owners

pub insert_link-requires-clause-node : goal.insert_link-requires-clause-node
insert_link-requires-clause-node g c = node-built c.requires.row c.spine-child.ensures.made c.spine-child.ensures.owners

pub insert_link-requires-clause-index : goal.insert_link-requires-clause-index
insert_link-requires-clause-index g c = omega (arith, ap length c.links-count.ensures.links, ap length (links-built c.requires.row c.spine-child.ensures.made c.spine-child.ensures.owners))

pub insert_link-requires-clause-room : goal.insert_link-requires-clause-room
insert_link-requires-clause-room g c = omega (arith, c.requires.room, ap length (links-built c.requires.row c.spine-child.ensures.made c.spine-child.ensures.owners))

pub insert_link-requires-clause-held : goal.insert_link-requires-clause-held
insert_link-requires-clause-held g c = held-built c.requires.row c.spine-child.ensures.made c.spine-child.ensures.owners

pub insert_link-requires-clause-apart : goal.insert_link-requires-clause-apart
insert_link-requires-clause-apart g c = apart-built c.requires.row c.spine-child.ensures.made c.spine-child.ensures.owners

pub sums_beside-sums-requires-clause-rows : goal.sums_beside-sums-requires-clause-rows
sums_beside-sums-requires-clause-rows g c =
    rows-placed c.requires.row c.spine-child.ensures.made c.spine-child.ensures.owners c.requires.packed c.requires.room (ap length c.links-count.ensures.links) c.insert_link.ensures.writes c.insert_link.ensures.changes c.insert_link.ensures.makes

pub sums_beside-sums-requires-clause-kept : goal.sums_beside-sums-requires-clause-kept
sums_beside-sums-requires-clause-kept g c =
    sums-placed c.requires.row c.spine-child.ensures.made c.spine-child.ensures.owners c.requires.packed c.requires.room (ap length c.links-count.ensures.links) c.insert_link.ensures.writes c.insert_link.ensures.changes c.insert_link.ensures.makes

pub sums_beside-sums-requires-clause-one : goal.sums_beside-sums-requires-clause-one
sums_beside-sums-requires-clause-one g c =
    one-placed c.requires.row c.spine-child.ensures.made c.spine-child.ensures.owners c.requires.packed c.requires.room (ap length c.links-count.ensures.links) c.insert_link.ensures.writes c.insert_link.ensures.changes c.insert_link.ensures.makes

pub sums_beside-sums-requires-clause-two : goal.sums_beside-sums-requires-clause-two
sums_beside-sums-requires-clause-two g c =
    two-placed c.requires.row c.spine-child.ensures.made c.spine-child.ensures.owners c.requires.packed c.requires.room (ap length c.links-count.ensures.links) c.insert_link.ensures.writes c.insert_link.ensures.changes c.insert_link.ensures.makes

pub sums_beside-sums-requires-clause-few : goal.sums_beside-sums-requires-clause-few
sums_beside-sums-requires-clause-few g c =
    few-placed c.requires.row c.spine-child.ensures.made c.spine-child.ensures.owners c.requires.packed c.requires.room (ap length c.links-count.ensures.links) c.insert_link.ensures.writes c.insert_link.ensures.changes c.insert_link.ensures.makes

pub sums_beside-sums-requires-clause-short : goal.sums_beside-sums-requires-clause-short
sums_beside-sums-requires-clause-short g c =
    let items = items-placed c.requires.row c.spine-child.ensures.made c.spine-child.ensures.owners c.requires.packed c.requires.room (ap length c.links-count.ensures.links) c.insert_link.ensures.writes c.insert_link.ensures.changes c.insert_link.ensures.makes in
    rw items (omega (arith, length_push (seq_at (form_at c.args.heap.now) (suc c.args.below) c.args.row) c.args.element, c.requires.short))

pub put_sums-requires-clause-graph : goal.put_sums-requires-clause-graph
put_sums-requires-clause-graph g c = c.insert_link.ensures.changes.trades.graph

pub put_sums-requires-clause-sole : goal.put_sums-requires-clause-sole
put_sums-requires-clause-sole g c = c.insert_link.ensures.owners c.args.row ∙ sole-built c.requires.row c.spine-child.ensures.made c.spine-child.ensures.owners

pub put_sums-requires-clause-inner : goal.put_sums-requires-clause-inner
put_sums-requires-clause-inner g c =
    let up : suc c.args.below ≡ c.args.below + 1 = omega arith in
    rw up at (inner-placed c.requires.row c.spine-child.ensures.made c.spine-child.ensures.owners c.requires.packed c.requires.room (ap length c.links-count.ensures.links) c.insert_link.ensures.writes c.insert_link.ensures.changes c.insert_link.ensures.makes)

pub returns : goal.returns
returns g c =
    pushes-beside c.requires.row c.spine-child.ensures.made c.spine-child.ensures.owners c.requires.packed c.requires.room (ap length c.links-count.ensures.links) c.insert_link.ensures.writes c.insert_link.ensures.changes c.insert_link.ensures.makes
    (omega arith) c.sums_beside-sums.ensures c.put_sums.ensures.writes c.put_sums.ensures.changes c.put_sums.ensures.makes
