use Rattle.std.proofs.Common.{refl, ap, ◌∙◌, arith}
use Rattle.node_heap.specs.Forms.{head_of}
use Rattle.node_heap.specs.Heap.{row_at}
use Rattle.node_heap.proofs.Counts.{test_same, test_other}
use Rattle.node_heap.proofs.BuildLemmas.{count-one}
use Rattle.node_heap.proofs.Frames.{Extends-row}
use Rattle.container_tests.proofs.RowLemmas.{cell-other, cell-apart, headed-node, headed-live, trie-form}
use Rattle.container_tests.proofs.counted_rows.check_outgrows_a_twig.Goals as goal

pub hold_all-requires-clause-live : goal.hold_all-requires-clause-live
hold_all-requires-clause-live g c l counted = c.cell-second.ensures.graph.held l (omega (arith, c.cell-first.ensures.adds.holds l, c.cell-second.ensures.adds.holds l, counted))

pub node-row-requires-clause-held : goal.node-row-requires-clause-held
node-row-requires-clause-held g c l = omega (arith, c.cell-first.ensures.adds.holds l, c.cell-second.ensures.adds.holds l, c.hold_all.ensures.holds l)

pub insert_link-requires-clause-held : goal.insert_link-requires-clause-held
insert_link-requires-clause-held g c =
    let second = c.cell-second.result in
    omega (arith, c.cell-first.ensures.adds.holds second, c.cell-second.ensures.adds.holds second, c.hold_all.ensures.holds second, c.node-row.ensures.adds.holds second, test_same second second refl)

pub insert_link-requires-clause-apart : goal.insert_link-requires-clause-apart
insert_link-requires-clause-apart g c =
    let second = c.cell-second.result in
    let was = c.hold_all.ensures.rows second ∙ c.cell-second.ensures.adds.here in
    cell-apart c.hold_all.new.self c.node-row.new.self _ second c.node-row.result c.node-row.ensures.adds.fresh was (Extends-row c.node-row.ensures.extends second (rw was refl) ∙ was)

pub trie-requires : goal.trie-requires
trie-requires g c = (1, 2, _, (4, trie-form (row_at c.insert_link.new.self c.node-row.result) 4 1 2 _ (c.insert_link.ensures.writes.new_head ∙ ap head_of c.node-row.ensures.adds.here) refl))

pub links-requires : goal.links-requires
links-requires g c = headed-live (row_at c.insert_link.new.self c.node-row.result) _ (c.insert_link.ensures.writes.new_head ∙ ap head_of c.node-row.ensures.adds.here)

pub set_head-requires-clause-sole : goal.set_head-requires-clause-sole
set_head-requires-clause-sole g c = c.insert_link.ensures.owners c.node-row.result ∙ c.node-row.ensures.sole

pub set_head-requires-clause-node : goal.set_head-requires-clause-node
set_head-requires-clause-node g c = headed-node (row_at c.insert_link.new.self c.node-row.result) _ (c.insert_link.ensures.writes.new_head ∙ ap head_of c.node-row.ensures.adds.here)

pub sums-requires : goal.sums-requires
sums-requires g c = headed-live (row_at c.set_head.new.self c.node-row.result) _ c.set_head.ensures.writes.new_head

pub kind-requires : goal.kind-requires
kind-requires g c = headed-live (row_at c.set_head.new.self c.node-row.result) _ c.set_head.ensures.writes.new_head

pub set_head-requires-2-clause-sole : goal.set_head-requires-2-clause-sole
set_head-requires-2-clause-sole g c = c.set_head.ensures.owners c.node-row.result ∙ (c.insert_link.ensures.owners c.node-row.result ∙ c.node-row.ensures.sole)

pub set_head-requires-2-clause-node : goal.set_head-requires-2-clause-node
set_head-requires-2-clause-node g c = headed-node (row_at c.set_head.new.self c.node-row.result) _ c.set_head.ensures.writes.new_head

pub trie-requires-2 : goal.trie-requires-2
trie-requires-2 g c = (5, 6, _, (4, trie-form (row_at c.set_head-2.new.self c.node-row.result) 4 5 6 _ c.set_head-2.ensures.writes.new_head refl))

pub release-requires : goal.release-requires
release-requires g c =
    let row = c.node-row.result in
    let second = c.cell-second.result in
    let other = cell-other c.hold_all.new.self _ second row c.node-row.ensures.adds.fresh (c.hold_all.ensures.rows second ∙ c.cell-second.ensures.adds.here) in
    omega (arith, c.node-row.ensures.adds.holds row, c.node-row.ensures.adds.apart, test_same row row refl, c.insert_link.ensures.changes.trades.holds row, count-one row second, test_other row second other, c.set_head.ensures.changes.trades.holds row, c.set_head-2.ensures.changes.trades.holds row)
