use Rattle.std.proofs.Common.{refl, ◌∙◌, arith}
use Rattle.node_heap.proofs.Counts.{test_same}
use Rattle.node_heap.proofs.BuildLemmas.{count-one}
use Rattle.node_heap.proofs.Frames.{Extends-row}
use Rattle.container_tests.proofs.RowLemmas.{cell-apart}
use Rattle.container_tests.proofs.writes.inserts_and_removes_links.Goals as goal

pub insert_link-requires-clause-held : goal.insert_link-requires-clause-held
insert_link-requires-clause-held g c =
    let second = c.cell-second.result in
    omega (arith, c.cell-first.ensures.adds.holds second, c.cell-second.ensures.adds.holds second, c.node-row.ensures.adds.holds second, test_same second second refl)

pub insert_link-requires-clause-apart : goal.insert_link-requires-clause-apart
insert_link-requires-clause-apart g c =
    let second = c.cell-second.result in
    let was = c.cell-second.ensures.adds.here in
    cell-apart c.cell-second.new.self c.node-row.new.self _ second c.node-row.result c.node-row.ensures.adds.fresh was (Extends-row c.node-row.ensures.extends second (rw was refl) ∙ was)

pub node-row-requires-clause-held : goal.node-row-requires-clause-held
node-row-requires-clause-held g c = λ l. omega (arith, count-one l c.cell-first.result, c.cell-first.ensures.adds.holds l, c.cell-second.ensures.adds.holds l)
