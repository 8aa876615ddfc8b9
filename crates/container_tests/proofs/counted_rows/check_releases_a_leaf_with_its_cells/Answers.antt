use Rattle.std.proofs.Common.{refl, arith}
use Rattle.node_heap.proofs.Counts.{test_same}
use Rattle.node_heap.proofs.GraphLemmas.{IsGraph-kinds}
use Rattle.container_tests.proofs.counted_rows.check_releases_a_leaf_with_its_cells.Goals as goal

pub node-leaf-requires-clause-held : goal.node-leaf-requires-clause-held
node-leaf-requires-clause-held g c = λ l. omega (arith, c.cell-first.ensures.adds.holds l, c.cell-second.ensures.adds.holds l, c.hold.ensures.holds l)

pub owners-requires : goal.owners-requires
owners-requires g c =
    c.node-leaf.ensures.extends.live c.cell-first.result (c.hold.ensures.extends.live c.cell-first.result (c.cell-second.ensures.extends.live c.cell-first.result (rw c.cell-first.ensures.adds.here refl)))

pub value-requires : goal.value-requires
value-requires g c =
    c.node-leaf.ensures.extends.live c.cell-first.result (c.hold.ensures.extends.live c.cell-first.result (c.cell-second.ensures.extends.live c.cell-first.result (rw c.cell-first.ensures.adds.here refl)))

pub release-requires : goal.release-requires
release-requires g c =
    let leaf = c.node-leaf.result in
    omega (arith, c.node-leaf.ensures.adds.holds leaf, c.node-leaf.ensures.adds.apart, test_same leaf leaf refl)

pub cell-again-requires-clause-spare : goal.cell-again-requires-clause-spare
cell-again-requires-clause-spare g c =
    let kinds = IsGraph-kinds c.release.new.self in
    omega (arith, kinds, c.in_ok-reserve.ensures.spares.0, c.cell-first.ensures.makes.spare_cells, c.cell-first.ensures.makes.cells, c.cell-second.ensures.makes.cells, c.hold.ensures.makes.cells, c.node-leaf.ensures.makes.cells, c.release.ensures.releases.cells, c.live-2.ensures.value)

pub node-pair-requires-clause-spare : goal.node-pair-requires-clause-spare
node-pair-requires-clause-spare g c =
    let kinds = IsGraph-kinds c.release.new.self in
    omega (arith, kinds, c.in_ok-reserve.ensures.spares.1, c.cell-first.ensures.makes.nodes, c.cell-second.ensures.makes.nodes, c.hold.ensures.makes.nodes, c.node-leaf.ensures.makes.nodes, c.node-leaf.ensures.makes.spare_nodes, c.cell-first.ensures.makes.spare_nodes, c.cell-second.ensures.makes.spare_nodes, c.hold.ensures.makes.spare_nodes, c.release.ensures.releases.nodes, c.live-2.ensures.value, c.cell-again.ensures.makes.spare_nodes)

pub node-pair-requires-clause-held : goal.node-pair-requires-clause-held
node-pair-requires-clause-held g c l = omega (arith, c.cell-again.ensures.adds.holds l)
