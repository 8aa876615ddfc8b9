use Rattle.std.proofs.Common.{refl, arith}
use Rattle.node_heap.proofs.Counts.{test_same}
use Rattle.vector_tests.proofs.joins.check_inserts_joins_and_cuts.Goals as goal

pub twice-requires-clause-held : goal.twice-requires-clause-held
twice-requires-clause-held g c =
    let cell = c.cell-cell.result in
    omega (arith, c.cell-cell.ensures.adds.holds cell, test_same cell cell refl)
