use Rattle.std.proofs.Common.{refl, arith}
use Rattle.node_heap.proofs.Counts.{test_same}
use Rattle.map_tests.proofs.tries.makes_a_row_of_given_places.Goals as goal

pub row_at_three-row-requires-clause-held : goal.row_at_three-row-requires-clause-held
row_at_three-row-requires-clause-held g c = let three = c.cell-three.result in omega (arith, c.cell-three.ensures.adds.holds three, test_same three three refl)
