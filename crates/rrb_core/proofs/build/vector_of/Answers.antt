use Rattle.std.proofs.Common.{arith}
use Rattle.node_heap.proofs.BuildLemmas.{Builds-Answered}
use Rattle.rrb_core.proofs.BuildLemmas.{answered-same, unchanged-good}
use Rattle.rrb_core.proofs.build.vector_of.Goals as goal

pub returns-in_err-reserve-clause-vectors : goal.returns-in_err-reserve-clause-vectors
returns-in_err-reserve-clause-vectors g c = λ l. unchanged-good l c.in_err-reserve.ensures.rest

pub returns-clause-answered : goal.returns-clause-answered
returns-clause-answered g c = Builds-Answered c.in_ok-reserve.ensures.rest c.vector_of_spares.ensures.builds

pub returns-clause-vectors : goal.returns-clause-vectors
returns-clause-vectors g c = answered-same (Builds-Answered c.in_ok-reserve.ensures.rest c.vector_of_spares.ensures.builds)

pub returns-clause-spares : goal.returns-clause-spares
returns-clause-spares g c =
    let room = c.in_ok-reserve.ensures.greater in
    let rest = c.in_ok-reserve.ensures.rest in
    let makes = c.vector_of_spares.ensures.builds.makes in
    let cells = c.vector_of_spares.ensures.builds.few_cells in
    record {
      few_cells = omega (arith, room.spare_cells, rest.cells, makes.spare_cells, makes.cells, cells);
      few_nodes = omega (arith, room.spare_nodes, rest.nodes, makes.spare_nodes, makes.nodes);
    }
