use Rattle.node_heap.proofs.BuildLemmas.{Builds-Answered, Builds-MakesJust}
use Rattle.node_heap.proofs.RoomLemmas.{Builds-KeepsToNeed}
use Rattle.rrb_core.proofs.BuildLemmas.{answered-same, unchanged-good}
use Rattle.rrb_core.proofs.flex.Flex.empty.Goals as goal

pub returns-clause-items : goal.returns-clause-items
returns-clause-items g c = c.empty_root-root.ensures.vector.1

pub returns-clause-good : goal.returns-clause-good
returns-clause-good g c = c.empty_root-root.ensures.vector.0

pub returns-clause-answered : goal.returns-clause-answered
returns-clause-answered g c = Builds-Answered c.in_ok-reserve.ensures.rest c.empty_root-root.ensures.builds

pub returns-clause-made : goal.returns-clause-made
returns-clause-made g c = Builds-MakesJust c.in_ok-reserve.ensures.rest c.empty_root-root.ensures.builds

pub returns-clause-vectors : goal.returns-clause-vectors
returns-clause-vectors g c = answered-same (Builds-Answered c.in_ok-reserve.ensures.rest c.empty_root-root.ensures.builds)

pub returns-in_err-reserve-clause-vectors : goal.returns-in_err-reserve-clause-vectors
returns-in_err-reserve-clause-vectors g c = λ l. unchanged-good l c.in_err-reserve.ensures.rest

pub returns-clause-spares : goal.returns-clause-spares
returns-clause-spares g c = Builds-KeepsToNeed c.in_ok-reserve.ensures.greater c.in_ok-reserve.ensures.rest c.empty_root-root.ensures.builds
