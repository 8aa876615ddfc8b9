use Rattle.std.proofs.Common.{refl}
use Rattle.space_state.proofs.Keeping.{keeps-released, rises-released, room-released, turns-by}
use Rattle.state_rows.proofs.Room.{room-freed}
use Rattle.space_state.proofs.roots.RootedHeap.give_up.Goals as goal

pub returns-clause-turns : goal.returns-clause-turns
returns-clause-turns c = λ W K. turns-by 0 (keeps-released K c.release.ensures.releases c.release.ensures.graph) refl (rises-released c.release.ensures.releases)

pub returns-clause-room : goal.returns-clause-room
returns-clause-room c = room-released c.release.ensures.releases

pub returns-clause-spares : goal.returns-clause-spares
returns-clause-spares c = room-freed c.release.ensures.releases
