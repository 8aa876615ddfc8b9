use Rattle.std.proofs.Common.{refl}
use Rattle.space_state.proofs.Keeping.{keeps-versions, keeps-released, rises-released, turns-by}
use Rattle.state_rows.proofs.Room.{room-freed}
use Rattle.space_state.proofs.roots.RootedHeap.turn_versions.Goals as goal

pub returns-clause-turns : goal.returns-clause-turns
returns-clause-turns c = λ W m K are.
    let turned = keeps-versions c.args.map.root m K are in
    rw c.into_root-self.ensures (turns-by 0 (keeps-released turned c.release.ensures.releases c.release.ensures.graph) refl (rises-released c.release.ensures.releases))

pub returns-clause-spares : goal.returns-clause-spares
returns-clause-spares c = room-freed c.release.ensures.releases
