use Rattle.space_state.proofs.Keeping.{heap-is}
use Rattle.space_state.proofs.Steps.{room-lacks-memory}
use Rattle.space_state.proofs.Hoarding.{room-reserved}
use Rattle.space_state.proofs.roots.RootedHeap.make_room_with.Goals as goal

pub returns-in_err-reserve-clause-room : goal.returns-in_err-reserve-clause-room
returns-in_err-reserve-clause-room c = λ W K.
    room-lacks-memory _ c.from_residual.result c.from_residual.ensures.1 (heap-is c.in_err-reserve.ensures.refused)

pub returns-clause-spares : goal.returns-clause-spares
returns-clause-spares c = room-reserved c.in_ok-reserve.ensures.greater c.reserve.ensures.rest
