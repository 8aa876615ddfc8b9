use Rattle.std.proofs.Common.{[], refl, sym, subst, arith}
use Rattle.state_rows.specs.EditedStates.{MakesAtMost}
use Rattle.space_state.specs.declared.roots.RootedHeap.{RootedHeap}
use Rattle.space_state.specs.declared.undo_end.TheConstants.{TURN_NODES}
use Rattle.space_state.proofs.Keeping.{heap-is, same-heap, keeps-same, rises-same, turns-after}
use Rattle.space_state.proofs.Placing.{ready-refused}
use Rattle.state_rows.proofs.Room.{room-then}
use Rattle.space_state.proofs.Hoarding.{room-reserved}
use Rattle.space_state.proofs.roots.RootedHeap.ready.Goals as goal

pub returns-in_err-reserve-clause-ready : goal.returns-in_err-reserve-clause-ready
returns-in_err-reserve-clause-ready c = λ W K.
    ready-refused _ c.from_residual-in_err-reserve.result c.from_residual-in_err-reserve.ensures.1 (heap-is c.in_err-reserve.ensures.refused)

pub keep_current-requires-clause-kept : goal.keep_current-requires-clause-kept
keep_current-requires-clause-kept c =
    let k = c.requires.kept in
    ([], k.0, keeps-same (same-heap c.reserve.ensures.rest) k.1, omega arith)

pub keep_current-requires-clause-spares : goal.keep_current-requires-clause-spares
keep_current-requires-clause-spares c = let spares = c.in_ok-reserve.ensures.spares in (omega arith, omega (arith, spares.1))

pub returns-clause-ready : goal.returns-clause-ready
returns-clause-ready c = λ W K.
    let rest = c.reserve.ensures.rest in
    let kept = keeps-same (same-heap rest) K in
    let spares = c.in_ok-reserve.ensures.spares in
    let now = c.keep_current.ensures.turns [] W kept in
    record {
      turns = turns-after 0 TURN_NODES (rises-same rest) refl now.turns (omega arith);
      few = λ inside. subst (λ (u : RootedHeap). MakesAtMost c.args.self.now.heap u.heap 0) (sym (c.keep_current.ensures.inside W kept inside)) (omega (arith, rest.made, rest.live));
      spares = (omega (arith, spares.0, now.spare_cells), omega (arith, spares.1, now.spare_nodes));
    }

pub returns-clause-spares : goal.returns-clause-spares
returns-clause-spares c = room-then (room-reserved c.in_ok-reserve.ensures.greater c.reserve.ensures.rest) c.keep_current.ensures.spares
