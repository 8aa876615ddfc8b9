use Rattle.std.proofs.Common.{[], refl, arith}
use Rattle.shell_terms.specs.Command.{«end»}
use Rattle.plain_space.specs.Cost.{cost}
use Rattle.space_state.proofs.Keeping.{heap-is, same-heap, keeps-same, keeps-closed, batch-open, batch-closed, rises-same, turns-after}
use Rattle.space_state.proofs.Steps.{end-refused, end-done, base-told, base-none, may-lack, memory-refused}
use Rattle.state_rows.proofs.Room.{room-then}
use Rattle.space_state.proofs.Hoarding.{room-reserved}
use Rattle.space_state.proofs.roots.RootedHeap.end.Goals as goal

pub returns-in_default-clause-ends : goal.returns-in_default-clause-ends
returns-in_default-clause-ends c = λ W K. record { due = end-refused W (batch-closed (base-none c.base.ensures c.in_default.is) K); same = refl }

pub returns-in_err-reserve-clause-ends : goal.returns-in_err-reserve-clause-ends
returns-in_err-reserve-clause-ends c = λ W K.
    let base = batch-open c.in-Some.base (base-told c.base.ensures c.in-Some.is) K in
    memory-refused c.from_residual.result c.from_residual.ensures.1 (may-lack «end» refl (end-done W base.0 base.1)) (heap-is c.in_err-reserve.ensures.refused)

pub record-requires-clause-kept : goal.record-requires-clause-kept
record-requires-clause-kept c =
    let W = c.requires.0 in
    let K = c.requires.1 in
    let opened = base-told c.base.ensures c.in-Some.is in
    let now = keeps-same (same-heap c.reserve.ensures.rest) K in
    let base = batch-open c.in-Some.base opened now in
    ([], _, base.0, keeps-closed c.in-Some.base opened now, omega arith, base.2)

pub returns-clause-ends : goal.returns-clause-ends
unfolding cost
returns-clause-ends c = λ W K.
    let opened = base-told c.base.ensures c.in-Some.is in
    let now = keeps-same (same-heap c.reserve.ensures.rest) K in
    let base = batch-open c.in-Some.base opened now in
    record {
      after = _;
      told = end-done W base.0 base.1;
      turns = turns-after 0 256 (rises-same c.reserve.ensures.rest) refl (c.record.ensures.turns [] _ base.0 (keeps-closed c.in-Some.base opened now) base.2).turns (omega arith);
      few_made = λ placed inside. absurd placed;
    }

pub returns-clause-spares : goal.returns-clause-spares
returns-clause-spares c = λ W K. room-then (room-reserved c.in_ok-reserve.ensures.greater c.reserve.ensures.rest) c.record.ensures.spares

pub returns-clause-below : goal.returns-clause-below
returns-clause-below c = λ W K fewer.
    let opened = base-told c.base.ensures c.in-Some.is in
    let now = keeps-same (same-heap c.reserve.ensures.rest) K in
    let base = batch-open c.in-Some.base opened now in
    let made = c.record.ensures.below [] _ base.0 (keeps-closed c.in-Some.base opened now) base.2 fewer in
    omega (arith, made, c.reserve.ensures.rest.made)
