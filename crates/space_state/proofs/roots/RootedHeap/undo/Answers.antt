use Rattle.std.proofs.Common.{◌≡◌, ◌-◌, ◌<◌, [], length, take, Some, slice_get, refl, arith}
use Rattle.shell_terms.specs.Command.{undo}
use Rattle.plain_space.specs.Workspace.{State, Workspace, most}
use Rattle.plain_space.specs.Cost.{cost}
use Rattle.space_state.specs.Roots.{Keeps}
use Rattle.space_state.specs.Stepping.{CanStep}
use Rattle.space_state.proofs.Keeping.{heap-is, same-heap, few-holds, undo-held, undo-stands, redo-stands, count-told, keeps-same, rises-same, rises-then, rises-trades, turns-after}
use Rattle.space_state.proofs.Editing.{fails, passes}
use Rattle.space_state.proofs.Steps.{IsMoved, moved-undo, last-at, has-below, undo-limited, undo-done, undo-due, step-wants-none, may-lack, memory-refused}
use Rattle.state_rows.proofs.Room.{room-then}
use Rattle.space_state.proofs.Hoarding.{room-reserved}
use Rattle.space_state.proofs.roots.RootedHeap.undo.Goals as goal
use Rattle.space_state.proofs.roots.RootedHeap.undo.Goals.{In_ok-can_step, Else-is_longest, In_ok-reserve, After-popped-undo}

-- a step can be made
can : (c : In_ok-can_step) (W : Workspace) → Keeps c.args.self.now [] W → CanStep W.undo W
can c W K = c.in_ok-can_step.ensures W W.undo K (rw c.at.ensures (undo-stands K))

-- and there is a state to go to
there : (c : In_ok-can_step) (W : Workspace) → Keeps c.args.self.now [] W → (x : State) × (slice_get W.undo (length W.undo - 1) ≡ Some x)
there c W K = last-at W.undo (can c W K).some

-- room was made
now : (c : In_ok-reserve) (W : Workspace) → Keeps c.args.self.now [] W → Keeps (record c.args.self.now { heap = c.reserve.new.self }) [] W
now c W K = keeps-same (same-heap c.reserve.ensures.rest) K

-- the state was taken out
moved : (c : After-popped-undo) (W : Workspace) → Keeps c.args.self.now [] W
    → IsMoved (record c.args.self.now { heap = c.reserve.new.self }) c.popped-undo.new.heap (record c.args.self.now.roots { undo = c.popped-undo.result.0 }) c.popped-undo.result.1 W.undo (record W { undo = take (length W.undo - 1) W.undo })
moved c W K =
    let did = rw c.from_root.ensures at c.popped-undo.ensures in
    let was = now (goal.at.After-popped-undo c).In_ok-reserve W K in
    moved-undo was did.keeps did.trades (did.history c.args.self.now.bits W.undo (undo-stands was)) (did.last c.args.self.now.bits W.undo (undo-stands was))

pub can_step-requires : goal.can_step-requires
can_step-requires c = (c.requires.0, c.requires.0.undo, c.requires.1, rw c.at.ensures (undo-stands c.requires.1))

pub returns-in_err-can_step-clause-ends : goal.returns-in_err-can_step-clause-ends
returns-in_err-can_step-clause-ends c = λ W K.
    let refused = c.in_err-can_step.ensures W W.undo K (rw c.at.ensures (undo-stands K)) in
    fails c.in_err-can_step.field-0.0 c.from_residual.result c.from_residual.ensures.1 (record { due = undo-due W _ refused; same = refl })

pub returns-in_err-can_step-clause-ample : goal.returns-in_err-can_step-clause-ample
returns-in_err-can_step-clause-ample c = λ ample.
    let W = c.requires.0 in
    let refused = c.in_err-can_step.ensures W W.undo c.requires.1 (rw c.at.ensures (undo-stands c.requires.1)) in
    passes c.in_err-can_step.field-0.0 c.from_residual.result c.from_residual.ensures.1 (λ told. step-wants-none W.undo W refused (let h = told in cc))

-- redo has room for one more
roomy : (c : Else-is_longest) (W : Workspace) → Keeps c.args.self.now [] W → length W.redo < most
roomy c W K = has-below (redo-stands K) (count-told (redo-stands K) c.at-2.ensures c.is_longest.ensures) c.if-is_longest.false

pub returns-then-is_longest-clause-ends : goal.returns-then-is_longest-clause-ends
returns-then-is_longest-clause-ends c = λ W K.
    let path = (goal.at.returns-then-is_longest-clause-ends c).In_ok-can_step in
    let last = there path W K in
    let full = (count-told (redo-stands K) c.at-2.ensures c.is_longest.ensures).0 c.if-is_longest.true in
    record { due = undo-limited W (can path W K).outside last.0 last.1 full; same = refl }

pub returns-in_err-reserve-clause-ends : goal.returns-in_err-reserve-clause-ends
returns-in_err-reserve-clause-ends c = λ W K.
    let path = (goal.at.returns-in_err-reserve-clause-ends c).In_ok-can_step in
    let last = there path W K in
    memory-refused c.from_residual-in_err-reserve.result c.from_residual-in_err-reserve.ensures.1 (may-lack undo refl (undo-done W (can path W K).outside last.0 last.1 (roomy (goal.at.returns-in_err-reserve-clause-ends c).Else-is_longest W K))) (heap-is c.in_err-reserve.ensures.refused)

pub popped-undo-requires : goal.popped-undo-requires
popped-undo-requires c =
    let W = c.requires.0 in
    let path = goal.at.popped-undo-requires c in
    let now = now path.In_ok-reserve W c.requires.1 in
    rw c.from_root.ensures (record { few = few-holds now (omega arith); held = undo-held now; history = (c.args.self.now.bits, W.undo, undo-stands now, (can path.In_ok-can_step W c.requires.1).some); spares = (omega arith, omega (arith, c.in_ok-reserve.ensures.spares.1)) })

pub push_redo-requires-clause-spares : goal.push_redo-requires-clause-spares
push_redo-requires-clause-spares c =
    let trades = c.popped-undo.ensures.trades in
    (omega arith, omega (arith, c.in_ok-reserve.ensures.spares.1, trades.balance.spare_nodes, trades.nodes))

pub push_redo-requires-clause-kept : goal.push_redo-requires-clause-kept
push_redo-requires-clause-kept c =
    let W = c.requires.0 in
    let moved = moved (goal.at.push_redo-requires-clause-kept c).After-popped-undo W c.requires.1 in
    rw c.into_root-self.ensures (_, W.current, moved.keeps, moved.before, roomy (goal.at.push_redo-requires-clause-kept c).Else-is_longest W c.requires.1)

pub returns-clause-ends : goal.returns-clause-ends
unfolding cost
returns-clause-ends c = λ W K.
    let path = (goal.at.returns-clause-ends c).In_ok-can_step in
    let moved = moved (goal.at.returns-clause-ends c).After-popped-undo W K in
    let pushed = (rw c.into_root-self.ensures at c.push_redo.ensures.turns) _ W.current moved.keeps moved.before in
    record {
      after = _;
      told = undo-done W (can path W K).outside moved.x moved.last (roomy (goal.at.returns-clause-ends c).Else-is_longest W K);
      turns = turns-after 8 64 (rises-then (rises-same c.reserve.ensures.rest) (rises-trades c.popped-undo.ensures.trades)) refl pushed (omega arith);
      few_made = λ placed inside. absurd placed;
    }

pub returns-clause-spares : goal.returns-clause-spares
returns-clause-spares c = λ W K. room-then (room-then (room-reserved c.in_ok-reserve.ensures.greater c.reserve.ensures.rest) c.popped-undo.ensures.spares) c.push_redo.ensures.spares
