use Rattle.std.proofs.Common.{◌≡◌, ◌-◌, [], length, take, Some, slice_get, refl, arith}
use Rattle.shell_terms.specs.Command.{redo}
use Rattle.plain_space.specs.Workspace.{State, Workspace}
use Rattle.plain_space.specs.Cost.{cost}
use Rattle.space_state.specs.Roots.{Keeps}
use Rattle.space_state.specs.Stepping.{CanStep}
use Rattle.space_state.proofs.Keeping.{heap-is, same-heap, few-holds, redo-held, redo-stands, keeps-same, rises-same, rises-then, rises-trades, turns-after}
use Rattle.space_state.proofs.Editing.{fails, passes}
use Rattle.space_state.proofs.Steps.{IsMoved, moved-redo, last-at, redo-done, redo-due, step-wants-none, may-lack, memory-refused}
use Rattle.state_rows.proofs.Room.{room-then}
use Rattle.space_state.proofs.Hoarding.{room-reserved}
use Rattle.space_state.proofs.roots.RootedHeap.redo.Goals as goal
use Rattle.space_state.proofs.roots.RootedHeap.redo.Goals.{In_ok-can_step, In_ok-reserve, After-popped-redo}

-- a step can be made
can : (c : In_ok-can_step) (W : Workspace) → Keeps c.args.self.now [] W → CanStep W.redo W
can c W K = c.in_ok-can_step.ensures W W.redo K (rw c.at.ensures (redo-stands K))

-- and there is a state to go to
there : (c : In_ok-can_step) (W : Workspace) → Keeps c.args.self.now [] W → (x : State) × (slice_get W.redo (length W.redo - 1) ≡ Some x)
there c W K = last-at W.redo (can c W K).some

-- room was made
now : (c : In_ok-reserve) (W : Workspace) → Keeps c.args.self.now [] W → Keeps (record c.args.self.now { heap = c.reserve.new.self }) [] W
now c W K = keeps-same (same-heap c.reserve.ensures.rest) K

-- the state was taken out
moved : (c : After-popped-redo) (W : Workspace) → Keeps c.args.self.now [] W
    → IsMoved (record c.args.self.now { heap = c.reserve.new.self }) c.popped-redo.new.heap (record c.args.self.now.roots { redo = c.popped-redo.result.0 }) c.popped-redo.result.1 W.redo (record W { redo = take (length W.redo - 1) W.redo })
moved c W K =
    let did = rw c.from_root.ensures at c.popped-redo.ensures in
    let was = now (goal.at.After-popped-redo c).In_ok-reserve W K in
    moved-redo was did.keeps did.trades (did.history c.args.self.now.bits W.redo (redo-stands was)) (did.last c.args.self.now.bits W.redo (redo-stands was))

pub can_step-requires : goal.can_step-requires
can_step-requires c = (c.requires.0, c.requires.0.redo, c.requires.1, rw c.at.ensures (redo-stands c.requires.1))

pub returns-in_err-can_step-clause-ends : goal.returns-in_err-can_step-clause-ends
returns-in_err-can_step-clause-ends c = λ W K.
    let refused = c.in_err-can_step.ensures W W.redo K (rw c.at.ensures (redo-stands K)) in
    fails c.in_err-can_step.field-0.0 c.from_residual.result c.from_residual.ensures.1 (record { due = redo-due W _ refused; same = refl })

pub returns-in_err-can_step-clause-ample : goal.returns-in_err-can_step-clause-ample
returns-in_err-can_step-clause-ample c = λ ample.
    let W = c.requires.0 in
    let refused = c.in_err-can_step.ensures W W.redo c.requires.1 (rw c.at.ensures (redo-stands c.requires.1)) in
    passes c.in_err-can_step.field-0.0 c.from_residual.result c.from_residual.ensures.1 (λ told. step-wants-none W.redo W refused (let h = told in cc))

pub returns-in_err-reserve-clause-ends : goal.returns-in_err-reserve-clause-ends
returns-in_err-reserve-clause-ends c = λ W K.
    let path = (goal.at.returns-in_err-reserve-clause-ends c).In_ok-can_step in
    let last = there path W K in
    memory-refused c.from_residual-in_err-reserve.result c.from_residual-in_err-reserve.ensures.1 (may-lack redo refl (redo-done W (can path W K).outside last.0 last.1)) (heap-is c.in_err-reserve.ensures.refused)

pub popped-redo-requires : goal.popped-redo-requires
popped-redo-requires c =
    let W = c.requires.0 in
    let path = goal.at.popped-redo-requires c in
    let now = now path.In_ok-reserve W c.requires.1 in
    rw c.from_root.ensures (record { few = few-holds now (omega arith); held = redo-held now; history = (c.args.self.now.bits, W.redo, redo-stands now, (can path.In_ok-can_step W c.requires.1).some); spares = (omega arith, omega (arith, c.in_ok-reserve.ensures.spares.1)) })

pub push_undo-requires-clause-spares : goal.push_undo-requires-clause-spares
push_undo-requires-clause-spares c =
    let trades = c.popped-redo.ensures.trades in
    (omega arith, omega (arith, c.in_ok-reserve.ensures.spares.1, trades.balance.spare_nodes, trades.nodes))

pub push_undo-requires-clause-kept : goal.push_undo-requires-clause-kept
push_undo-requires-clause-kept c =
    let W = c.requires.0 in
    let moved = moved (goal.at.push_undo-requires-clause-kept c).After-popped-redo W c.requires.1 in
    rw c.into_root-self.ensures ([], _, W.current, moved.keeps, omega arith, moved.before)

pub returns-clause-ends : goal.returns-clause-ends
unfolding cost
returns-clause-ends c = λ W K.
    let path = (goal.at.returns-clause-ends c).In_ok-can_step in
    let moved = moved (goal.at.returns-clause-ends c).After-popped-redo W K in
    let pushed = (rw c.into_root-self.ensures at c.push_undo.ensures.turns) [] _ W.current moved.keeps moved.before in
    record {
      after = _;
      told = redo-done W (can path W K).outside moved.x moved.last;
      turns = turns-after 8 256 (rises-then (rises-same c.reserve.ensures.rest) (rises-trades c.popped-redo.ensures.trades)) refl pushed.turns (omega arith);
      few_made = λ placed inside. absurd placed;
    }

-- where undo has fewer states than its bound none goes from it
pub returns-clause-below : goal.returns-clause-below
returns-clause-below c = λ W K fewer.
    let moved = moved (goal.at.returns-clause-below c).After-popped-redo W K in
    let made = (rw c.into_root-self.ensures at c.push_undo.ensures.below) [] _ moved.keeps fewer in
    omega (arith, made, c.reserve.ensures.rest.made, c.popped-redo.ensures.trades.made)

pub returns-clause-spares : goal.returns-clause-spares
returns-clause-spares c = λ W K. room-then (room-then (room-reserved c.in_ok-reserve.ensures.greater c.reserve.ensures.rest) c.popped-redo.ensures.spares) c.push_undo.ensures.spares
