use Rattle.std.proofs.Common.{◌+◌, ◌≡◌, List, [], Some, IsSome, not, ap, refl, sym, subst, ◌∙◌, arith}
use Rattle.space_state.specs.declared.room.TheConstants.{EDIT_NODES}
use Rattle.elem_core.specs.Shown.{name_bytes}
use Rattle.shell_terms.specs.Edit.{Bytes, drop}
use Rattle.plain_space.specs.Workspace.{Workspace, lines_of, without_lines}
use Rattle.plain_space.specs.declared.refusal.Refusal.TheVariants.{Absent}
use Rattle.state_rows.specs.InHeap.{AreLinesIn}
use Rattle.space_state.specs.Roots.{Keeps}
use Rattle.space_state.proofs.Keeping.{keeps-same, current-stands, keeps-gained}
use Rattle.space_state.proofs.Steps.{none-of, some-of, as-told}
use Rattle.space_state.proofs.Editing.{HasBufferRoom, has-room, drop-absent, drop-made, refuses, no-room, alike-same, drop-done, edit-refused, fails, passes}
use Rattle.plain_space.specs.Cost.{alike_buffers}
use Rattle.state_rows.proofs.Room.{room-then}
use Rattle.space_state.proofs.Hoarding.{room-more}
use Rattle.space_state.proofs.roots.RootedHeap.drop_buffer.Goals as goal
use Rattle.space_state.proofs.roots.RootedHeap.drop_buffer.Goals.{Else-is_none, In_ok-make_room_with}

pub returns-then-is_none-clause-ends : goal.returns-then-is_none-clause-ends
returns-then-is_none-clause-ends c = λ W K.
    let name = name_bytes c.args.name in
    let none = none-of (lines_of W.current name) (as-told (AreLinesIn c.args.self.now.heap c.args.self.now.bits) _ _ (c.find-found.ensures.lines W K) (c.is_none.ensures ∙ ap not c.if-is_none.true)) in
    edit-refused refl (refuses W (drop name) Absent (drop-absent W.current name none))

-- the buffer is there
found : (c : Else-is_none) (W : Workspace) → Keeps c.args.self.now [] W → (xs : List Bytes) × (lines_of W.current (name_bytes c.args.name) ≡ Some xs)
found c W K = some-of (lines_of W.current (name_bytes c.args.name)) (as-told (AreLinesIn c.args.self.now.heap c.args.self.now.bits) _ _ (c.find-found.ensures.lines W K) (c.is_none.ensures ∙ ap not c.if-is_none.false))

pub returns-in_err-make_room_with-clause-ends : goal.returns-in_err-make_room_with-clause-ends
returns-in_err-make_room_with-clause-ends c = λ W K.
    let name = name_bytes c.args.name in
    let found = found (goal.at.returns-in_err-make_room_with-clause-ends c).Else-is_none W K in
    fails c.in_err-make_room_with.field-0.0 c.from_residual.result c.from_residual.ensures.1
    (no-room W (drop name) _ (drop-made W.current name found.0 found.1) (c.in_err-make_room_with.ensures.room W K))

pub returns-in_err-make_room_with-clause-ample : goal.returns-in_err-make_room_with-clause-ample
returns-in_err-make_room_with-clause-ample c = λ W K spares.
    passes c.in_err-make_room_with.field-0.0 c.from_residual.result c.from_residual.ensures.1 (c.in_err-make_room_with.ensures.ample (spares.0, omega (arith, spares.1, c.find-found.ensures.alike W K)))

-- room was made
roomy : (c : In_ok-make_room_with) (W : Workspace) → Keeps c.args.self.now [] W → HasBufferRoom c.args.self.now c.make_room_with.new.self (name_bytes c.args.name) W
roomy c W K = has-room W (name_bytes c.args.name) (c.find-found.ensures.alike W K) (c.in_ok-make_room_with.ensures.room W K)

pub without_lines-next-requires-clause-state : goal.without_lines-next-requires-clause-state
without_lines-next-requires-clause-state c =
    let W = c.requires.0 in
    let K = c.requires.1 in
    let name = name_bytes c.args.name in
    let path = (goal.at.without_lines-next-requires-clause-state c).In_ok-make_room_with in
    let room = roomy path W K in
    let found = found (goal.at.without_lines-next-requires-clause-state c).Else-is_none W K in (
      W.current,
      current-stands (keeps-same room.same K),
      subst IsSome (sym found.1) refl,
      (omega arith, omega (arith, room.spares.1, alike-same room.same W.current name)),
    )

pub turn_to-requires-clause-spares : goal.turn_to-requires-clause-spares
turn_to-requires-clause-spares c =
    let W = c.requires.0 in
    let K = c.requires.1 in
    let name = name_bytes c.args.name in
    let room = roomy (goal.at.turn_to-requires-clause-spares c).In_ok-make_room_with W K in
    let g = c.without_lines-next.ensures.answered W.current (current-stands (keeps-same room.same K)) in
    (omega arith, omega (arith, room.spares.1, alike-same room.same W.current name, g.nodes, g.balance.spare_nodes))

pub turn_to-requires-clause-kept : goal.turn_to-requires-clause-kept
turn_to-requires-clause-kept c =
    let W = c.requires.0 in
    let K = c.requires.1 in
    let name = name_bytes c.args.name in
    let room = roomy (goal.at.turn_to-requires-clause-kept c).In_ok-make_room_with W K in
    let made = keeps-same room.same K in
    (W, without_lines W.current name, keeps-gained made (c.without_lines-next.ensures.answered W.current (current-stands made)), c.without_lines-next.ensures.state W.current (current-stands made))

pub returns-clause-ends : goal.returns-clause-ends
returns-clause-ends c = λ W K.
    let name = name_bytes c.args.name in
    let found = found (goal.at.returns-clause-ends c).Else-is_none W K in
    let room = roomy (goal.at.returns-clause-ends c).In_ok-make_room_with W K in
    let made = keeps-same room.same K in
    let g = c.without_lines-next.ensures.answered W.current (current-stands made) in
    drop-done found.0 room.same g found.1 (c.turn_to.ensures.turns W (without_lines W.current name) (keeps-gained made g) (c.without_lines-next.ensures.state W.current (current-stands made)))

pub returns-clause-spares : goal.returns-clause-spares
returns-clause-spares c = λ W K.
    room-more 2 (EDIT_NODES + alike_buffers c.args.self.now.bits W.current (name_bytes c.args.name)) (omega arith) (omega (arith, c.find-found.ensures.alike W K)) (room-then (room-then c.in_ok-make_room_with.ensures.spares c.without_lines-next.ensures.spares) c.turn_to.ensures.spares)
