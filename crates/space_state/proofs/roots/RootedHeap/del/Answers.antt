use Rattle.std.proofs.Common.{◌+◌, ◌≡◌, List, [], Some, refl, arith}
use Rattle.space_state.specs.declared.room.TheConstants.{EDIT_NODES}
use Rattle.elem_core.specs.Shown.{name_bytes}
use Rattle.shell_terms.specs.Edit.{Bytes, del}
use Rattle.plain_space.specs.Workspace.{Workspace, lines_of}
use Rattle.plain_space.specs.declared.refusal.Refusal.TheVariants.{Absent, Range}
use Rattle.state_rows.specs.InHeap.{AreLinesIn}
use Rattle.space_state.specs.Roots.{Keeps}
use Rattle.space_state.proofs.Keeping.{keeps-same, lines-length}
use Rattle.space_state.proofs.Steps.{none-there, some-there, not-yes}
use Rattle.space_state.proofs.Editing.{del-absent, del-past, del-made, refuses, no-room, HasBufferRoom, HasLines, has-found, has-room, erased, slices, can-put, edit-done, edit-refused, fails, passes}
use Rattle.space_state.proofs.Placing.{no-key}
use Rattle.plain_space.specs.Cost.{alike_buffers}
use Rattle.state_rows.proofs.Room.{room-spared, room-then}
use Rattle.space_state.proofs.Hoarding.{room-more}
use Rattle.space_state.proofs.roots.RootedHeap.del.Goals as goal
use Rattle.space_state.proofs.roots.RootedHeap.del.Goals.{In-Some, In_ok-make_room_with}

pub returns-in_default-clause-ends : goal.returns-in_default-clause-ends
returns-in_default-clause-ends c = λ W K.
    let name = name_bytes c.args.name in
    let none = none-there (AreLinesIn c.args.self.now.heap c.args.self.now.bits) (c.find-found.ensures.lines W K) c.in_default.is in
    edit-refused refl (refuses W (del name c.args.from c.args.to) Absent (del-absent W.current name c.args.from c.args.to none))

-- the buffer's lines
found : (c : In-Some) (W : Workspace) → Keeps c.args.self.now [] W → (xs : List Bytes) × (lines_of W.current (name_bytes c.args.name) ≡ Some xs) × AreLinesIn c.args.self.now.heap c.args.self.now.bits c.in-Some.lines xs
found c W K = some-there (AreLinesIn c.args.self.now.heap c.args.self.now.bits) (c.find-found.ensures.lines W K) c.in-Some.is

pub returns-then-not-has_part-clause-ends : goal.returns-then-not-has_part-clause-ends
returns-then-not-has_part-clause-ends c = λ W K.
    let name = name_bytes c.args.name in
    let found = found (goal.at.returns-then-not-has_part-clause-ends c).In-Some W K in
    edit-refused refl (refuses W (del name c.args.from c.args.to) Range (del-past W.current name c.args.from c.args.to found.0 found.1 (λ part. not-yes ((c.has_part.ensures c.args.self.now.bits found.0 found.2).1 part) c.if-not-has_part.true)))

pub returns-in_err-make_room_with-clause-ends : goal.returns-in_err-make_room_with-clause-ends
returns-in_err-make_room_with-clause-ends c = λ W K.
    let name = name_bytes c.args.name in
    let found = found (goal.at.returns-in_err-make_room_with-clause-ends c).In-Some W K in
    let done = del-made W.current name c.args.from c.args.to found.0 found.1 ((c.has_part.ensures c.args.self.now.bits found.0 found.2).0 c.if-not-has_part.false) in
    fails c.in_err-make_room_with.field-0.0 c.from_residual.result c.from_residual.ensures.1 (no-room W (del name c.args.from c.args.to) _ done (c.in_err-make_room_with.ensures.room W K))

pub returns-in_err-make_room_with-clause-ample : goal.returns-in_err-make_room_with-clause-ample
returns-in_err-make_room_with-clause-ample c = λ W K spares.
    passes c.in_err-make_room_with.field-0.0 c.from_residual.result c.from_residual.ensures.1 (c.in_err-make_room_with.ensures.ample (spares.0, omega (arith, spares.1, c.find-found.ensures.alike W K)))

-- the buffer's lines, once room was made
roomy : (c : In_ok-make_room_with) (W : Workspace) → Keeps c.args.self.now [] W → HasBufferRoom c.args.self.now c.make_room_with.new.self (name_bytes c.args.name) W
roomy c W K = has-room W (name_bytes c.args.name) (c.find-found.ensures.alike W K) (c.in_ok-make_room_with.ensures.room W K)

there : (c : In_ok-make_room_with) (W : Workspace) → Keeps c.args.self.now [] W → HasLines c.args.self.now c.make_room_with.new.self c.in-Some.lines (name_bytes c.args.name) W
there c W K = has-found (roomy c W K).same (found (goal.at.In_ok-make_room_with c).In-Some W K)

pub erase-requires-clause-good : goal.erase-requires-clause-good
erase-requires-clause-good c = (there (goal.at.erase-requires-clause-good c).In_ok-make_room_with c.requires.0 c.requires.1).now.vector

pub unreachable-requires : goal.unreachable-requires
unreachable-requires c =
    let lines = there (goal.at.unreachable-requires c).In_ok-make_room_with c.requires.0 c.requires.1 in
    let part = (c.has_part.ensures c.args.self.now.bits lines.xs lines.before).0 c.if-not-has_part.false in
    slices c.in_default-erase.field-0
    (λ range. c.in_default-erase.ensures.range.0 range (part.0, omega (arith, part.1, lines-length lines.now)))
    (c.in_default-erase.ensures.ample (omega arith, omega (arith, (c.in_ok-make_room_with.ensures.room c.requires.0 c.requires.1).spares.1)))

pub write_lines-requires : goal.write_lines-requires
write_lines-requires c =
    let W = c.requires.0 in
    let K = c.requires.1 in
    let path = (goal.at.write_lines-requires c).In_ok-make_room_with in
    let lines = there path W K in
    let room = roomy path W K in
    let m = erased (keeps-same room.same K) lines.now c.in-Ok.ensures.answered c.in-Ok.ensures.good c.args.from c.args.to c.in-Ok.ensures.items in
    can-put (name_bytes c.args.name) room m (no-key (name_bytes c.args.name) lines.found) (omega arith) (omega (arith, lines.now.vector.shape.low))

pub returns-clause-ends : goal.returns-clause-ends
returns-clause-ends c = λ W K.
    let name = name_bytes c.args.name in
    let path = (goal.at.returns-clause-ends c).In_ok-make_room_with in
    let lines = there path W K in
    let room = roomy path W K in
    let m = erased (keeps-same room.same K) lines.now c.in-Ok.ensures.answered c.in-Ok.ensures.good c.args.from c.args.to c.in-Ok.ensures.items in
    let done = del-made W.current name c.args.from c.args.to lines.xs lines.found ((c.has_part.ensures c.args.self.now.bits lines.xs lines.before).0 c.if-not-has_part.false) in
    edit-done (del name c.args.from c.args.to) name room m done (c.write_lines.ensures.turns W _ m.keeps m.lines (no-key name lines.found)) (omega (arith, lines.now.vector.shape.low)) (λ placed. placed)

pub returns-clause-spares : goal.returns-clause-spares
returns-clause-spares c = λ W K.
    let made = room-then c.in_ok-make_room_with.ensures.spares (room-spared (omega arith, omega (arith, (c.in_ok-make_room_with.ensures.room W K).spares.1)) c.in-Ok.ensures.spares) in
    room-more 2 (EDIT_NODES + alike_buffers c.args.self.now.bits W.current (name_bytes c.args.name)) (omega arith) (omega (arith, c.find-found.ensures.alike W K)) (room-then made c.write_lines.ensures.spares)
