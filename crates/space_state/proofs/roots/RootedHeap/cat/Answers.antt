use Rattle.std.proofs.Common.{◌+◌, ◌≡◌, List, [], Some, refl, arith}
use Rattle.space_state.specs.declared.room.TheConstants.{EDIT_NODES}
use Rattle.elem_core.specs.Shown.{name_bytes}
use Rattle.shell_terms.specs.Edit.{Bytes, cat}
use Rattle.plain_space.specs.Workspace.{Workspace, lines_of}
use Rattle.plain_space.specs.declared.refusal.Refusal.TheVariants.{Absent, Limit}
use Rattle.state_rows.specs.InHeap.{AreLinesIn}
use Rattle.space_state.specs.Roots.{Keeps}
use Rattle.space_state.proofs.Keeping.{keeps-same, lines-length, lines-short}
use Rattle.space_state.proofs.Steps.{none-there, some-there}
use Rattle.space_state.proofs.Editing.{found-lines, cat-absent, cat-missing, cat-full, cat-made, refuses, no-room, due-absent, HasBufferRoom, HasLines, has-lines, has-found, has-room, joined, joins, can-put, edit-done, edit-refused, fails, passes}
use Rattle.space_state.proofs.Placing.{no-key}
use Rattle.plain_space.specs.Cost.{alike_buffers}
use Rattle.state_rows.proofs.Room.{room-spared, room-then}
use Rattle.space_state.proofs.Hoarding.{room-more}
use Rattle.space_state.proofs.roots.RootedHeap.cat.Goals as goal
use Rattle.space_state.proofs.roots.RootedHeap.cat.Goals.{In-Some, In_ok-make_room_with}

pub returns-in_default-clause-ends : goal.returns-in_default-clause-ends
returns-in_default-clause-ends c = λ W K.
    let name = name_bytes c.args.name in
    let other = name_bytes c.args.other in
    let none = none-there (AreLinesIn c.args.self.now.heap c.args.self.now.bits) (c.find-found.ensures.lines W K) c.in_default.is in
    edit-refused refl (refuses W (cat name other) Absent (cat-absent W.current name other none))

-- the first buffer's lines
found : (c : In-Some) (W : Workspace) → Keeps c.args.self.now [] W → (xs : List Bytes) × (lines_of W.current (name_bytes c.args.name) ≡ Some xs) × AreLinesIn c.args.self.now.heap c.args.self.now.bits c.in-Some.lines xs
found c W K = some-there (AreLinesIn c.args.self.now.heap c.args.self.now.bits) (c.find-found.ensures.lines W K) c.in-Some.is

pub returns-in_err-more-clause-ends : goal.returns-in_err-more-clause-ends
returns-in_err-more-clause-ends c = λ W K.
    let name = name_bytes c.args.name in
    let other = name_bytes c.args.other in
    let found = found (goal.at.returns-in_err-more-clause-ends c).In-Some W K in
    let none = c.in_err-more.ensures W K in
    fails c.in_err-more.field-0.0 c.from_residual.result c.from_residual.ensures.1
    (edit-refused refl (due-absent W (cat name other) none.1 (cat-missing W.current name other found.0 found.1 none.0)))

pub returns-then-len-clause-ends : goal.returns-then-len-clause-ends
returns-then-len-clause-ends c = λ W K.
    let name = name_bytes c.args.name in
    let other = name_bytes c.args.other in
    let found = found (goal.at.returns-then-len-clause-ends c).In-Some W K in
    let also = found-lines c.args.self.now c.in_ok-more.more W.current other (c.in_ok-more.ensures W K) in
    edit-refused refl (refuses W (cat name other) Limit (cat-full W.current name other found.0 also.0 found.1 also.1 (omega (arith, c.if-len.true, c.len.ensures.value, c.len-2.ensures.value, lines-length found.2, lines-length also.2))))

pub returns-in_err-make_room_with-clause-ends : goal.returns-in_err-make_room_with-clause-ends
returns-in_err-make_room_with-clause-ends c = λ W K.
    let name = name_bytes c.args.name in
    let other = name_bytes c.args.other in
    let found = found (goal.at.returns-in_err-make_room_with-clause-ends c).In-Some W K in
    let also = found-lines c.args.self.now c.in_ok-more.more W.current other (c.in_ok-more.ensures W K) in
    let done = cat-made W.current name other found.0 also.0 found.1 also.1 (omega (arith, c.if-len.false, c.len.ensures.value, c.len-2.ensures.value, lines-length found.2, lines-length also.2, lines-short also.2)) in
    fails c.in_err-make_room_with.field-0.0 c.from_residual-in_err-make_room_with.result c.from_residual-in_err-make_room_with.ensures.1
    (no-room W (cat name other) _ done (c.in_err-make_room_with.ensures.room W K))

pub returns-in_err-make_room_with-clause-ample : goal.returns-in_err-make_room_with-clause-ample
returns-in_err-make_room_with-clause-ample c = λ W K spares.
    passes c.in_err-make_room_with.field-0.0 c.from_residual-in_err-make_room_with.result c.from_residual-in_err-make_room_with.ensures.1 (c.in_err-make_room_with.ensures.ample (spares.0, omega (arith, spares.1, c.find-found.ensures.alike W K)))

-- the lines of both buffers, once room was made
roomy : (c : In_ok-make_room_with) (W : Workspace) → Keeps c.args.self.now [] W → HasBufferRoom c.args.self.now c.make_room_with.new.self (name_bytes c.args.name) W
roomy c W K = has-room W (name_bytes c.args.name) (c.find-found.ensures.alike W K) (c.in_ok-make_room_with.ensures.room W K)

there : (c : In_ok-make_room_with) (W : Workspace) → Keeps c.args.self.now [] W
    → HasLines c.args.self.now c.make_room_with.new.self c.in-Some.lines (name_bytes c.args.name) W × HasLines c.args.self.now c.make_room_with.new.self c.in_ok-more.more (name_bytes c.args.other) W
there c W K = (has-found (roomy c W K).same (found (goal.at.In_ok-make_room_with c).In-Some W K), has-lines (roomy c W K).same (c.in_ok-more.ensures W K))

pub concat-requires-clause-left_good : goal.concat-requires-clause-left_good
concat-requires-clause-left_good c = (there (goal.at.concat-requires-clause-left_good c).In_ok-make_room_with c.requires.0 c.requires.1).0.now.vector

pub concat-requires-clause-right_good : goal.concat-requires-clause-right_good
concat-requires-clause-right_good c = (there (goal.at.concat-requires-clause-right_good c).In_ok-make_room_with c.requires.0 c.requires.1).1.now.vector

pub unreachable-requires : goal.unreachable-requires
unreachable-requires c =
    let both = there (goal.at.unreachable-requires c).In_ok-make_room_with c.requires.0 c.requires.1 in
    let lines = both.0 in
    let more = both.1 in
    joins c.in_default-concat.field-0 (λ long. absurd (omega (arith, c.if-len.false, c.len.ensures.value, c.len-2.ensures.value, lines-length lines.before, lines-length more.before, lines-length lines.now, lines-length more.now, lines-short more.before, c.in_default-concat.ensures.long.0 long)))
    (c.in_default-concat.ensures.ample (omega arith, omega (arith, (c.in_ok-make_room_with.ensures.room c.requires.0 c.requires.1).spares.1)))

pub write_lines-requires : goal.write_lines-requires
write_lines-requires c =
    let W = c.requires.0 in
    let K = c.requires.1 in
    let path = (goal.at.write_lines-requires c).In_ok-make_room_with in
    let both = there path W K in
    let room = roomy path W K in
    let m = joined (keeps-same room.same K) both.0.now c.in-Ok.ensures.answered c.in-Ok.ensures.good c.in_ok-more.more both.1.xs both.1.now c.in-Ok.ensures.items in
    can-put (name_bytes c.args.name) room m (no-key (name_bytes c.args.name) both.0.found) (omega arith) (omega (arith, both.0.now.vector.shape.low, both.1.now.vector.shape.low))

pub returns-clause-ends : goal.returns-clause-ends
returns-clause-ends c = λ W K.
    let name = name_bytes c.args.name in
    let other = name_bytes c.args.other in
    let path = (goal.at.returns-clause-ends c).In_ok-make_room_with in
    let both = there path W K in
    let lines = both.0 in
    let more = both.1 in
    let room = roomy path W K in
    let m = joined (keeps-same room.same K) lines.now c.in-Ok.ensures.answered c.in-Ok.ensures.good c.in_ok-more.more more.xs more.now c.in-Ok.ensures.items in
    let done = cat-made W.current name other lines.xs more.xs lines.found more.found (omega (arith, c.if-len.false, c.len.ensures.value, c.len-2.ensures.value, lines-length lines.before, lines-length more.before, lines-short more.before)) in
    edit-done (cat name other) name room m done (c.write_lines.ensures.turns W _ m.keeps m.lines (no-key name lines.found)) (omega (arith, lines.now.vector.shape.low, more.now.vector.shape.low)) (λ placed. placed)

pub returns-clause-spares : goal.returns-clause-spares
returns-clause-spares c = λ W K.
    let made = room-then c.in_ok-make_room_with.ensures.spares (room-spared (omega arith, omega (arith, (c.in_ok-make_room_with.ensures.room W K).spares.1)) c.in-Ok.ensures.spares) in
    room-more 2 (EDIT_NODES + alike_buffers c.args.self.now.bits W.current (name_bytes c.args.name)) (omega arith) (omega (arith, c.find-found.ensures.alike W K)) (room-then made c.write_lines.ensures.spares)
