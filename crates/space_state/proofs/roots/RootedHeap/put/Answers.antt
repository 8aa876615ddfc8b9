use Rattle.std.proofs.Common.{◌+◌, ◌≡◌, List, [], Some, refl, arith}
use Rattle.space_state.specs.declared.room.TheConstants.{EDIT_NODES}
use Rattle.elem_core.specs.Shown.{name_bytes, line_bytes}
use Rattle.shell_terms.specs.Edit.{Bytes, put}
use Rattle.plain_space.specs.Workspace.{Workspace, lines_of}
use Rattle.plain_space.specs.declared.refusal.Refusal.TheVariants.{Absent, Range, Limit}
use Rattle.state_rows.specs.InHeap.{AreLinesIn}
use Rattle.space_state.specs.Roots.{Keeps}
use Rattle.space_state.proofs.Keeping.{lines-length, lines-short}
use Rattle.space_state.proofs.Steps.{none-there, some-there}
use Rattle.space_state.proofs.Editing.{put-absent, put-past, put-full, put-made, inserts, refuses, no-room, HasText, has-found, has-room, has-text, inserted, can-put, edit-done, edit-refused, fails}
use Rattle.space_state.proofs.Placing.{no-key}
use Rattle.plain_space.specs.Cost.{alike_buffers}
use Rattle.state_rows.proofs.Room.{room-spared, room-made, room-then}
use Rattle.space_state.proofs.Hoarding.{room-more}
use Rattle.space_state.proofs.roots.RootedHeap.put.Goals as goal
use Rattle.space_state.proofs.roots.RootedHeap.put.Goals.{In-Some, After-cell-line}

pub returns-in_default-clause-ends : goal.returns-in_default-clause-ends
returns-in_default-clause-ends c = λ W K.
    let name = name_bytes c.args.name in
    let text = line_bytes c.args.line in
    let none = none-there (AreLinesIn c.args.self.now.heap c.args.self.now.bits) (c.find-found.ensures.lines W K) c.in_default.is in
    edit-refused refl (refuses W (put name c.args.index text) Absent (put-absent W.current name text c.args.index none))

-- the buffer's lines
found : (c : In-Some) (W : Workspace) → Keeps c.args.self.now [] W → (xs : List Bytes) × (lines_of W.current (name_bytes c.args.name) ≡ Some xs) × AreLinesIn c.args.self.now.heap c.args.self.now.bits c.in-Some.lines xs
found c W K = some-there (AreLinesIn c.args.self.now.heap c.args.self.now.bits) (c.find-found.ensures.lines W K) c.in-Some.is

pub returns-then-index-count-clause-ends : goal.returns-then-index-count-clause-ends
returns-then-index-count-clause-ends c = λ W K.
    let name = name_bytes c.args.name in
    let text = line_bytes c.args.line in
    let found = found (goal.at.returns-then-index-count-clause-ends c).In-Some W K in
    edit-refused refl (refuses W (put name c.args.index text) Range (put-past W.current name text c.args.index found.0 found.1 (omega (arith, c.if-index-count.true, c.len-count.ensures.value, lines-length found.2))))

pub returns-then-count-clause-ends : goal.returns-then-count-clause-ends
returns-then-count-clause-ends c = λ W K.
    let name = name_bytes c.args.name in
    let text = line_bytes c.args.line in
    let found = found (goal.at.returns-then-count-clause-ends c).In-Some W K in
    edit-refused refl (refuses W (put name c.args.index text) Limit (put-full W.current name text c.args.index found.0 found.1 (omega (arith, c.if-index-count.false, c.len-count.ensures.value, lines-length found.2)) (omega (arith, c.if-count.true, c.len-count.ensures.value, lines-length found.2))))

pub returns-in_err-text-clause-ends : goal.returns-in_err-text-clause-ends
returns-in_err-text-clause-ends c = λ W K.
    let name = name_bytes c.args.name in
    let text = line_bytes c.args.line in
    let found = found (goal.at.returns-in_err-text-clause-ends c).In-Some W K in
    let done = put-made W.current name text c.args.index found.0 found.1 (omega (arith, c.if-index-count.false, c.len-count.ensures.value, lines-length found.2)) (grind (arith, c.if-count.false, c.len-count.ensures.value, lines-length found.2, lines-short found.2)) in
    fails c.in_err-text.field-0.0 c.from_residual.result c.from_residual.ensures.1 (no-room W (put name c.args.index text) _ done (c.in_err-text.ensures.room W K))

-- what is known once the text's cell is there
there : (c : After-cell-line) (W : Workspace) → Keeps c.args.self.now [] W
    → HasText c.args.self.now c.prepare_line.new.self c.cell-line.new.self c.cell-line.result c.in-Some.lines (name_bytes c.args.name) (line_bytes c.args.line) W
there c W K =
    let e = c.cell-line.ensures in
    let room = has-room W (name_bytes c.args.name) (c.find-found.ensures.alike W K) (c.in_ok-text.ensures.room W K) in
    has-text K room (has-found room.same (found (goal.at.After-cell-line c).In-Some W K)) c.args.line.cell c.in_ok-text.ensures.text e.adds e.makes e.count e.graph e.extends

pub insert-requires-clause-good : goal.insert-requires-clause-good
insert-requires-clause-good c = (there (goal.at.insert-requires-clause-good c).After-cell-line c.requires.0 c.requires.1).lines.now.vector

pub insert-requires-clause-held : goal.insert-requires-clause-held
insert-requires-clause-held c = (there (goal.at.insert-requires-clause-held c).After-cell-line c.requires.0 c.requires.1).held

pub unreachable-requires : goal.unreachable-requires
unreachable-requires c =
    let has = there (goal.at.unreachable-requires c).After-cell-line c.requires.0 c.requires.1 in
    inserts c.in_default-insert.field-0 (λ range. absurd (omega (arith, c.if-index-count.false, c.len-count.ensures.value, lines-length has.lines.before, lines-length has.lines.now, c.in_default-insert.ensures.range.0 range)))
    (λ long. c.if-count.false (omega (arith, c.len-count.ensures.value, lines-length has.lines.before, lines-length has.lines.now, (c.in_default-insert.ensures.long.0 long).1)))
    (c.in_default-insert.ensures.ample (omega arith, omega (arith, has.nodes)))

pub write_lines-requires : goal.write_lines-requires
write_lines-requires c =
    let has = there (goal.at.write_lines-requires c).After-cell-line c.requires.0 c.requires.1 in
    can-put (name_bytes c.args.name) has.room (inserted has c.in-Ok.ensures.answered c.in-Ok.ensures.good c.args.index c.in-Ok.ensures.items) (no-key (name_bytes c.args.name) has.lines.found) (omega arith) (omega (arith, has.lines.now.vector.shape.low))

pub returns-clause-ends : goal.returns-clause-ends
returns-clause-ends c = λ W K.
    let name = name_bytes c.args.name in
    let text = line_bytes c.args.line in
    let has = there (goal.at.returns-clause-ends c).After-cell-line W K in
    let m = inserted has c.in-Ok.ensures.answered c.in-Ok.ensures.good c.args.index c.in-Ok.ensures.items in
    let done = put-made W.current name text c.args.index has.lines.xs has.lines.found (omega (arith, c.if-index-count.false, c.len-count.ensures.value, lines-length has.lines.before)) (grind (arith, c.if-count.false, c.len-count.ensures.value, lines-length has.lines.before, lines-short has.lines.before)) in
    edit-done (put name c.args.index text) name has.room m done (c.write_lines.ensures.turns W _ m.keeps m.lines (no-key name has.lines.found)) (omega (arith, has.lines.now.vector.shape.low)) (λ placed. placed)

pub returns-clause-spares : goal.returns-clause-spares
returns-clause-spares c = λ W K.
    let has = there (goal.at.returns-clause-spares c).After-cell-line W K in
    let text = room-then c.in_ok-text.ensures.spares (room-made c.cell-line.ensures.makes) in
    let longer = room-then text (room-spared (omega arith, omega (arith, has.nodes)) c.in-Ok.ensures.spares) in
    room-more 2 (EDIT_NODES + alike_buffers c.args.self.now.bits W.current (name_bytes c.args.name)) (omega arith) (omega (arith, c.find-found.ensures.alike W K)) (room-then longer c.write_lines.ensures.spares)
