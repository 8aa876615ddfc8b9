use Rattle.std.proofs.Common.{◌≡◌, ℕ, ◌+◌, List, [], take, drop, Some, refl, subst, ◌∙◌, arith}
use Rattle.std.specs.List.{remove_range as without_part}
use Rattle.elem_core.specs.Shown.{name_bytes}
use Rattle.shell_terms.specs.Edit.{Bytes, cut}
use Rattle.plain_space.specs.Workspace.{Workspace, lines_of}
use Rattle.plain_space.specs.Cost.{alike_buffers}
use Rattle.plain_space.specs.declared.refusal.Refusal.TheVariants.{Absent, Range}
use Rattle.state_rows.specs.InHeap.{AreLinesIn}
use Rattle.space_state.specs.declared.room.TheConstants.{EDIT_NODES}
use Rattle.space_state.specs.Roots.{Keeps}
use Rattle.space_state.specs.BatchEdits.{new_key}
use Rattle.space_state.specs.Turns.{RoomIsMade}
use Rattle.space_state.proofs.Keeping.{keeps-same, lines-length}
use Rattle.space_state.proofs.Steps.{none-there, some-there, not-yes}
use Rattle.space_state.proofs.Editing.{lines-stay, cut-absent, cut-past, cut-made, refuses, no-room, HasLines, has-found, has-parts, slices, both-spares-left, cut-done, edit-refused, fails}
use Rattle.space_state.proofs.Placing.{no-key, key-told}
use Rattle.state_rows.proofs.Room.{room-spared, room-then}
use Rattle.space_state.proofs.Hoarding.{room-more}
use Rattle.space_state.proofs.roots.RootedHeap.cut.Goals as goal
use Rattle.space_state.proofs.roots.RootedHeap.cut.Goals.{In-Some, In_ok-key}

pub returns-in_default-clause-ends : goal.returns-in_default-clause-ends
returns-in_default-clause-ends c = λ W K.
    let name = name_bytes c.args.name in
    let other = name_bytes c.args.other in
    let none = none-there (AreLinesIn c.args.self.now.heap c.args.self.now.bits) (c.find-found.ensures.lines W K) c.in_default.is in
    edit-refused refl (refuses W (cut name c.args.from c.args.to other) Absent (cut-absent W.current name c.args.from c.args.to other none))

-- the first buffer's lines
found : (c : In-Some) (W : Workspace) → Keeps c.args.self.now [] W → (xs : List Bytes) × (lines_of W.current (name_bytes c.args.name) ≡ Some xs) × AreLinesIn c.args.self.now.heap c.args.self.now.bits c.in-Some.lines xs
found c W K = some-there (AreLinesIn c.args.self.now.heap c.args.self.now.bits) (c.find-found.ensures.lines W K) c.in-Some.is

pub returns-then-not-has_part-clause-ends : goal.returns-then-not-has_part-clause-ends
returns-then-not-has_part-clause-ends c = λ W K.
    let name = name_bytes c.args.name in
    let other = name_bytes c.args.other in
    let found = found (goal.at.returns-then-not-has_part-clause-ends c).In-Some W K in
    edit-refused refl (refuses W (cut name c.args.from c.args.to other) Range (cut-past W.current name c.args.from c.args.to other found.0 found.1 (λ part. not-yes ((c.has_part.ensures c.args.self.now.bits found.0 found.2).1 part) c.if-not-has_part.true)))

pub returns-in_err-key-clause-ends : goal.returns-in_err-key-clause-ends
returns-in_err-key-clause-ends c = λ W K.
    let name = name_bytes c.args.name in
    let other = name_bytes c.args.other in
    let found = found (goal.at.returns-in_err-key-clause-ends c).In-Some W K in
    let done = cut-made W.current name c.args.from c.args.to other found.0 found.1 ((c.has_part.ensures c.args.self.now.bits found.0 found.2).0 c.if-not-has_part.false) in
    fails c.in_err-key.field-0.0 c.from_residual.result c.from_residual.ensures.1
    (no-room W (cut name c.args.from c.args.to other) _ done (c.in_err-key.ensures.room W K))

-- room was made for both buffers
room : (c : In_ok-key) (W : Workspace) → Keeps c.args.self.now [] W
    → RoomIsMade c.args.self.now c.prepare_key.new.self (EDIT_NODES + (alike_buffers c.args.self.now.bits W.current (name_bytes c.args.name) + alike_buffers c.args.self.now.bits W.current (name_bytes c.args.other)))
room c W K =
    subst (λ (n : ℕ). RoomIsMade c.args.self.now c.prepare_key.new.self (EDIT_NODES + n)) (omega (arith, c.find-found.ensures.alike W K, c.find-target.ensures.alike W K)) (c.in_ok-key.ensures.room W K)

-- the first buffer's lines then
there : (c : In_ok-key) (W : Workspace) → Keeps c.args.self.now [] W → HasLines c.args.self.now c.prepare_key.new.self c.in-Some.lines (name_bytes c.args.name) W
there c W K = has-found (c.in_ok-key.ensures.room W K).same (found (goal.at.In_ok-key c).In-Some W K)

-- the key that the other buffer wants
key : (c : In_ok-key) (W : Workspace) → Keeps c.args.self.now [] W → c.in_ok-key.key ≡ new_key (lines_of W.current (name_bytes c.args.other)) (name_bytes c.args.other)
key c W K = c.in_ok-key.ensures.key ∙ key-told (AreLinesIn c.args.self.now.heap c.args.self.now.bits) _ _ (name_bytes c.args.other) (c.find-target.ensures.lines W K)

pub erase-requires-clause-good : goal.erase-requires-clause-good
erase-requires-clause-good c = (there (goal.at.erase-requires-clause-good c).In_ok-key c.requires.0 c.requires.1).now.vector

pub unreachable-requires : goal.unreachable-requires
unreachable-requires c =
    let lines = there (goal.at.unreachable-requires c).In_ok-key c.requires.0 c.requires.1 in
    let room = c.in_ok-key.ensures.room c.requires.0 c.requires.1 in
    let part = (c.has_part.ensures c.args.self.now.bits lines.xs lines.before).0 c.if-not-has_part.false in
    slices c.in_default-erase.field-0
    (λ range. c.in_default-erase.ensures.range.0 range (part.0, omega (arith, part.1, lines-length lines.now)))
    (c.in_default-erase.ensures.ample (omega arith, omega (arith, room.spares.1)))

pub slice-requires-clause-good : goal.slice-requires-clause-good
slice-requires-clause-good c =
    let lines = there (goal.at.slice-requires-clause-good c).In_ok-key c.requires.0 c.requires.1 in
    (lines-stay c.in-Ok.ensures.answered.extends lines.now).vector

pub unreachable-requires-in_default-slice : goal.unreachable-requires-in_default-slice
unreachable-requires-in_default-slice c =
    let lines = there (goal.at.unreachable-requires-in_default-slice c).In_ok-key c.requires.0 c.requires.1 in
    let room = c.in_ok-key.ensures.room c.requires.0 c.requires.1 in
    let later = lines-stay c.in-Ok.ensures.answered.extends lines.now in
    let a = c.in-Ok.ensures.answered in
    let part = (c.has_part.ensures c.args.self.now.bits lines.xs lines.before).0 c.if-not-has_part.false in
    slices c.in_default-slice.field-0
    (λ range. c.in_default-slice.ensures.range.0 range (part.0, omega (arith, part.1, lines-length later)))
    (c.in_default-slice.ensures.ample (omega arith, omega (arith, room.spares.1, a.nodes, a.balance.spare_nodes, lines.now.vector.shape.low)))

pub write_both-requires : goal.write_both-requires
write_both-requires c =
    let W = c.requires.0 in
    let K = c.requires.1 in
    let path = (goal.at.write_both-requires c).In_ok-key in
    let name = name_bytes c.args.name in
    let lines = there path W K in
    let room = room path W K in
    let p = has-parts c.args.from c.args.to (keeps-same room.same K) lines.now c.in-Ok.ensures.answered c.in-Ok.ensures.good c.in-Ok.ensures.items c.in-Ok-slice.ensures.answered c.in-Ok-slice.ensures.good c.in-Ok-slice.ensures.items in
    let later = lines-stay c.in-Ok.ensures.answered.extends lines.now in (
      W,
      without_part lines.xs c.args.from c.args.to,
      drop c.args.from (take c.args.to lines.xs),
      p.keeps,
      p.left,
      p.part,
      no-key name lines.found,
      key path W K,
      both-spares-left name (name_bytes c.args.other) room.same p room.spares (omega (arith, lines.now.vector.shape.low, later.vector.shape.low)),
    )

pub returns-clause-ends : goal.returns-clause-ends
returns-clause-ends c = λ W K.
    let name = name_bytes c.args.name in
    let other = name_bytes c.args.other in
    let path = (goal.at.returns-clause-ends c).In_ok-key in
    let lines = there path W K in
    let room = room path W K in
    let p = has-parts c.args.from c.args.to (keeps-same room.same K) lines.now c.in-Ok.ensures.answered c.in-Ok.ensures.good c.in-Ok.ensures.items c.in-Ok-slice.ensures.answered c.in-Ok-slice.ensures.good c.in-Ok-slice.ensures.items in
    let later = lines-stay c.in-Ok.ensures.answered.extends lines.now in
    let done = cut-made W.current name c.args.from c.args.to other lines.xs lines.found ((c.has_part.ensures c.args.self.now.bits lines.xs lines.before).0 c.if-not-has_part.false) in
    cut-done c.args.from c.args.to room.same p done
    (c.write_both.ensures.turns W (without_part lines.xs c.args.from c.args.to) (drop c.args.from (take c.args.to lines.xs)) p.keeps p.left p.part (no-key name lines.found) (key path W K)) (omega (arith, lines.now.vector.shape.low, later.vector.shape.low))

pub returns-clause-spares : goal.returns-clause-spares
returns-clause-spares c = λ W K.
    let path = (goal.at.returns-clause-spares c).In_ok-key in
    let lines = there path W K in
    let a = c.in-Ok.ensures.answered in
    let room = room path W K in
    let rest = room-then c.in_ok-key.ensures.spares (room-spared (omega arith, omega (arith, room.spares.1)) c.in-Ok.ensures.spares) in
    let part = room-then rest (room-spared (omega arith, omega (arith, room.spares.1, a.nodes, a.balance.spare_nodes, lines.now.vector.shape.low)) c.in-Ok-slice.ensures.spares) in
    room-more 2 (EDIT_NODES + (alike_buffers c.args.self.now.bits W.current (name_bytes c.args.name) + alike_buffers c.args.self.now.bits W.current (name_bytes c.args.other))) (omega arith) (omega (arith, c.find-found.ensures.alike W K, c.find-target.ensures.alike W K)) (room-then part c.write_both.ensures.spares)
