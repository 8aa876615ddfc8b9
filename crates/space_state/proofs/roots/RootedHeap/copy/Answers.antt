use Rattle.std.proofs.Common.{◌+◌, ◌≡◌, [], ◌∙◌, refl, arith}
use Rattle.space_state.specs.declared.room.TheConstants.{EDIT_NODES}
use Rattle.elem_core.specs.Shown.{name_bytes}
use Rattle.node_heap.proofs.BuildLemmas.{Answered-Builds}
use Rattle.shell_terms.specs.Edit.{copy}
use Rattle.plain_space.specs.Workspace.{Workspace, lines_of}
use Rattle.state_rows.specs.InHeap.{AreLinesIn}
use Rattle.space_state.specs.Roots.{Keeps}
use Rattle.space_state.specs.BatchEdits.{new_key}
use Rattle.space_state.proofs.Keeping.{keeps-same}
use Rattle.space_state.proofs.Editing.{found-lines, copy-absent, copy-made, no-room, due-absent, HasBufferRoom, HasLines, has-lines, has-room, made-again, can-put, edit-done, edit-refused, fails}
use Rattle.space_state.proofs.Placing.{key-told}
use Rattle.plain_space.specs.Cost.{alike_buffers}
use Rattle.state_rows.proofs.Room.{room-made, room-then}
use Rattle.space_state.proofs.Hoarding.{room-more}
use Rattle.space_state.proofs.roots.RootedHeap.copy.Goals as goal
use Rattle.space_state.proofs.roots.RootedHeap.copy.Goals.{In_ok-key}

pub returns-in_err-lines-clause-ends : goal.returns-in_err-lines-clause-ends
returns-in_err-lines-clause-ends c = λ W K.
    let name = name_bytes c.args.name in
    let other = name_bytes c.args.other in
    let found = c.in_err-lines.ensures W K in
    fails c.in_err-lines.field-0.0 c.from_residual.result c.from_residual.ensures.1 (edit-refused refl (due-absent W (copy name other) found.1 (copy-absent W.current name other found.0)))

pub returns-in_err-key-clause-ends : goal.returns-in_err-key-clause-ends
returns-in_err-key-clause-ends c = λ W K.
    let name = name_bytes c.args.name in
    let other = name_bytes c.args.other in
    let found = found-lines c.args.self.now c.in_ok-lines.lines W.current name (c.in_ok-lines.ensures W K) in
    let done = copy-made W.current name other found.0 found.1 in
    fails c.in_err-key.field-0.0 c.from_residual-in_err-key.result c.from_residual-in_err-key.ensures.1
    (no-room W (copy name other) _ done (c.in_err-key.ensures.room W K))

-- the buffer's lines, once room was made
roomy : (c : In_ok-key) (W : Workspace) → Keeps c.args.self.now [] W → HasBufferRoom c.args.self.now c.prepare_key.new.self (name_bytes c.args.other) W
roomy c W K = has-room W (name_bytes c.args.other) (c.find-target.ensures.alike W K) (c.in_ok-key.ensures.room W K)

there : (c : In_ok-key) (W : Workspace) → Keeps c.args.self.now [] W → HasLines c.args.self.now c.prepare_key.new.self c.in_ok-lines.lines (name_bytes c.args.name) W
there c W K = has-lines (c.in_ok-key.ensures.room W K).same (c.in_ok-lines.ensures W K)

-- the key that the other buffer wants
key : (c : In_ok-key) (W : Workspace) → Keeps c.args.self.now [] W → c.in_ok-key.key ≡ new_key (lines_of W.current (name_bytes c.args.other)) (name_bytes c.args.other)
key c W K = c.in_ok-key.ensures.key ∙ key-told (AreLinesIn c.args.self.now.heap c.args.self.now.bits) _ _ (name_bytes c.args.other) (c.find-target.ensures.lines W K)

pub share-lines-requires-clause-good : goal.share-lines-requires-clause-good
share-lines-requires-clause-good c = (there (goal.at.share-lines-requires-clause-good c).In_ok-key c.requires.0 c.requires.1).now.vector

pub write_lines-requires : goal.write_lines-requires
write_lines-requires c =
    let W = c.requires.0 in
    let K = c.requires.1 in
    let path = (goal.at.write_lines-requires c).In_ok-key in
    let lines = there path W K in
    let room = roomy path W K in
    let m = made-again (keeps-same room.same K) (Answered-Builds c.share-lines.ensures.shares.builds) c.share-lines.ensures.same lines.now in
    can-put (name_bytes c.args.other) room m (key path W K) (omega arith) (omega arith)

pub returns-clause-ends : goal.returns-clause-ends
returns-clause-ends c = λ W K.
    let name = name_bytes c.args.name in
    let other = name_bytes c.args.other in
    let path = (goal.at.returns-clause-ends c).In_ok-key in
    let lines = there path W K in
    let room = roomy path W K in
    let m = made-again (keeps-same room.same K) (Answered-Builds c.share-lines.ensures.shares.builds) c.share-lines.ensures.same lines.now in
    let done = copy-made W.current name other lines.xs lines.found in
    edit-done (copy name other) other room m done (c.write_lines.ensures.turns W _ m.keeps m.lines (key path W K)) (omega arith) (λ placed. placed)

pub returns-clause-spares : goal.returns-clause-spares
returns-clause-spares c = λ W K.
    room-more 2 (EDIT_NODES + alike_buffers c.args.self.now.bits W.current (name_bytes c.args.other)) (omega arith) (omega (arith, c.find-target.ensures.alike W K)) (room-then (room-then c.in_ok-key.ensures.spares (room-made c.share-lines.ensures.shares.builds.makes)) c.write_lines.ensures.spares)
