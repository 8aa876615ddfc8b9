use Rattle.std.proofs.Common.{◌+◌, ◌≡◌, ◌<◌, ◌≤◌, List, [], length, Some, refl, arith}
use Rattle.space_state.specs.declared.undo_end.TheConstants.{TURN_NODES}
use Rattle.space_state.specs.declared.line_edits.TheConstants.{IN_PLACE_NODES}
use Rattle.elem_core.specs.Shown.{name_bytes, line_bytes}
use Rattle.rrb_core.specs.Vector.{elements}
use Rattle.shell_terms.specs.Edit.{Bytes, set}
use Rattle.plain_space.specs.Workspace.{Workspace, lines_of}
use Rattle.plain_space.specs.declared.refusal.Refusal.TheVariants.{Absent, Range}
use Rattle.state_rows.specs.InHeap.{AreLinesIn}
use Rattle.space_state.specs.Roots.{Keeps}
use Rattle.space_state.proofs.Keeping.{lines-length, holds-few, current-holds, current-stands}
use Rattle.space_state.proofs.Steps.{none-there, some-there, not-yes}
use Rattle.space_state.proofs.Editing.{refuses, no-room, set-absent, set-past, set-made, edit-refused, fails}
use Rattle.space_state.proofs.Placing.{IsBeside, cell-beside, cell-text, alike-beside, placed}
use Rattle.plain_space.specs.Cost.{alike_buffers}
use Rattle.state_rows.proofs.Room.{room-made, room-then}
use Rattle.space_state.proofs.Hoarding.{room-more}
use Rattle.space_state.proofs.roots.RootedHeap.set.Goals as goal
use Rattle.space_state.proofs.roots.RootedHeap.set.Goals.{In-Some, Else-is_past, After-cell-line}

pub returns-in_default-clause-ends : goal.returns-in_default-clause-ends
returns-in_default-clause-ends c = λ W K.
    let name = name_bytes c.args.name in
    let text = line_bytes c.args.line in
    edit-refused refl (refuses W (set name c.args.index text) Absent (set-absent W.current name text c.args.index (none-there (AreLinesIn c.args.self.now.heap c.args.self.now.bits) (c.find-found.ensures.lines W K) c.in_default.is)))

-- the buffer's lines
found : (c : In-Some) (W : Workspace) → Keeps c.args.self.now [] W → (xs : List Bytes) × (lines_of W.current (name_bytes c.args.name) ≡ Some xs) × AreLinesIn c.args.self.now.heap c.args.self.now.bits c.in-Some.lines xs
found c W K = some-there (AreLinesIn c.args.self.now.heap c.args.self.now.bits) (c.find-found.ensures.lines W K) c.in-Some.is

pub returns-then-is_past-clause-ends : goal.returns-then-is_past-clause-ends
returns-then-is_past-clause-ends c = λ W K.
    let name = name_bytes c.args.name in
    let text = line_bytes c.args.line in
    let found = found (goal.at.returns-then-is_past-clause-ends c).In-Some W K in
    edit-refused refl (refuses W (set name c.args.index text) Range (set-past W.current name text c.args.index found.0 found.1 (omega (arith, c.is_past.ensures.0 c.if-is_past.true, lines-length found.2))))

-- it reaches past the index
fits : (c : Else-is_past) {xs : List Bytes} → AreLinesIn c.args.self.now.heap c.args.self.now.bits c.in-Some.lines xs → c.args.index < length xs
fits c lines =
    let apart : length (elements c.args.self.now.heap c.in-Some.lines) ≤ c.args.index → ⊥ = λ past. not-yes (c.is_past.ensures.1 past) c.if-is_past.false in
    omega (arith, apart, lines-length lines)

pub returns-in_err-text-clause-ends : goal.returns-in_err-text-clause-ends
returns-in_err-text-clause-ends c = λ W K.
    let name = name_bytes c.args.name in
    let text = line_bytes c.args.line in
    let found = found (goal.at.returns-in_err-text-clause-ends c).In-Some W K in
    let done = set-made W.current name text c.args.index found.0 found.1 (fits (goal.at.returns-in_err-text-clause-ends c).Else-is_past found.2) in
    fails c.in_err-text.field-0.0 c.from_residual.result c.from_residual.ensures.1 (no-room W (set name c.args.index text) _ done (c.in_err-text.ensures.ready W K))

-- the line's cell is held besides
there : (c : After-cell-line) (W : Workspace) → Keeps c.args.self.now [] W → IsBeside c.args.self.now c.ready.new.self c.cell-line.new.self c.cell-line.result W
there c W K =
    let e = c.cell-line.ensures in
    cell-beside (c.in_ok-text.ensures.ready W K) e.adds e.makes e.count e.graph e.extends

pub line_set-state-requires : goal.line_set-state-requires
line_set-state-requires c =
    let W = c.requires.0 in
    let K = c.requires.1 in
    let path = goal.at.line_set-state-requires c in
    let found = found path.In-Some W K in
    let beside = there path.After-cell-line W K in
    let spares = (c.in_ok-text.ensures.ready W K).spares in
    record {
      few = omega (arith, holds-few beside.keeps);
      bits = beside.keeps.bits;
      held = current-holds beside.keeps;
      line = (line_bytes c.args.line, cell-text c.ready.new.self.bits c.cell-line.ensures.adds c.in_ok-text.ensures.text c.args.line.cell);
      state = (W.current, found.0, current-stands beside.keeps, found.1, fits path.Else-is_past found.2, (omega arith, omega (arith, spares.1, c.cell-line.ensures.makes.spare_nodes, c.find-found.ensures.alike W K, alike-beside beside W.current (name_bytes c.args.name))));
    }

pub returns-clause-ends : goal.returns-clause-ends
returns-clause-ends c = λ W K.
    let name = name_bytes c.args.name in
    let text = line_bytes c.args.line in
    let found = found (goal.at.returns-clause-ends c).In-Some W K in
    let beside = there (goal.at.returns-clause-ends c).After-cell-line W K in
    let now = current-stands beside.keeps in
    let did = c.line_set-state.ensures in
    let is = cell-text c.ready.new.self.bits c.cell-line.ensures.adds c.in_ok-text.ensures.text c.args.line.cell in
    let done = set-made W.current name text c.args.index found.0 found.1 (fits (goal.at.returns-clause-ends c).Else-is_past found.2) in
    placed (set name c.args.index text) beside done did.keeps (did.trades W.current found.0 now found.1) (did.state W.current found.0 text now found.1 is) (omega (arith, alike-beside beside W.current name)) (λ inside. omega (arith, beside.few inside, did.made))

pub returns-clause-spares : goal.returns-clause-spares
returns-clause-spares c = λ W K.
    let line = room-then c.in_ok-text.ensures.spares (room-made c.cell-line.ensures.makes) in
    room-more 1 (IN_PLACE_NODES + TURN_NODES + alike_buffers c.args.self.now.bits W.current (name_bytes c.args.name)) (omega arith) (omega (arith, c.find-found.ensures.alike W K)) (room-then line c.line_set-state.ensures.spares)
