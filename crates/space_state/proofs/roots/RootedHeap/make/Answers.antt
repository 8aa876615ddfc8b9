use Rattle.std.proofs.Common.{◌+◌, ◌≡◌, [], None, refl, sym, ◌∙◌, arith}
use Rattle.space_state.specs.declared.undo_end.TheConstants.{TURN_NODES}
use Rattle.space_state.specs.declared.line_edits.TheConstants.{IN_PLACE_NODES}
use Rattle.elem_core.specs.Shown.{name_bytes}
use Rattle.node_heap.proofs.GraphLemmas.{IsGraph-kinds}
use Rattle.shell_terms.specs.Edit.{new}
use Rattle.plain_space.specs.Workspace.{Workspace, lines_of}
use Rattle.plain_space.specs.declared.refusal.Refusal.TheVariants.{Exists}
use Rattle.state_rows.specs.InHeap.{AreLinesIn}
use Rattle.state_rows.proofs.Answering.{live-more}
use Rattle.space_state.specs.Roots.{Keeps}
use Rattle.space_state.proofs.Keeping.{holds-few, current-holds, current-stands}
use Rattle.space_state.proofs.Steps.{none-of, as-told}
use Rattle.space_state.proofs.Editing.{refuses, no-room, new-taken, new-made, emptied, edit-refused, fails}
use Rattle.space_state.proofs.Placing.{IsBeside, is-beside, alike-beside, placed}
use Rattle.plain_space.specs.Cost.{alike_buffers}
use Rattle.state_rows.proofs.Room.{room-spared, room-then}
use Rattle.space_state.proofs.Hoarding.{room-more}
use Rattle.space_state.proofs.roots.RootedHeap.make.Goals as goal
use Rattle.space_state.proofs.roots.RootedHeap.make.Goals.{Else-is_some, In_ok-key, In-Ok}

pub returns-then-is_some-clause-ends : goal.returns-then-is_some-clause-ends
returns-then-is_some-clause-ends c = λ W K.
    let taken = as-told (AreLinesIn c.args.self.now.heap c.args.self.now.bits) _ _ (c.find-found.ensures.lines W K) (sym c.is_some.ensures ∙ c.if-is_some.true) in
    edit-refused refl (refuses W (new (name_bytes c.args.name)) Exists (new-taken W.current (name_bytes c.args.name) taken))

-- there is no such buffer yet
none : (c : Else-is_some) (W : Workspace) → Keeps c.args.self.now [] W → lines_of W.current (name_bytes c.args.name) ≡ None
none c W K = none-of _ (as-told (AreLinesIn c.args.self.now.heap c.args.self.now.bits) _ _ (c.find-found.ensures.lines W K) (sym c.is_some.ensures ∙ c.if-is_some.false))

pub returns-in_err-key-clause-ends : goal.returns-in_err-key-clause-ends
returns-in_err-key-clause-ends c = λ W K.
    let name = name_bytes c.args.name in
    fails c.in_err-key.field-0.0 c.from_residual.result c.from_residual.ensures.1
    (no-room W (new name) _ (new-made W.current name (none (goal.at.returns-in_err-key-clause-ends c).Else-is_some W K)) (c.in_err-key.ensures.ready W K))

-- the key is the name
named : (c : In_ok-key) → c.in_ok-key.key ≡ name_bytes c.args.name
named c = c.in_ok-key.ensures.text ∙ c.as_line.ensures

-- the empty lines are held besides
there : (c : In-Ok) (W : Workspace) → Keeps c.args.self.now [] W → IsBeside c.args.self.now c.ready.new.self c.empty.new.heap c.in-Ok.lines W
there c W K =
    let a = c.in-Ok.ensures.answered in
    let before = c.ready.new.self.heap in
    let after = c.empty.new.heap in
    is-beside (c.in_ok-key.ensures.ready W K) a refl (omega (arith, c.in-Ok.ensures.made, IsGraph-kinds before, IsGraph-kinds after, a.cells, a.nodes)) (live-more before after a.extends)

pub buffer_made-state-requires-clause-few : goal.buffer_made-state-requires-clause-few
buffer_made-state-requires-clause-few c = omega (arith, holds-few (there (goal.at.buffer_made-state-requires-clause-few c).In-Ok c.requires.0 c.requires.1).keeps)

pub buffer_made-state-requires-clause-bits : goal.buffer_made-state-requires-clause-bits
buffer_made-state-requires-clause-bits c = (there (goal.at.buffer_made-state-requires-clause-bits c).In-Ok c.requires.0 c.requires.1).keeps.bits

pub buffer_made-state-requires-clause-held : goal.buffer_made-state-requires-clause-held
buffer_made-state-requires-clause-held c = current-holds (there (goal.at.buffer_made-state-requires-clause-held c).In-Ok c.requires.0 c.requires.1).keeps

pub buffer_made-state-requires-clause-lines : goal.buffer_made-state-requires-clause-lines
buffer_made-state-requires-clause-lines c =
    let ready = c.in_ok-key.ensures.ready c.requires.0 c.requires.1 in
    ([], (emptied ready.turns.keeps c.in-Ok.ensures.answered c.in-Ok.ensures.good c.in-Ok.ensures.items).lines)

pub buffer_made-state-requires-clause-state : goal.buffer_made-state-requires-clause-state
buffer_made-state-requires-clause-state c =
    let W = c.requires.0 in
    let K = c.requires.1 in
    let name = name_bytes c.args.name in
    let beside = there (goal.at.buffer_made-state-requires-clause-state c).In-Ok W K in
    let spares = (c.in_ok-key.ensures.ready W K).spares in
    let a = c.in-Ok.ensures.answered in
    rw (named (goal.at.buffer_made-state-requires-clause-state c).In_ok-key) (
      W.current,
      current-stands beside.keeps,
      none (goal.at.buffer_made-state-requires-clause-state c).Else-is_some W K,
      (omega (arith, spares.0, a.cells, a.balance.spare_cells), omega (arith, spares.1, a.nodes, a.balance.spare_nodes, c.find-found.ensures.alike W K, alike-beside beside W.current name)),
    )

pub returns-clause-ends : goal.returns-clause-ends
returns-clause-ends c = λ W K.
    let name = name_bytes c.args.name in
    let ready = c.in_ok-key.ensures.ready W K in
    let beside = there (goal.at.returns-clause-ends c).In-Ok W K in
    let now = current-stands beside.keeps in
    let did = rw (named (goal.at.returns-clause-ends c).In_ok-key) at c.buffer_made-state.ensures in
    let lines = (emptied ready.turns.keeps c.in-Ok.ensures.answered c.in-Ok.ensures.good c.in-Ok.ensures.items).lines in
    placed (new name) beside (new-made W.current name (none (goal.at.returns-clause-ends c).Else-is_some W K)) did.keeps (did.trades W.current now) (did.state W.current [] now lines) (omega (arith, alike-beside beside W.current name))
    (λ inside. omega (arith, beside.few inside, c.buffer_made-state.ensures.made))

pub returns-clause-spares : goal.returns-clause-spares
returns-clause-spares c = λ W K.
    let spares = (c.in_ok-key.ensures.ready W K).spares in
    let lines = room-then c.in_ok-key.ensures.spares (room-spared (omega arith, omega (arith, spares.1)) c.in-Ok.ensures.spares) in
    room-more 1 (IN_PLACE_NODES + TURN_NODES + alike_buffers c.args.self.now.bits W.current (name_bytes c.args.name)) (omega arith) (omega (arith, c.find-found.ensures.alike W K)) (room-then lines c.buffer_made-state.ensures.spares)
