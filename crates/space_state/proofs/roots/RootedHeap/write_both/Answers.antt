use Rattle.std.proofs.Common.{◌≡◌, ℕ, ◌+◌, ◌-◌, ◌*◌, List, [], ◌∷◌, None, sym, subst, ◌∙◌, arith}
use Rattle.elem_core.specs.Shown.{name_bytes}
use Rattle.shell_terms.specs.Edit.{Bytes}
use Rattle.plain_space.specs.Workspace.{State, Workspace, lines_of, with_lines}
use Rattle.plain_space.specs.Cost.{alike_buffers}
use Rattle.state_rows.specs.InHeap.{AreLinesIn}
use Rattle.space_state.specs.declared.room.TheConstants.{WRITTEN_NODES}
use Rattle.space_state.specs.Roots.{Keeps}
use Rattle.space_state.specs.declared.undo_end.TheConstants.{TURN_NODES}
use Rattle.space_state.specs.BatchEdits.{current_kept, new_key}
use Rattle.space_state.specs.Turns.{TurnsTo, TurnsBeside}
use Rattle.space_state.proofs.Keeping.{first-counts, second-counts, lines-beside, turns-then}
use Rattle.space_state.proofs.Editing.{alike-with}
use Rattle.space_state.proofs.Placing.{then-current, alike-turned, key-later}
use Rattle.state_rows.proofs.Room.{room-then}
use Rattle.space_state.proofs.roots.RootedHeap.write_both.Goals as goal
use Rattle.space_state.proofs.roots.RootedHeap.write_both.Goals.{After-keep_current, After-place_lines}

pub keep_current-requires-clause-spares : goal.keep_current-requires-clause-spares
keep_current-requires-clause-spares c = (omega arith, omega (arith, c.requires.8.1))

pub keep_current-requires-clause-kept : goal.keep_current-requires-clause-kept
keep_current-requires-clause-kept c = (c.args.rest ∷ c.args.part ∷ [], c.requires.0, c.requires.3, omega arith)

-- the current state is kept
kept : (c : After-keep_current) (W : Workspace) → Keeps c.args.self.now (c.args.rest ∷ c.args.part ∷ []) W → TurnsBeside c.args.self.now c.keep_current.new.self (c.args.rest ∷ c.args.part ∷ []) 0 TURN_NODES (current_kept W)
kept c W K = c.keep_current.ensures.turns (c.args.rest ∷ c.args.part ∷ []) W K

abbrev first_state : After-place_lines → Workspace → List Bytes → State
first_state c W xs = with_lines W.current (name_bytes c.args.name) xs

-- the first buffer has its lines
first : (c : After-place_lines) (W : Workspace) (xs : List Bytes) → Keeps c.args.self.now (c.args.rest ∷ c.args.part ∷ []) W → AreLinesIn c.args.self.now.heap c.args.self.now.bits c.args.rest xs
    → None ≡ new_key (lines_of W.current (name_bytes c.args.name)) (name_bytes c.args.name)
    → TurnsBeside c.keep_current.new.self c.place_lines.new.self (c.args.part ∷ []) 1 (WRITTEN_NODES + alike_buffers c.keep_current.new.self.bits W.current (name_bytes c.args.name)) (record (current_kept W) { current = first_state c W xs })
first c W xs K are none =
    let kept = kept (goal.at.After-place_lines c).After-keep_current W K in
    c.place_lines.ensures.turns (c.args.part ∷ []) (current_kept W) xs kept.turns.keeps (lines-beside kept (first-counts c.args.rest (c.args.part ∷ [])) are) none

-- the second's lines are there still
part-lines : (c : After-place_lines) (W : Workspace) (xs ys : List Bytes) → Keeps c.args.self.now (c.args.rest ∷ c.args.part ∷ []) W → AreLinesIn c.args.self.now.heap c.args.self.now.bits c.args.rest xs → AreLinesIn c.args.self.now.heap c.args.self.now.bits c.args.part ys
    → None ≡ new_key (lines_of W.current (name_bytes c.args.name)) (name_bytes c.args.name) → AreLinesIn c.place_lines.new.self.heap c.place_lines.new.self.bits c.args.part ys
part-lines c W xs ys K are also none =
    lines-beside (first c W xs K are none) (first-counts c.args.part [])
    (lines-beside (kept (goal.at.After-place_lines c).After-keep_current W K) (second-counts c.args.rest c.args.part []) also)

-- and its key is the right one still
other-key : (c : After-place_lines) (W : Workspace) (xs : List Bytes) → None ≡ new_key (lines_of W.current (name_bytes c.args.name)) (name_bytes c.args.name) → c.args.key ≡ new_key (lines_of W.current (name_bytes c.args.other)) (name_bytes c.args.other)
    → c.args.key ≡ new_key (lines_of (first_state c W xs) (name_bytes c.args.other)) (name_bytes c.args.other)
other-key c W xs none key = key ∙ sym (key-later W.current (name_bytes c.args.name) (name_bytes c.args.other) xs none)

pub place_lines-requires : goal.place_lines-requires
place_lines-requires c =
    let W = c.requires.0 in
    let spares = c.requires.8 in
    let kept = kept (goal.at.place_lines-requires c).After-keep_current W c.requires.3 in (
      c.args.part ∷ [],
      current_kept W,
      c.requires.1,
      kept.turns.keeps,
      omega arith,
      lines-beside kept (first-counts c.args.rest (c.args.part ∷ [])) c.requires.4,
      c.requires.6,
      (omega (arith, spares.0, kept.spare_cells), omega (arith, spares.1, kept.spare_nodes, alike-turned kept.turns W.current (name_bytes c.args.name))),
    )

pub place_lines-requires-2 : goal.place_lines-requires-2
place_lines-requires-2 c =
    let path = goal.at.place_lines-requires-2 c in
    let W = c.requires.0 in
    let xs = c.requires.1 in
    let K = c.requires.3 in
    let name = name_bytes c.args.name in
    let other = name_bytes c.args.other in
    let spares = c.requires.8 in
    let kept = kept path.After-keep_current W K in
    let first = first path.After-place_lines W xs K c.requires.4 c.requires.6 in (
      [],
      record (current_kept W) { current = first_state path.After-place_lines W xs },
      c.requires.2,
      first.turns.keeps,
      omega arith,
      part-lines path.After-place_lines W xs c.requires.2 K c.requires.4 c.requires.5 c.requires.6,
      other-key path.After-place_lines W xs c.requires.6 c.requires.7,
      (
        omega (arith, spares.0, kept.spare_cells, first.spare_cells),
        omega (
          arith,
          spares.1,
          kept.spare_nodes,
          first.spare_nodes,
          alike-turned kept.turns W.current name,
          alike-turned kept.turns (first_state path.After-place_lines W xs) other,
          alike-turned first.turns (first_state path.After-place_lines W xs) other,
          alike-with c.args.self.now.bits W.current name xs other,
        ),
      ),
    )

pub returns-clause-turns : goal.returns-clause-turns
returns-clause-turns c = λ W xs ys K are also none key.
    let path = (goal.at.returns-clause-turns c).After-place_lines in
    let name = name_bytes c.args.name in
    let other = name_bytes c.args.other in
    let kept = kept (goal.at.returns-clause-turns c).After-keep_current W K in
    let first = first path W xs K are none in
    let state = with_lines (first_state path W xs) other ys in
    let alike : ℕ = alike_buffers c.place_lines.new.self.bits (first_state path W xs) other in
    let placed : TurnsTo c.place_lines.new.self c.place_lines-2.new.self [] (1 + (WRITTEN_NODES + alike)) (record (current_kept W) { current = state }) =
    (c.place_lines-2.ensures.turns [] (record (current_kept W) { current = first_state path W xs }) ys first.turns.keeps (part-lines path W xs ys K are also none) (other-key path W xs none key)).turns in
    let all = 2 * WRITTEN_NODES + 3 + TURN_NODES + (alike_buffers c.args.self.now.bits W.current name + alike_buffers c.args.self.now.bits W.current other) in
    turns-then all kept.turns
    (turns-then (all - TURN_NODES) first.turns (subst (λ (V : Workspace). TurnsTo c.place_lines.new.self c.place_lines-2.new.self [] (1 + (WRITTEN_NODES + alike)) V) (then-current W state) placed) (omega (
      arith,
      alike-turned kept.turns W.current name,
      alike-turned kept.turns (first_state path W xs) other,
      alike-turned first.turns (first_state path W xs) other,
      alike-with c.args.self.now.bits W.current name xs other,
    ))) (omega arith)

pub returns-clause-spares : goal.returns-clause-spares
returns-clause-spares c = room-then (room-then c.keep_current.ensures.spares c.place_lines.ensures.spares) c.place_lines-2.ensures.spares
