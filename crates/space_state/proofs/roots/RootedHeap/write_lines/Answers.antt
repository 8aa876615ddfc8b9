use Rattle.std.proofs.Common.{ℕ, ◌+◌, [], ◌∷◌, subst, arith}
use Rattle.elem_core.specs.Shown.{name_bytes}
use Rattle.plain_space.specs.Workspace.{Workspace, with_lines}
use Rattle.plain_space.specs.Cost.{alike_buffers}
use Rattle.space_state.specs.declared.room.TheConstants.{WRITTEN_NODES}
use Rattle.space_state.specs.declared.undo_end.TheConstants.{TURN_NODES}
use Rattle.space_state.specs.BatchEdits.{current_kept}
use Rattle.space_state.specs.Turns.{TurnsTo}
use Rattle.space_state.proofs.Keeping.{first-counts, lines-beside, turns-then}
use Rattle.space_state.proofs.Placing.{then-current, alike-turned}
use Rattle.state_rows.proofs.Room.{room-then}
use Rattle.space_state.proofs.roots.RootedHeap.write_lines.Goals as goal

pub keep_current-requires-clause-spares : goal.keep_current-requires-clause-spares
keep_current-requires-clause-spares c = (omega arith, omega (arith, c.requires.5.1))

pub keep_current-requires-clause-kept : goal.keep_current-requires-clause-kept
keep_current-requires-clause-kept c = (c.args.lines ∷ [], c.requires.0, c.requires.2, omega arith)

pub place_lines-requires : goal.place_lines-requires
place_lines-requires c =
    let W = c.requires.0 in
    let spares = c.requires.5 in
    let name = name_bytes c.args.name in
    let kept = c.keep_current.ensures.turns (c.args.lines ∷ []) W c.requires.2 in (
      [],
      current_kept W,
      c.requires.1,
      kept.turns.keeps,
      omega arith,
      lines-beside kept (first-counts c.args.lines []) c.requires.3,
      c.requires.4,
      (omega (arith, spares.0, kept.spare_cells), omega (arith, spares.1, kept.spare_nodes, alike-turned kept.turns W.current name)),
    )

pub returns-clause-turns : goal.returns-clause-turns
returns-clause-turns c = λ W xs K are key.
    let name = name_bytes c.args.name in
    let kept = c.keep_current.ensures.turns (c.args.lines ∷ []) W K in
    let alike : ℕ = alike_buffers c.keep_current.new.self.bits W.current name in
    let placed : TurnsTo c.keep_current.new.self c.place_lines.new.self [] (1 + (WRITTEN_NODES + alike)) (record (current_kept W) { current = with_lines W.current name xs }) =
    (c.place_lines.ensures.turns [] (current_kept W) xs kept.turns.keeps (lines-beside kept (first-counts c.args.lines []) are) key).turns in
    turns-then (WRITTEN_NODES + 1 + TURN_NODES + alike_buffers c.args.self.now.bits W.current name) kept.turns
    (subst (λ (V : Workspace). TurnsTo c.keep_current.new.self c.place_lines.new.self [] (1 + (WRITTEN_NODES + alike)) V) (then-current W (with_lines W.current name xs)) placed) (omega (arith, alike-turned kept.turns W.current name))

pub returns-clause-spares : goal.returns-clause-spares
returns-clause-spares c = room-then c.keep_current.ensures.spares c.place_lines.ensures.spares
