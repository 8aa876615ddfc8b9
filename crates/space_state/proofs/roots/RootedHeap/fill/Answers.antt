use Rattle.std.proofs.Common.{◌≡◌, ◌+◌, ◌/◌, [], length, Ok, refl, sym, ap, ◌∙◌, arith}
use Rattle.space_state.specs.declared.room.TheConstants.{EDIT_NODES}
use Rattle.elem_core.specs.Shown.{name_bytes}
use Rattle.shell_terms.specs.Edit.{fill}
use Rattle.plain_space.specs.Workspace.{Workspace, lines_of, with_lines}
use Rattle.plain_space.specs.Edited.{edited}
use Rattle.state_rows.specs.InHeap.{AreLinesIn}
use Rattle.space_state.specs.Roots.{Keeps}
use Rattle.space_state.specs.BatchEdits.{new_key}
use Rattle.space_state.proofs.Keeping.{holds-few, heap-is, same-heap, keeps-same}
use Rattle.space_state.proofs.Editing.{fill-made, may-lack, IsMade, made-by, lines-put}
use Rattle.space_state.proofs.Placing.{key-told}
use Rattle.space_state.proofs.Steps.{memory-refused}
use Rattle.plain_space.specs.Cost.{alike_buffers}
use Rattle.state_rows.proofs.Room.{room-then}
use Rattle.space_state.proofs.Hoarding.{room-more, room-reserved}
use Rattle.space_state.proofs.roots.RootedHeap.fill.Goals as goal
use Rattle.space_state.proofs.roots.RootedHeap.fill.Goals.{In_ok-key, After-filled-lines}

pub returns-in_err-links-clause-ends : goal.returns-in_err-links-clause-ends
returns-in_err-links-clause-ends c = λ W K.
    let name = name_bytes c.args.name in
    memory-refused c.from_residual.result c.from_residual.ensures.1 (may-lack W (fill name c.args.lines) _ (fill-made W.current name c.args.lines)) refl

pub returns-in_err-key-clause-ends : goal.returns-in_err-key-clause-ends
returns-in_err-key-clause-ends c = λ W K.
    let name = name_bytes c.args.name in
    memory-refused c.from_residual-in_err-key.result c.from_residual-in_err-key.ensures.1 (may-lack W (fill name c.args.lines) _ (fill-made W.current name c.args.lines)) refl

pub returns-in_err-reserve-clause-ends : goal.returns-in_err-reserve-clause-ends
returns-in_err-reserve-clause-ends c = λ W K.
    let name = name_bytes c.args.name in
    memory-refused c.from_residual-in_err-reserve.result c.from_residual-in_err-reserve.ensures.1 (may-lack W (fill name c.args.lines) _ (fill-made W.current name c.args.lines)) (heap-is c.in_err-reserve.ensures.refused)

-- the lines are made, in the room that was made for them
made : (c : After-filled-lines) (W : Workspace) → Keeps c.args.self.now [] W
    → IsMade (record c.args.self.now { heap = c.reserve.new.self }) c.filled-lines.new.heap [] c.filled-lines.result c.into_vec-texts.result.items W (length c.into_vec-texts.result.items) (length c.into_vec-texts.result.items / 16 + 8)
made c W K = made-by (keeps-same (same-heap c.reserve.ensures.rest) K) c.filled-lines.ensures.answered (c.filled-lines.ensures.lines c.args.self.now.bits)

pub filled-lines-requires : goal.filled-lines-requires
filled-lines-requires c =
    let rest = c.reserve.ensures.rest in
    let spares = c.in_ok-reserve.ensures.spares in
    record {
      graph = rest.graph;
      few = omega (arith, rest.count, holds-few c.requires.kept.1);
      short = omega (arith, c.requires.few, ap length c.into_vec-texts.ensures);
      empty = c.in_ok-links.ensures.empty;
      room = omega (arith, c.in_ok-links.ensures.room, c.len-count.ensures);
      spares = (omega (arith, spares.0, c.len-count.ensures), omega (arith, spares.1, c.vector_nodes.ensures, c.len-count.ensures));
    }

-- the key that the buffer wants
key : (c : In_ok-key) (W : Workspace) → Keeps c.args.self.now [] W → c.in_ok-key.key ≡ new_key (lines_of W.current (name_bytes c.args.name)) (name_bytes c.args.name)
key c W K = c.in_ok-key.ensures ∙ key-told (AreLinesIn c.args.self.now.heap c.args.self.now.bits) _ _ (name_bytes c.args.name) (c.find-found.ensures.lines W K)

pub write_lines-requires : goal.write_lines-requires
write_lines-requires c =
    let W = c.requires.kept.0 in
    let K = c.requires.kept.1 in
    let made = made (goal.at.write_lines-requires c).After-filled-lines W K in
    let spares = c.in_ok-reserve.ensures.spares in (
      W,
      c.into_vec-texts.result.items,
      made.keeps,
      made.lines,
      key (goal.at.write_lines-requires c).In_ok-key W K,
      (omega (arith, spares.0, c.len-count.ensures, made.cells), omega (arith, spares.1, c.vector_nodes.ensures, c.len-count.ensures, made.nodes, c.find-found.ensures.alike W K)),
    )

pub returns-clause-ends : goal.returns-clause-ends
returns-clause-ends c = λ W K.
    let name = name_bytes c.args.name in
    let xs = c.into_vec-texts.result.items in
    let made = made (goal.at.returns-clause-ends c).After-filled-lines W K in
    let done : edited W.current (fill name c.args.lines) ≡ Ok (with_lines W.current name xs) = fill-made W.current name c.args.lines ∙ ap (λ ys. Ok (with_lines W.current name ys)) (sym c.into_vec-texts.ensures) in
    lines-put (fill name c.args.lines) name (same-heap c.reserve.ensures.rest) made done (c.write_lines.ensures.turns W xs made.keeps made.lines (key (goal.at.returns-clause-ends c).In_ok-key W K))
    (omega (arith, ap length c.into_vec-texts.ensures)) (λ placed. placed)

pub returns-clause-spares : goal.returns-clause-spares
returns-clause-spares c = λ W K.
    let n = length c.args.lines in
    let roomy =
    room-more (n + 1) (EDIT_NODES + (n / 16 + 8) + alike_buffers c.args.self.now.bits W.current (name_bytes c.args.name)) (omega (arith, c.len-count.ensures, ap length c.into_vec-texts.ensures))
    (omega (arith, c.vector_nodes.ensures, c.len-count.ensures, ap length c.into_vec-texts.ensures, c.find-found.ensures.alike W K)) (room-reserved c.in_ok-reserve.ensures.greater c.reserve.ensures.rest) in
    room-then (room-then roomy c.filled-lines.ensures.spares) c.write_lines.ensures.spares
