use Rattle.std.proofs.Common.{◌+◌, ◌<◌, List, [], ◌∷◌, length, refl, arith}
use Rattle.std.specs.Prelude.{slice_set}
use Rattle.state_rows.specs.declared.edited_states.TheConstants.{LINE_SET_NODES}
use Rattle.elem_core.specs.Shown.{name_bytes}
use Rattle.node_heap.specs.Links.{here}
use Rattle.node_heap.specs.Heap.{holds_at}
use Rattle.node_heap.specs.InPlace.{child_at}
use Rattle.node_heap.specs.declared.owner.Owner.TheVariants.{Child as by_place}
use Rattle.node_heap.proofs.Counts.{test_same}
use Rattle.node_heap.proofs.BuildLemmas.{count-one}
use Rattle.node_heap.proofs.EditLaws.{leaf-one}
use Rattle.node_heap.proofs.Frames.{KeepsHeld-Releases}
use Rattle.node_heap.proofs.Edited.{Trades-more}
use Rattle.edit_vec.proofs.LawLemmas.{sets-keep}
use Rattle.edit_vec.specs.Laws.{KeepsBesideAndElements}
use Rattle.shell_terms.specs.Edit.{Bytes}
use Rattle.plain_space.specs.Workspace.{State, with_lines}
use Rattle.plain_space.specs.Cost.{alike_buffers}
use Rattle.state_rows.specs.InHeap.{IsTextIn}
use Rattle.state_rows.specs.EditedStates.{OwnsLines, StaysBeside}
use Rattle.state_rows.proofs.Answering.{one-held}
use Rattle.state_rows.proofs.Staying.{states-stay}
use Rattle.state_rows.proofs.LinesPlaced.{text-stays, state-first, lines-many, set-keeps, set-trades, set-lines, given-text, cell-links}
use Rattle.state_rows.proofs.Room.{room-freed, room-then}
use Rattle.state_rows.proofs.edited_states.line_set.Goals as goal
use Rattle.state_rows.proofs.edited_states.line_set.Goals.{After-own_lines-row, After-set_there-before}

-- what is one's own, and what stays beside it
own : (c : After-own_lines-row) → OwnsLines c.args.heap.now c.own_lines-row.new.heap c.args.bits c.args.state c.own_lines-row.result.0 c.requires.state.0 (name_bytes c.args.name) c.requires.state.1 c.own_lines-row.result.1
own c = let r = c.requires.state in c.own_lines-row.ensures r.0 r.1 r.2 r.3

beside : (c : After-own_lines-row) → StaysBeside c.args.heap.now c.own_lines-row.new.heap c.args.bits c.args.state c.own_lines-row.result.0 c.requires.state.0 (name_bytes c.args.name) c.own_lines-row.result.1 c.args.line
beside c = (own c).besides c.args.line c.requires.held

pub own_lines-row-requires-clause-held : goal.own_lines-row-requires-clause-held
own_lines-row-requires-clause-held c = state-first c.args.state c.args.line (c.requires.held c.args.state)

pub own_lines-row-requires-clause-state : goal.own_lines-row-requires-clause-state
own_lines-row-requires-clause-state c = let r = c.requires.state in (r.0, r.1, r.2, r.3, (omega arith, omega (arith, r.5.1)))

pub set_there-before-requires : goal.set_there-before-requires
set_there-before-requires c =
    let path = (goal.at.set_there-before-requires c).After-own_lines-row in
    let own = own path in
    let beside = beside path in
    record {
      sole = own.sole;
      child = own.two;
      good = own.lines.vector;
      held = beside.held;
      apart = beside.apart;
      few = omega (arith, c.requires.few, own.trades.total);
      inside = omega (arith, lines-many own.lines, c.requires.state.4);
      spare = (omega arith, omega (arith, c.requires.state.5.1, own.trades.nodes, own.trades.balance.spare_nodes));
    }

-- what stays beside the pair's lines, and below each
module _ (c : After-set_there-before) {s : State} {xs : List Bytes} (own' : OwnsLines c.args.heap.now c.own_lines-row.new.heap c.args.bits c.args.state c.own_lines-row.result.0 s (name_bytes c.args.name) xs c.own_lines-row.result.1) where
  inside : c.args.index < length xs
  inside = omega (arith, lines-many own'.lines, lines-many (own (goal.at.After-set_there-before c).After-own_lines-row).lines, c.requires.state.4)

  kept : KeepsBesideAndElements (by_place c.own_lines-row.result.1 1) c.own_lines-row.new.heap c.set_there-before.new.heap (child_at c.set_there-before.new.heap c.own_lines-row.result.1 1)
  kept = sets-keep _ (by_place c.own_lines-row.result.1 1) c.own_lines-row.new.heap c.set_there-before.new.heap _ c.args.index own'.trades.graph own'.two own'.lines.vector (omega (arith, lines-many own'.lines, inside)) c.set_there-before.ensures.sets.others

  row-held : 0 < holds_at c.own_lines-row.new.heap c.own_lines-row.result.0
  row-held = omega (arith, (own'.besides c.args.line c.requires.held).row_held)

  line-there : {text : Bytes} → IsTextIn c.args.heap.now c.args.bits c.args.line text → IsTextIn c.own_lines-row.new.heap c.args.bits c.args.line text
  line-there is = text-stays c.args.heap.now c.own_lines-row.new.heap ((own'.besides c.args.line c.requires.held).below c.args.line (here c.args.line)) is

  given : (x : Bytes) × IsTextIn c.set_there-before.new.heap c.args.bits c.set_there-before.result x
  given = given-text own'.trades.graph own'.down row-held kept own'.lines (line-there c.requires.line.1) (own'.besides c.args.line c.requires.held).held c.set_there-before.ensures.sets inside

pub release-requires : goal.release-requires
release-requires c =
    let left = (beside (goal.at.release-requires c).After-own_lines-row).held in
    omega (arith, c.set_there-before.ensures.changes.trades.holds c.set_there-before.result, one-held c.own_lines-row.new.heap c.args.line left c.set_there-before.result, count-one c.set_there-before.result c.args.line, count-one c.set_there-before.result c.set_there-before.result, test_same c.set_there-before.result c.set_there-before.result refl)

pub returns-clause-keeps : goal.returns-clause-keeps
returns-clause-keeps c = set-keeps ((beside (goal.at.returns-clause-keeps c).After-own_lines-row).edits c.set_there-before.new.heap _ _ _ c.set_there-before.ensures.changes) c.release.ensures.releases c.release.ensures.graph

pub returns-clause-trades : goal.returns-clause-trades
returns-clause-trades c = λ s xs is found.
    let own = c.own_lines-row.ensures s xs is found in
    Trades-more 0 (LINE_SET_NODES + alike_buffers c.args.bits s (name_bytes c.args.name))
    (set-trades ((own.besides c.args.line c.requires.held).edits c.set_there-before.new.heap _ _ _ c.set_there-before.ensures.changes) c.release.ensures.releases c.release.ensures.graph) (omega arith) (omega (arith, own.lines.vector.shape.low))

pub returns-clause-made : goal.returns-clause-made
returns-clause-made c =
    let path = goal.at.returns-clause-made c in
    let own = own path.After-own_lines-row in
    let set = c.set_there-before.ensures.sets.makes in
    let rel = c.release.ensures.releases in
    let one = leaf-one c.set_there-before.new.heap c.release.new.self c.set_there-before.result c.set_there-before.ensures.changes.trades.graph rel (cell-links _ (given path.After-set_there-before own).1.row) in
    omega (arith, own.made, own.live, set.made, set.live, rel.made, one)

pub returns-clause-spares : goal.returns-clause-spares
returns-clause-spares c =
    let own = own (goal.at.returns-clause-spares c).After-own_lines-row in
    room-then (room-then own.spares c.set_there-before.ensures.spares) (room-freed c.release.ensures.releases)

pub returns-clause-state : goal.returns-clause-state
returns-clause-state c = λ s xs text is found line.
    let path = (goal.at.returns-clause-state c).After-set_there-before in
    let own = c.own_lines-row.ensures s xs is found in
    let row = (own.besides c.args.line c.requires.held).row_held in
    let set = set-lines own.trades.graph own.down (row-held path own) (kept path own) own.lines (line-there path own line) (own.besides c.args.line c.requires.held).held c.set_there-before.ensures.sets in
    let now = own.later c.set_there-before.new.heap _ (slice_set xs c.args.index text) (c.args.line ∷ []) (c.set_there-before.result ∷ []) 0 _ c.set_there-before.ensures.changes row (kept path own).beside set in
    let on = (KeepsHeld-Releases c.set_there-before.new.heap c.release.new.self c.set_there-before.result c.release.ensures.releases c.release.ensures.graph).kept c.own_lines-row.result.0
    (omega (arith, row, c.set_there-before.ensures.changes.trades.holds c.own_lines-row.result.0, count-one c.own_lines-row.result.0 c.args.line, count-one c.own_lines-row.result.0 c.set_there-before.result)) in
    (states-stay c.set_there-before.new.heap c.release.new.self c.args.bits c.own_lines-row.result.0 on).state (with_lines s (name_bytes c.args.name) (slice_set xs c.args.index text)) now
