use Rattle.std.proofs.Common.{◌+◌, [], ◌∷◌, ◌++◌, arith}
use Rattle.state_rows.specs.declared.edited_states.TheConstants.{LINE_ADDED_NODES}
use Rattle.elem_core.specs.Shown.{name_bytes}
use Rattle.node_heap.specs.Links.{here}
use Rattle.node_heap.specs.declared.owner.Owner.TheVariants.{Child as by_place}
use Rattle.node_heap.proofs.Edited.{Trades-more}
use Rattle.node_heap.proofs.OwnerLemmas.{KeepsHeld-EditsBy}
use Rattle.edit_vec.proofs.LawLemmas.{pushes-keep}
use Rattle.plain_space.specs.Cost.{alike_buffers}
use Rattle.state_rows.specs.EditedStates.{OwnsLines, StaysBeside}
use Rattle.state_rows.proofs.LinesPlaced.{text-stays, pushed-lines, state-first, lines-many}
use Rattle.state_rows.proofs.Room.{room-then}
use Rattle.state_rows.proofs.edited_states.line_added.Goals as goal
use Rattle.state_rows.proofs.edited_states.line_added.Goals.{After-own_lines-row}

-- what is one's own, and what stays beside it
own : (c : After-own_lines-row) → OwnsLines c.args.heap.now c.own_lines-row.new.heap c.args.bits c.args.state c.own_lines-row.result.0 c.requires.state.0 (name_bytes c.args.name) c.requires.state.1 c.own_lines-row.result.1
own c = let r = c.requires.state in c.own_lines-row.ensures r.0 r.1 r.2 r.3

beside : (c : After-own_lines-row) → StaysBeside c.args.heap.now c.own_lines-row.new.heap c.args.bits c.args.state c.own_lines-row.result.0 c.requires.state.0 (name_bytes c.args.name) c.own_lines-row.result.1 c.args.line
beside c = (own c).besides c.args.line c.requires.held

pub own_lines-row-requires-clause-held : goal.own_lines-row-requires-clause-held
own_lines-row-requires-clause-held c = state-first c.args.state c.args.line (c.requires.held c.args.state)

pub own_lines-row-requires-clause-state : goal.own_lines-row-requires-clause-state
own_lines-row-requires-clause-state c = let r = c.requires.state in (r.0, r.1, r.2, r.3, (omega arith, omega (arith, r.5.1)))

pub push_there-requires : goal.push_there-requires
push_there-requires c =
    let path = (goal.at.push_there-requires c).After-own_lines-row in
    let own = own path in
    let beside = beside path in
    record {
      sole = own.sole;
      child = own.two;
      good = own.lines.vector;
      held = beside.held;
      apart = beside.apart;
      few = omega (arith, c.requires.few, own.trades.total);
      short = omega (arith, lines-many own.lines, c.requires.state.4);
      spare = (omega arith, omega (arith, c.requires.state.5.1, own.trades.nodes, own.trades.balance.spare_nodes));
    }

pub returns-clause-keeps : goal.returns-clause-keeps
returns-clause-keeps c = KeepsHeld-EditsBy ((beside (goal.at.returns-clause-keeps c).After-own_lines-row).edits c.push_there.new.heap _ _ _ c.push_there.ensures.changes)

pub returns-clause-trades : goal.returns-clause-trades
returns-clause-trades c = λ s xs is found.
    let own = c.own_lines-row.ensures s xs is found in
    Trades-more 0 (LINE_ADDED_NODES + alike_buffers c.args.bits s (name_bytes c.args.name)) ((own.besides c.args.line c.requires.held).edits c.push_there.new.heap _ _ _ c.push_there.ensures.changes).trades (omega arith) (omega (arith, own.lines.vector.shape.low))

pub returns-clause-made : goal.returns-clause-made
returns-clause-made c =
    let own = own (goal.at.returns-clause-made c).After-own_lines-row in
    let pushed = c.push_there.ensures.pushes.makes in
    omega (arith, own.made, own.live, pushed.made, pushed.live)

pub returns-clause-spares : goal.returns-clause-spares
returns-clause-spares c =
    let own = own (goal.at.returns-clause-spares c).After-own_lines-row in
    room-then own.spares c.push_there.ensures.spares

pub returns-clause-state : goal.returns-clause-state
returns-clause-state c = λ s xs text is found line.
    let own = c.own_lines-row.ensures s xs is found in
    let beside = own.besides c.args.line c.requires.held in
    let pushes = c.push_there.ensures.pushes in
    let kept = pushes-keep _ (by_place c.own_lines-row.result.1 1) c.own_lines-row.new.heap c.push_there.new.heap _ own.trades.graph own.two own.lines.vector pushes.others in
    let there = text-stays c.args.heap.now c.own_lines-row.new.heap (beside.below c.args.line (here c.args.line)) line in
    own.later c.push_there.new.heap _ (xs ++ text ∷ []) (c.args.line ∷ []) [] 0 _ c.push_there.ensures.changes beside.row_held kept.beside
    (pushed-lines own.trades.graph own.down (omega (arith, beside.row_held)) kept own.lines there beside.held pushes)
