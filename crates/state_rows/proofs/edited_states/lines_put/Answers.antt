use Rattle.std.proofs.Common.{ℕ, ◌+◌, ◌<◌, [], ◌∷◌, refl, sym, subst, arith}
use Rattle.elem_core.specs.Shown.{name_bytes}
use Rattle.node_heap.specs.Links.{Reaches}
use Rattle.node_heap.specs.Heap.{links_at, holds_at}
use Rattle.node_heap.proofs.Counts.{test_same}
use Rattle.node_heap.proofs.BuildLemmas.{count-one}
use Rattle.node_heap.proofs.Edited.{Trades-more}
use Rattle.node_heap.proofs.Frames.{KeepsHeld-Releases}
use Rattle.plain_space.specs.Workspace.{with_lines}
use Rattle.plain_space.specs.Cost.{alike_buffers}
use Rattle.state_rows.specs.declared.edited_states.TheConstants.{LINES_PUT_NODES}
use Rattle.state_rows.specs.EditedStates.{OwnsLines, StaysBeside}
use Rattle.state_rows.proofs.Answering.{one-held}
use Rattle.state_rows.proofs.Staying.{states-stay}
use Rattle.state_rows.proofs.LinesPlaced.{state-first, set-keeps, set-trades, put-beside, put-stay}
use Rattle.state_rows.proofs.Room.{room-made, room-freed, room-then}
use Rattle.state_rows.proofs.edited_states.lines_put.Goals as goal
use Rattle.state_rows.proofs.edited_states.lines_put.Goals.{After-own_lines-row}

-- what is one's own, and what stays beside it
own : (c : After-own_lines-row) → OwnsLines c.args.heap.now c.own_lines-row.new.heap c.args.bits c.args.state c.own_lines-row.result.0 c.requires.state.0 (name_bytes c.args.name) c.requires.state.1 c.own_lines-row.result.1
own c = let r = c.requires.state in c.own_lines-row.ensures r.0 r.1 r.2 r.3

beside : (c : After-own_lines-row) → StaysBeside c.args.heap.now c.own_lines-row.new.heap c.args.bits c.args.state c.own_lines-row.result.0 c.requires.state.0 (name_bytes c.args.name) c.own_lines-row.result.1 c.args.lines
beside c = (own c).besides c.args.lines c.requires.held

pub own_lines-row-requires-clause-held : goal.own_lines-row-requires-clause-held
own_lines-row-requires-clause-held c = state-first c.args.state c.args.lines (c.requires.held c.args.state)

pub own_lines-row-requires-clause-state : goal.own_lines-row-requires-clause-state
own_lines-row-requires-clause-state c = let r = c.requires.state in (r.0, r.1, r.2, r.3, (omega arith, omega (arith, r.4.1)))

pub replace-replaced-requires-clause-sole : goal.replace-replaced-requires-clause-sole
replace-replaced-requires-clause-sole c = (own (goal.at.replace-replaced-requires-clause-sole c).After-own_lines-row).sole

pub replace-replaced-requires-clause-index : goal.replace-replaced-requires-clause-index
replace-replaced-requires-clause-index c = (own (goal.at.replace-replaced-requires-clause-index c).After-own_lines-row).two

pub replace-replaced-requires-clause-held : goal.replace-replaced-requires-clause-held
replace-replaced-requires-clause-held c =
    subst (λ (v : ℕ). 0 < holds_at c.own_lines-row.new.heap v) (sym c.into_root.ensures) (beside (goal.at.replace-replaced-requires-clause-held c).After-own_lines-row).held

pub replace-replaced-requires-clause-apart : goal.replace-replaced-requires-clause-apart
replace-replaced-requires-clause-apart c =
    subst (λ (v : ℕ). ¬ Reaches (links_at c.own_lines-row.new.heap) v c.own_lines-row.result.1) (sym c.into_root.ensures) (beside (goal.at.replace-replaced-requires-clause-apart c).After-own_lines-row).apart

pub release-requires : goal.release-requires
release-requires c =
    let did = rw c.into_root.ensures at c.replace-replaced.ensures in
    let left = (beside (goal.at.release-requires c).After-own_lines-row).held in
    omega (arith, did.changes.trades.holds c.replace-replaced.result, one-held c.own_lines-row.new.heap c.args.lines left c.replace-replaced.result, count-one c.replace-replaced.result c.args.lines, count-one c.replace-replaced.result c.replace-replaced.result, test_same c.replace-replaced.result c.replace-replaced.result refl)

pub returns-clause-keeps : goal.returns-clause-keeps
returns-clause-keeps c =
    let did = rw c.into_root.ensures at c.replace-replaced.ensures in
    set-keeps ((beside (goal.at.returns-clause-keeps c).After-own_lines-row).edits c.replace-replaced.new.self _ _ _ did.changes) c.release.ensures.releases c.release.ensures.graph

pub returns-clause-trades : goal.returns-clause-trades
returns-clause-trades c = λ s xs is found.
    let did = rw c.into_root.ensures at c.replace-replaced.ensures in
    let own = c.own_lines-row.ensures s xs is found in
    Trades-more 0 (LINES_PUT_NODES + alike_buffers c.args.bits s (name_bytes c.args.name))
    (set-trades ((own.besides c.args.lines c.requires.held).edits c.replace-replaced.new.self _ _ _ did.changes) c.release.ensures.releases c.release.ensures.graph) (omega arith) (omega arith)

pub returns-clause-made : goal.returns-clause-made
returns-clause-made c = λ one.
    let did = rw c.into_root.ensures at c.replace-replaced.ensures in
    let own = own (goal.at.returns-clause-made c).After-own_lines-row in
    omega (arith, own.copies one, did.makes.made, c.release.ensures.releases.made, own.trades.graph.few_made)

pub returns-clause-spares : goal.returns-clause-spares
returns-clause-spares c =
    let did = rw c.into_root.ensures at c.replace-replaced.ensures in
    room-then (room-then (own (goal.at.returns-clause-spares c).After-own_lines-row).spares (room-made did.makes)) (room-freed c.release.ensures.releases)

pub returns-clause-state : goal.returns-clause-state
returns-clause-state c = λ s xs ys is found lines.
    let did = rw c.into_root.ensures at c.replace-replaced.ensures in
    let own = c.own_lines-row.ensures s xs is found in
    let beside = own.besides c.args.lines c.requires.held in
    let there = (states-stay c.args.heap.now c.own_lines-row.new.heap c.args.bits c.args.lines beside.below).lines ys lines in
    let now = own.later c.replace-replaced.new.self c.args.lines ys (c.args.lines ∷ []) (c.replace-replaced.result ∷ []) 0 0 did.changes beside.row_held (put-beside c.args.lines own.two did.writes) (put-stay c.args.lines own.two did.writes beside.apart there) in
    let on = (KeepsHeld-Releases c.replace-replaced.new.self c.release.new.self c.replace-replaced.result c.release.ensures.releases c.release.ensures.graph).kept c.own_lines-row.result.0
    (omega (arith, beside.row_held, did.changes.trades.holds c.own_lines-row.result.0, count-one c.own_lines-row.result.0 c.args.lines, count-one c.own_lines-row.result.0 c.replace-replaced.result)) in
    (states-stay c.replace-replaced.new.self c.release.new.self c.args.bits c.own_lines-row.result.0 on).state (with_lines s (name_bytes c.args.name) ys) now
