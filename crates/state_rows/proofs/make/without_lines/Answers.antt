use Rattle.std.proofs.Common.{ℕ, ◌+◌, List, [], Ok, ap, ◌∙◌, arith}
use Rattle.elem_core.specs.declared.codes.TheConstants.{LEVELS}
use Rattle.elem_core.specs.Shown.{name_bytes}
use Rattle.node_heap.specs.Calls.{Answered}
use Rattle.shell_terms.specs.Edit.{Bytes}
use Rattle.plain_space.specs.Workspace.{State, without_lines}
use Rattle.plain_space.specs.Cost.{alike_buffers}
use Rattle.state_rows.specs.InHeap.{AreLinesIn, IsStateIn}
use Rattle.state_rows.proofs.Answering.{ready, answered-row, just-row, answered-gives}
use Rattle.state_rows.proofs.Staying.{grown, trie-there, stars-kept}
use Rattle.state_rows.proofs.Steps.{buffers-at, map-is, map-ample, map-found, removed-answered, removed-is}
use Rattle.state_rows.proofs.Room.{room-spared, room-made, room-then}
use Rattle.state_rows.proofs.make.without_lines.Goals as goal
use Rattle.state_rows.proofs.make.without_lines.Goals.{After-into_root}

pub map_remove-requires-clause-contents : goal.map_remove-requires-clause-contents
map_remove-requires-clause-contents c =
    let is = c.requires.state.1 in
    (is.buffers_are.bindings, map-is (buffers-at c.requires.bits c.buffers_of-buffers.ensures.bits c.buffers_of-buffers.ensures.root c.requires.state.0 is))

pub unreachable-requires : goal.unreachable-requires
unreachable-requires c =
    let at = buffers-at c.requires.bits c.buffers_of-buffers.ensures.bits c.buffers_of-buffers.ensures.root c.requires.state.0 c.requires.state.1 in
    let done = map-ample at (name_bytes c.args.name) LEVELS c.in_default.ensures.ample c.requires.state.3 (omega arith) in
    cc

pub unreachable-requires-in_default-found : goal.unreachable-requires-in_default-found
unreachable-requires-in_default-found c =
    let at = buffers-at c.requires.bits c.buffers_of-buffers.ensures.bits c.buffers_of-buffers.ensures.root c.requires.state.0 c.requires.state.1 in
    map-found at (name_bytes c.args.name) c.in-Ok.ensures.absent c.requires.state.2 (ap Ok c.in_default-found.is)

-- the call that makes the buffers has answered
answered : (c : After-into_root) (s : State) → IsStateIn c.args.heap.now c.args.bits c.args.state s → Answered c.args.heap.now c.map_remove.new.heap [] c.into_root.result 0 (LEVELS + alike_buffers c.args.bits s (name_bytes c.args.name))
answered c s is =
    let at = buffers-at c.requires.bits c.buffers_of-buffers.ensures.bits c.buffers_of-buffers.ensures.root s is in
    removed-answered at (name_bytes c.args.name) c.in-Some.is c.into_root.ensures c.in-Ok.ensures.answered

pub over_stars-requires : goal.over_stars-requires
over_stars-requires c =
    let is = c.requires.state.1 in
    let made = answered c c.requires.state.0 is in
    let row = ready made c.requires.state.3 (omega arith) c.requires.few (answered-gives made) (trie-there c.args.heap.now is.stars_are.trie) (c.root-stars.ensures ∙ c.stars_of.ensures.root c.requires.state.0 is) in
    assumption

pub returns-clause-answered : goal.returns-clause-answered
returns-clause-answered c = λ s is. answered-row (answered (goal.at.returns-clause-answered c).After-into_root s is) c.over_stars.ensures.answered (omega arith)

pub returns-clause-made : goal.returns-clause-made
returns-clause-made c =
    just-row (answered (goal.at.returns-clause-made c).After-into_root c.requires.state.0 c.requires.state.1) c.over_stars.ensures.answered c.in-Ok.ensures.made c.over_stars.ensures.makes

pub returns-clause-spares : goal.returns-clause-spares
returns-clause-spares c =
    let at = buffers-at c.requires.bits c.buffers_of-buffers.ensures.bits c.buffers_of-buffers.ensures.root c.requires.state.0 c.requires.state.1 in
    room-then (map-ample at (name_bytes c.args.name) LEVELS (λ E is spares. room-spared spares (c.in-Ok.ensures.spares E is)) c.requires.state.3 (omega arith)) (room-made c.over_stars.ensures.makes)

pub returns-clause-state : goal.returns-clause-state
returns-clause-state c = λ s is.
    let at = buffers-at c.requires.bits c.buffers_of-buffers.ensures.bits c.buffers_of-buffers.ensures.root s is in
    let more = (answered (goal.at.returns-clause-state c).After-into_root s is).extends in
    let stays = λ (k : ℕ) (ys : List Bytes) (are : AreLinesIn c.args.heap.now c.args.bits k ys). (grown c.args.heap.now c.map_remove.new.heap more c.args.bits k).lines ys are in
    c.over_stars.ensures.state c.args.bits (without_lines s (name_bytes c.args.name))
    (removed-is at (AreLinesIn c.map_remove.new.heap c.args.bits) stays (name_bytes c.args.name) c.into_root.ensures c.in-Ok.found c.in-Some.is c.in-Ok.ensures.bits c.in-Ok.ensures.contents)
    (stars-kept more s is (c.root-stars.ensures ∙ c.stars_of.ensures.root s is))
