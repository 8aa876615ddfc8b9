use Rattle.std.proofs.Common.{◌+◌, [], Ok, ap, ◌∙◌, arith}
use Rattle.elem_core.specs.declared.codes.TheConstants.{LEVELS}
use Rattle.elem_core.specs.Shown.{name_bytes}
use Rattle.node_heap.specs.Calls.{Answered}
use Rattle.plain_space.specs.Workspace.{State, without_star}
use Rattle.plain_space.specs.Cost.{alike_stars}
use Rattle.state_rows.specs.InHeap.{IsStateIn}
use Rattle.state_rows.proofs.Answering.{ready, answered-row, just-row, answered-gives}
use Rattle.state_rows.proofs.Staying.{trie-there, buffers-kept}
use Rattle.state_rows.proofs.Steps.{stars-at, set-is, set-ample, set-found, taken-answered, taken-is}
use Rattle.state_rows.proofs.Room.{room-spared, room-made, room-then}
use Rattle.state_rows.proofs.make.without_star.Goals as goal
use Rattle.state_rows.proofs.make.without_star.Goals.{After-into_root}

pub set_remove-requires-clause-contents : goal.set_remove-requires-clause-contents
set_remove-requires-clause-contents c =
    let is = c.requires.state.1 in
    (is.stars_are.entries, set-is (stars-at c.requires.bits c.stars_of-stars.ensures.bits c.stars_of-stars.ensures.root c.requires.state.0 is))

pub unreachable-requires : goal.unreachable-requires
unreachable-requires c =
    let at = stars-at c.requires.bits c.stars_of-stars.ensures.bits c.stars_of-stars.ensures.root c.requires.state.0 c.requires.state.1 in
    let done = set-ample at (name_bytes c.args.name) LEVELS c.in_default.ensures.ample c.requires.state.3 (omega arith) in
    cc

pub unreachable-requires-in_default-found : goal.unreachable-requires-in_default-found
unreachable-requires-in_default-found c =
    let at = stars-at c.requires.bits c.stars_of-stars.ensures.bits c.stars_of-stars.ensures.root c.requires.state.0 c.requires.state.1 in
    set-found at (name_bytes c.args.name) c.in-Ok.ensures.absent c.requires.state.2 (ap Ok c.in_default-found.is)

-- the call that makes the stars has answered
answered : (c : After-into_root) (s : State) → IsStateIn c.args.heap.now c.args.bits c.args.state s → Answered c.args.heap.now c.set_remove.new.heap [] c.into_root.result 0 (LEVELS + alike_stars c.args.bits s (name_bytes c.args.name))
answered c s is =
    let at = stars-at c.requires.bits c.stars_of-stars.ensures.bits c.stars_of-stars.ensures.root s is in
    taken-answered at (name_bytes c.args.name) c.in-Some.is c.into_root.ensures c.in-Ok.ensures.answered

pub over_buffers-requires : goal.over_buffers-requires
over_buffers-requires c =
    let is = c.requires.state.1 in
    let made = answered c c.requires.state.0 is in
    let row = ready made c.requires.state.3 (omega arith) c.requires.few (answered-gives made) (trie-there c.args.heap.now is.buffers_are.trie) (c.root-buffers.ensures ∙ c.buffers_of.ensures.root c.requires.state.0 is) in
    assumption

pub returns-clause-answered : goal.returns-clause-answered
returns-clause-answered c = λ s is. answered-row (answered (goal.at.returns-clause-answered c).After-into_root s is) c.over_buffers.ensures.answered (omega arith)

pub returns-clause-made : goal.returns-clause-made
returns-clause-made c =
    just-row (answered (goal.at.returns-clause-made c).After-into_root c.requires.state.0 c.requires.state.1) c.over_buffers.ensures.answered c.in-Ok.ensures.made c.over_buffers.ensures.makes

pub returns-clause-spares : goal.returns-clause-spares
returns-clause-spares c =
    let at = stars-at c.requires.bits c.stars_of-stars.ensures.bits c.stars_of-stars.ensures.root c.requires.state.0 c.requires.state.1 in
    room-then (set-ample at (name_bytes c.args.name) LEVELS (λ E is spares. room-spared spares (c.in-Ok.ensures.spares E is)) c.requires.state.3 (omega arith)) (room-made c.over_buffers.ensures.makes)

pub returns-clause-state : goal.returns-clause-state
returns-clause-state c = λ s is.
    let at = stars-at c.requires.bits c.stars_of-stars.ensures.bits c.stars_of-stars.ensures.root s is in
    let more = (answered (goal.at.returns-clause-state c).After-into_root s is).extends in
    c.over_buffers.ensures.state c.args.bits (without_star s (name_bytes c.args.name))
    (buffers-kept more s is (c.root-buffers.ensures ∙ c.buffers_of.ensures.root s is))
    (taken-is at (name_bytes c.args.name) c.into_root.ensures c.in-Ok.found c.in-Some.is c.in-Ok.ensures.bits c.in-Ok.ensures.contents)
