use Rattle.std.proofs.Common.{[], subst, ◌∙◌, arith}
use Rattle.elem_core.specs.Codes.{text_code}
use Rattle.node_heap.specs.Heap.{form_at}
use Rattle.node_heap.specs.Calls.{Answered}
use Rattle.node_heap.specs.InPlace.{child_at}
use Rattle.rrb_core.specs.Vector.{IsGoodVector}
use Rattle.champ_kinds.specs.Root.{Root}
use Rattle.champ_kinds.specs.Kinds.{IsSetOf}
use Rattle.state_rows.specs.InHeap.{IsStateIn}
use Rattle.state_rows.specs.Merging.{entries_merged, stars_need}
use Rattle.state_rows.proofs.Answering.{ready, answered-row, answered-more, just-row, answered-gives}
use Rattle.state_rows.proofs.Keys.{by_bytes}
use Rattle.state_rows.proofs.Staying.{trie-there, buffers-kept}
use Rattle.state_rows.proofs.Steps.{stars-at, set-is}
use Rattle.state_rows.proofs.Room.{room-spared, room-made, room-then}
use Rattle.state_rows.proofs.TwoStates.{names_merged, merged-names, set-merged, stars-need-is, root-here}
use Rattle.state_rows.proofs.merge.stars_merged.Goals as goal
use Rattle.state_rows.proofs.merge.stars_merged.Goals.{After-into_root}

-- the call that makes the stars has answered
answered : (c : After-into_root) → Answered c.args.heap.now c.set_merged-stars.new.heap [] c.into_root.result 0 (stars_need c.args.kind (form_at c.args.heap.now) c.args.bits (child_at c.args.heap.now c.args.state 1) (child_at c.args.heap.now c.args.other 1))
answered c =
    let s = c.requires.states.0 in
    let t = c.requires.states.1 in
    let is = c.requires.states.2 in
    let are = c.requires.states.3 in
    let enough = stars-need-is s t is are c.stars_of-first.ensures.bits c.args.kind (c.stars_of-first.ensures.root s is) (c.stars_of-second.ensures.root t are) in
    rw c.into_root.ensures (answered-more 0 (stars_need c.args.kind (form_at c.args.heap.now) c.args.bits (child_at c.args.heap.now c.args.state 1) (child_at c.args.heap.now c.args.other 1)) c.set_merged-stars.ensures.answered (omega arith) (omega (arith, enough)))

pub set_merged-stars-requires-clause-first : goal.set_merged-stars-requires-clause-first
set_merged-stars-requires-clause-first c =
    let s = c.requires.states.0 in
    let is = c.requires.states.2 in
    (is.stars_are.entries, set-is (stars-at c.requires.bits c.stars_of-first.ensures.bits c.stars_of-first.ensures.root s is))

pub set_merged-stars-requires-clause-second : goal.set_merged-stars-requires-clause-second
set_merged-stars-requires-clause-second c =
    let t = c.requires.states.1 in
    let are = c.requires.states.3 in
    (are.stars_are.entries, set-is (stars-at c.requires.bits c.stars_of-second.ensures.bits c.stars_of-second.ensures.root t are))

pub set_merged-stars-requires-clause-ample : goal.set_merged-stars-requires-clause-ample
set_merged-stars-requires-clause-ample c =
    let s = c.requires.states.0 in
    let t = c.requires.states.1 in
    let is = c.requires.states.2 in
    let are = c.requires.states.3 in
    let enough = stars-need-is s t is are c.stars_of-first.ensures.bits c.args.kind (c.stars_of-first.ensures.root s is) (c.stars_of-second.ensures.root t are) in
    (c.requires.spares.0, omega (arith, c.requires.spares.1, enough))

pub over_buffers-requires : goal.over_buffers-requires
over_buffers-requires c =
    let s = c.requires.states.0 in
    let is = c.requires.states.2 in
    let made = answered c in
    let row = ready made c.requires.spares (omega arith) c.requires.few (answered-gives made) (trie-there c.args.heap.now is.buffers_are.trie) (c.root-buffers.ensures ∙ c.buffers_of.ensures.root s is) in
    assumption

pub returns-clause-answered : goal.returns-clause-answered
returns-clause-answered c = answered-row (answered (goal.at.returns-clause-answered c).After-into_root) c.over_buffers.ensures.answered (omega arith)

pub returns-clause-made : goal.returns-clause-made
returns-clause-made c = just-row (answered (goal.at.returns-clause-made c).After-into_root) c.over_buffers.ensures.answered c.set_merged-stars.ensures.made c.over_buffers.ensures.makes

pub returns-clause-spares : goal.returns-clause-spares
returns-clause-spares c =
    let s = c.requires.states.0 in
    let t = c.requires.states.1 in
    let is = c.requires.states.2 in
    let are = c.requires.states.3 in
    let enough = stars-need-is s t is are c.stars_of-first.ensures.bits c.args.kind (c.stars_of-first.ensures.root s is) (c.stars_of-second.ensures.root t are) in
    room-then (room-spared (c.requires.spares.0, omega (arith, c.requires.spares.1, enough)) c.set_merged-stars.ensures.spares) (room-made c.over_buffers.ensures.makes)

pub returns-clause-state : goal.returns-clause-state
returns-clause-state c = λ s t is are.
    let old = c.args.heap.now in
    let new = c.set_merged-stars.new.heap in
    let bits = c.args.bits in
    let more = (answered (goal.at.returns-clause-state c).After-into_root).extends in
    let here = root-here c.set_merged-stars.result c.into_root.ensures c.set_merged-stars.ensures.bits c.stars_of-first.ensures.bits in
    let made = subst (λ (r : Root). IsSetOf by_bytes text_code new r (entries_merged c.args.kind is.stars_are.entries are.stars_are.entries)) here
    (c.set_merged-stars.ensures.contents is.stars_are.entries are.stars_are.entries (set-is (stars-at c.requires.bits c.stars_of-first.ensures.bits c.stars_of-first.ensures.root s is)) (set-is (stars-at c.requires.bits c.stars_of-second.ensures.bits c.stars_of-second.ensures.root t are))) in
    subst (IsStateIn c.over_buffers.new.heap bits c.over_buffers.result) (merged-names c.args.kind s t)
    (c.over_buffers.ensures.state bits (record s { stars = names_merged c.args.kind s.stars t.stars })
    (buffers-kept more s is (c.root-buffers.ensures ∙ c.buffers_of.ensures.root s is))
    (set-merged old new (IsGoodVector old) (IsGoodVector new) bits is.stars are.stars s.stars t.stars is.stars_are are.stars_are c.into_root.result c.args.kind made))
