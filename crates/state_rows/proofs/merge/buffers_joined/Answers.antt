use Rattle.std.proofs.Common.{ℕ, List, [], subst, ◌∙◌, arith}
use Rattle.elem_core.specs.Codes.{text_code}
use Rattle.node_heap.specs.Heap.{form_at}
use Rattle.node_heap.specs.Calls.{Answered}
use Rattle.node_heap.specs.InPlace.{child_at}
use Rattle.rrb_core.specs.Vector.{IsGoodVector}
use Rattle.champ_kinds.specs.Root.{Root}
use Rattle.champ_kinds.specs.Kinds.{IsMapOf}
use Rattle.set_merge.specs.Merge.{map_union}
use Rattle.set_merge.specs.Need.{union_need}
use Rattle.shell_terms.specs.Edit.{Bytes}
use Rattle.plain_space.specs.Workspace.{joined}
use Rattle.state_rows.specs.InHeap.{AreLinesIn}
use Rattle.state_rows.proofs.Answering.{ready, answered-row, answered-more, just-row, answered-gives}
use Rattle.state_rows.proofs.Keys.{by_bytes}
use Rattle.state_rows.proofs.Staying.{grown, trie-there, stars-kept}
use Rattle.state_rows.proofs.Steps.{buffers-at, map-is}
use Rattle.state_rows.proofs.Room.{room-spared, room-made, room-then}
use Rattle.state_rows.proofs.TwoStates.{named-joined, buffers-need-is, root-here}
use Rattle.state_rows.proofs.merge.buffers_joined.Goals as goal
use Rattle.state_rows.proofs.merge.buffers_joined.Goals.{After-into_root}

-- the call that makes the buffers has answered
answered : (c : After-into_root) → Answered c.args.heap.now c.map_union_there-buffers.new.heap [] c.into_root.result 0 (union_need by_bytes text_code (form_at c.args.heap.now) c.args.bits (child_at c.args.heap.now c.args.state 0) (child_at c.args.heap.now c.args.other 0))
answered c =
    let s = c.requires.states.0 in
    let t = c.requires.states.1 in
    let is = c.requires.states.2 in
    let are = c.requires.states.3 in
    let enough = buffers-need-is s t is are c.buffers_of-first.ensures.bits (c.buffers_of-first.ensures.root s is) (c.buffers_of-second.ensures.root t are) in
    rw c.into_root.ensures (answered-more 0 (union_need by_bytes text_code (form_at c.args.heap.now) c.args.bits (child_at c.args.heap.now c.args.state 0) (child_at c.args.heap.now c.args.other 0)) c.map_union_there-buffers.ensures.answered (omega arith) (omega (arith, enough)))

pub map_union_there-buffers-requires-clause-first : goal.map_union_there-buffers-requires-clause-first
map_union_there-buffers-requires-clause-first c =
    let s = c.requires.states.0 in
    let is = c.requires.states.2 in
    (is.buffers_are.bindings, map-is (buffers-at c.requires.bits c.buffers_of-first.ensures.bits c.buffers_of-first.ensures.root s is))

pub map_union_there-buffers-requires-clause-second : goal.map_union_there-buffers-requires-clause-second
map_union_there-buffers-requires-clause-second c =
    let t = c.requires.states.1 in
    let are = c.requires.states.3 in
    (are.buffers_are.bindings, map-is (buffers-at c.requires.bits c.buffers_of-second.ensures.bits c.buffers_of-second.ensures.root t are))

pub map_union_there-buffers-requires-clause-ample : goal.map_union_there-buffers-requires-clause-ample
map_union_there-buffers-requires-clause-ample c =
    let s = c.requires.states.0 in
    let t = c.requires.states.1 in
    let is = c.requires.states.2 in
    let are = c.requires.states.3 in
    let enough = buffers-need-is s t is are c.buffers_of-first.ensures.bits (c.buffers_of-first.ensures.root s is) (c.buffers_of-second.ensures.root t are) in
    (c.requires.spares.0, omega (arith, c.requires.spares.1, enough))

pub over_stars-requires : goal.over_stars-requires
over_stars-requires c =
    let s = c.requires.states.0 in
    let is = c.requires.states.2 in
    let made = answered c in
    let row = ready made c.requires.spares (omega arith) c.requires.few (answered-gives made) (trie-there c.args.heap.now is.stars_are.trie) (c.root-stars.ensures ∙ c.stars_of.ensures.root s is) in
    assumption

pub returns-clause-answered : goal.returns-clause-answered
returns-clause-answered c = answered-row (answered (goal.at.returns-clause-answered c).After-into_root) c.over_stars.ensures.answered (omega arith)

pub returns-clause-made : goal.returns-clause-made
returns-clause-made c = just-row (answered (goal.at.returns-clause-made c).After-into_root) c.over_stars.ensures.answered c.map_union_there-buffers.ensures.made c.over_stars.ensures.makes

pub returns-clause-spares : goal.returns-clause-spares
returns-clause-spares c =
    let s = c.requires.states.0 in
    let t = c.requires.states.1 in
    let is = c.requires.states.2 in
    let are = c.requires.states.3 in
    let enough = buffers-need-is s t is are c.buffers_of-first.ensures.bits (c.buffers_of-first.ensures.root s is) (c.buffers_of-second.ensures.root t are) in
    room-then (room-spared (c.requires.spares.0, omega (arith, c.requires.spares.1, enough)) c.map_union_there-buffers.ensures.spares) (room-made c.over_stars.ensures.makes)

pub returns-clause-state : goal.returns-clause-state
returns-clause-state c = λ s t is are.
    let old = c.args.heap.now in
    let new = c.map_union_there-buffers.new.heap in
    let bits = c.args.bits in
    let more = (answered (goal.at.returns-clause-state c).After-into_root).extends in
    let stays = λ (l : ℕ) (ys : List Bytes) (held : AreLinesIn old bits l ys). (grown old new more bits l).lines ys held in
    let here = root-here c.map_union_there-buffers.result c.into_root.ensures c.map_union_there-buffers.ensures.bits c.buffers_of-first.ensures.bits in
    let made = subst (λ (r : Root). IsMapOf by_bytes text_code new r (map_union by_bytes is.buffers_are.bindings are.buffers_are.bindings)) here
    (c.map_union_there-buffers.ensures.contents is.buffers_are.bindings are.buffers_are.bindings (map-is (buffers-at c.requires.bits c.buffers_of-first.ensures.bits c.buffers_of-first.ensures.root s is)) (map-is (buffers-at c.requires.bits c.buffers_of-second.ensures.bits c.buffers_of-second.ensures.root t are))) in
    c.over_stars.ensures.state bits (record s { buffers = joined s.buffers t.buffers })
    (named-joined old new (IsGoodVector old) (IsGoodVector new) bits (AreLinesIn old bits) (AreLinesIn new bits) stays is.buffers are.buffers s.buffers t.buffers is.buffers_are are.buffers_are c.into_root.result made)
    (stars-kept more s is (c.root-stars.ensures ∙ c.stars_of.ensures.root s is))
