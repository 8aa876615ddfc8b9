use Rattle.std.proofs.Common.{◌≡◌, ℕ, ◌+◌, [], Option, Some, None, refl, ap, sym, subst, ◌∙◌, arith}
use Rattle.std.specs.FinMap as map
use Rattle.champ_trie.specs.declared.TheConstants.{ADD_NODES}
use Rattle.node_heap.specs.Heap.{form_at}
use Rattle.node_heap.specs.Calls.{Answered}
use Rattle.rrb_core.specs.Vector.{IsGoodVector}
use Rattle.champ_chain.specs.Entry.{link_with}
use Rattle.champ_kinds.specs.Root.{Root}
use Rattle.plain_space.specs.Workspace.{Names, State, with_star}
use Rattle.plain_space.specs.Cost.{alike_stars}
use Rattle.state_rows.specs.InHeap.{AreNamesIn, IsStateIn}
use Rattle.state_rows.proofs.Answering.{ready, answered-row, just-row, answered-gives}
use Rattle.state_rows.proofs.Contents.{names-same}
use Rattle.state_rows.proofs.Keys.{by_bytes}
use Rattle.state_rows.proofs.Staying.{names-grown, trie-there, buffers-kept}
use Rattle.state_rows.proofs.Steps.{stars-at, set-is, set-ample, added-answered, added-is}
use Rattle.state_rows.proofs.Room.{room-spared, room-made, room-then}
use Rattle.state_rows.proofs.make.with_star.Goals as goal
use Rattle.state_rows.proofs.make.with_star.Goals.{After-into_root}

pub set_insert-requires-clause-contents : goal.set_insert-requires-clause-contents
set_insert-requires-clause-contents c =
    let is = c.requires.state.1 in
    (is.stars_are.entries, set-is (stars-at c.requires.bits c.stars_of-stars.ensures.bits c.stars_of-stars.ensures.root c.requires.state.0 is))

pub unreachable-requires : goal.unreachable-requires
unreachable-requires c =
    let at = stars-at c.requires.bits c.stars_of-stars.ensures.bits c.stars_of-stars.ensures.root c.requires.state.0 c.requires.state.1 in
    let done = set-ample at c.args.key ADD_NODES c.in_default.ensures.ample c.requires.state.2 (omega arith) in
    cc

-- the call that makes the stars has answered
answered : (c : After-into_root) (s : State) → IsStateIn c.args.heap.now c.args.bits c.args.state s → Answered c.args.heap.now c.set_insert.new.heap [] c.into_root.result 1 (ADD_NODES + alike_stars c.args.bits s c.args.key)
answered c s is =
    let at = stars-at c.requires.bits c.stars_of-stars.ensures.bits c.stars_of-stars.ensures.root s is in
    added-answered at c.args.key c.into_root.ensures c.in-Ok.ensures.answered

pub over_buffers-requires : goal.over_buffers-requires
over_buffers-requires c =
    let is = c.requires.state.1 in
    let made = answered c c.requires.state.0 is in
    let row = ready made c.requires.state.2 (omega arith) c.requires.few (answered-gives made) (trie-there c.args.heap.now is.buffers_are.trie) (c.root-buffers.ensures ∙ c.buffers_of.ensures.root c.requires.state.0 is) in
    assumption

pub returns-clause-answered : goal.returns-clause-answered
returns-clause-answered c = λ s is. answered-row (answered (goal.at.returns-clause-answered c).After-into_root s is) c.over_buffers.ensures.answered (omega arith)

pub returns-clause-made : goal.returns-clause-made
returns-clause-made c =
    just-row (answered (goal.at.returns-clause-made c).After-into_root c.requires.state.0 c.requires.state.1) c.over_buffers.ensures.answered c.in-Ok.ensures.made c.over_buffers.ensures.makes

pub returns-clause-spares : goal.returns-clause-spares
returns-clause-spares c =
    let at = stars-at c.requires.bits c.stars_of-stars.ensures.bits c.stars_of-stars.ensures.root c.requires.state.0 c.requires.state.1 in
    room-then (set-ample at c.args.key ADD_NODES (λ E is spares. room-spared spares (c.in-Ok.ensures.spares E is)) c.requires.state.2 (omega arith)) (room-made c.over_buffers.ensures.makes)

pub returns-clause-state : goal.returns-clause-state
returns-clause-state c = λ s is.
    let more = (answered (goal.at.returns-clause-state c).After-into_root s is).extends in
    c.over_buffers.ensures.state c.args.bits (with_star s c.args.key)
    (buffers-kept more s is (c.root-buffers.ensures ∙ c.buffers_of.ensures.root s is))
    (by_found c s is (names-grown c.args.heap.now c.set_insert.new.heap more c.args.bits is.stars) (link_with by_bytes c.args.key is.stars_are.entries) refl)
  where
    by_found : (c : goal.After-over_buffers) (s : State) (is : IsStateIn c.args.heap.now c.args.bits c.args.state s) → ((m : Names) → AreNamesIn c.args.heap.now c.args.bits is.stars m → AreNamesIn c.set_insert.new.heap c.args.bits is.stars m)
        → (o : Option ℕ) → link_with by_bytes c.args.key is.stars_are.entries ≡ o → AreNamesIn c.set_insert.new.heap c.args.bits c.into_root.result (map.insert s.stars c.args.key tt)
    by_found c s is stays None none =
        let at = stars-at c.requires.bits c.stars_of-stars.ensures.bits c.stars_of-stars.ensures.root s is in
        let made = c.in-Ok.ensures.added is.stars_are.entries (set-is at) none in
        added-is at c.args.key c.into_root.ensures made.0 c.requires.name c.in-Ok.ensures.bits made.1
    by_found c s is stays (Some x) found =
        let at = stars-at c.requires.bits c.stars_of-stars.ensures.bits c.stars_of-stars.ensures.root s is in
        let kept = c.in-Ok.ensures.present is.stars_are.entries (set-is at) (λ none. let both = sym found ∙ none in cc) in
        let same : c.in-Ok.written ≡ c.stars_of-stars.result = let given = kept.0 in cc in
        subst (λ (l : ℕ). AreNamesIn c.set_insert.new.heap c.args.bits l (map.insert s.stars c.args.key tt)) (sym (c.into_root.ensures ∙ ap (λ (r : Root). r.root) same ∙ at.root))
        (stays (map.insert s.stars c.args.key tt) (names-same (form_at c.args.heap.now) (IsGoodVector c.args.heap.now) c.args.bits is.stars s.stars is.stars_are c.args.key x found))
