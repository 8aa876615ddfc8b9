use Rattle.std.proofs.Common.{[], ◌∷◌, arith}
use Rattle.node_heap.specs.Heap.{form_at}
use Rattle.node_heap.proofs.Frames.{Makes-trans}
use Rattle.node_heap.proofs.BuildLemmas.{count-cons, count-one}
use Rattle.rrb_core.specs.Vector.{IsGoodVector}
use Rattle.plain_space.specs.Workspace.{blank}
use Rattle.state_rows.specs.InHeap.{AreLinesIn}
use Rattle.state_rows.proofs.Answering.{answered-both, answered-then, answered-spares}
use Rattle.state_rows.proofs.Empty.{named-empty, names-empty}
use Rattle.state_rows.proofs.Staying.{buffers-grown}
use Rattle.state_rows.proofs.start.empty_state.Goals as goal

pub empty_trie-buffers-requires-clause-spares : goal.empty_trie-buffers-requires-clause-spares
empty_trie-buffers-requires-clause-spares c = (omega arith, omega (arith, c.requires.spares.1))

pub empty_trie-stars-requires-clause-few : goal.empty_trie-stars-requires-clause-few
empty_trie-stars-requires-clause-few c = omega (arith, c.requires.few, c.empty_trie-buffers.ensures.answered.count)

pub empty_trie-stars-requires-clause-spares : goal.empty_trie-stars-requires-clause-spares
empty_trie-stars-requires-clause-spares c = answered-spares 0 1 c.empty_trie-buffers.ensures.answered (omega arith, omega (arith, c.requires.spares.1))

pub state_row-requires-clause-few : goal.state_row-requires-clause-few
state_row-requires-clause-few c = omega (arith, c.requires.few, c.empty_trie-buffers.ensures.answered.count, c.empty_trie-stars.ensures.answered.count)

pub state_row-requires-clause-held : goal.state_row-requires-clause-held
state_row-requires-clause-held c = λ k.
    let buffers = c.empty_trie-buffers.result in
    let stars = c.empty_trie-stars.result in
    omega (arith, c.empty_trie-buffers.ensures.answered.holds k, c.empty_trie-stars.ensures.answered.holds k, count-cons k buffers (stars ∷ []), count-one k stars)

pub state_row-requires-clause-spares : goal.state_row-requires-clause-spares
state_row-requires-clause-spares c = answered-spares 0 1 c.empty_trie-stars.ensures.answered (answered-spares 0 2 c.empty_trie-buffers.ensures.answered c.requires.spares)

pub returns-clause-answered : goal.returns-clause-answered
returns-clause-answered c =
    let buffers = c.empty_trie-buffers.result in
    let stars = c.empty_trie-stars.result in
    answered-then c.empty_trie-buffers.ensures.answered
    (answered-both (buffers ∷ []) c.empty_trie-stars.ensures.answered c.state_row.ensures.answered (λ k. omega (arith, count-cons k buffers (stars ∷ []), count-one k stars, count-one k buffers)) (omega arith))

pub returns-clause-makes : goal.returns-clause-makes
returns-clause-makes c = Makes-trans (Makes-trans c.empty_trie-buffers.ensures.makes c.empty_trie-stars.ensures.makes) c.state_row.ensures.makes

pub returns-clause-state : goal.returns-clause-state
returns-clause-state c =
    let first = c.empty_trie-buffers.new.heap in
    let second = c.empty_trie-stars.new.heap in
    c.state_row.ensures.state c.args.bits blank
    (buffers-grown first second c.empty_trie-stars.ensures.answered.extends c.args.bits c.empty_trie-buffers.result blank.buffers
    (named-empty (form_at first) (IsGoodVector first) c.args.bits (AreLinesIn first c.args.bits) c.empty_trie-buffers.result (c.empty_trie-buffers.ensures.trie c.args.bits)))
    (names-empty (form_at second) (IsGoodVector second) c.args.bits c.empty_trie-stars.result (c.empty_trie-stars.ensures.trie c.args.bits))
