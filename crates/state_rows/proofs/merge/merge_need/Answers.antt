use Rattle.std.proofs.Common.{ap, arith}
use Rattle.node_heap.specs.Heap.{form_at}
use Rattle.rrb_core.specs.Vector.{IsGoodVector}
use Rattle.plain_space.specs.Cost.{merge_size}
use Rattle.state_rows.specs.InHeap.{AreLinesIn}
use Rattle.state_rows.specs.Merging.{plain_kind, merge_rows}
use Rattle.state_rows.proofs.Steps.{buffers-at, stars-at, map-is, set-is}
use Rattle.state_rows.proofs.TwoStates.{stars-need-is, buffers-need-is, set-size, map-size, stars-size}
use Rattle.state_rows.proofs.merge.merge_need.Goals as goal

pub set_need-requires-clause-first : goal.set_need-requires-clause-first
set_need-requires-clause-first c =
    let s = c.requires.states.0 in
    let is = c.requires.states.2 in
    (is.stars_are.entries, set-is (stars-at c.requires.bits c.stars_of-first.ensures.bits c.stars_of-first.ensures.root s is))

pub set_need-requires-clause-second : goal.set_need-requires-clause-second
set_need-requires-clause-second c =
    let t = c.requires.states.1 in
    let are = c.requires.states.3 in
    (are.stars_are.entries, set-is (stars-at c.requires.bits c.stars_of-second.ensures.bits c.stars_of-second.ensures.root t are))

pub map_union_need-requires-clause-first : goal.map_union_need-requires-clause-first
map_union_need-requires-clause-first c =
    let s = c.requires.states.0 in
    let is = c.requires.states.2 in
    (is.buffers_are.bindings, map-is (buffers-at c.requires.bits c.buffers_of-first.ensures.bits c.buffers_of-first.ensures.root s is))

pub map_union_need-requires-clause-second : goal.map_union_need-requires-clause-second
map_union_need-requires-clause-second c =
    let t = c.requires.states.1 in
    let are = c.requires.states.3 in
    (are.buffers_are.bindings, map-is (buffers-at c.requires.bits c.buffers_of-second.ensures.bits c.buffers_of-second.ensures.root t are))

pub returns-in-Stars-clause-rows : goal.returns-in-Stars-clause-rows
returns-in-Stars-clause-rows c =
    let s = c.requires.states.0 in
    let t = c.requires.states.1 in
    let is = c.requires.states.2 in
    let are = c.requires.states.3 in
    let same = stars-need-is s t is are c.stars_of-first.ensures.bits c.in-Stars.stars (c.stars_of-first.ensures.root s is) (c.stars_of-second.ensures.root t are) in
    omega (arith, c.set_need.ensures.need, same, ap (λ k. merge_rows k c.args.heap.now c.args.bits c.args.state c.args.other) c.in-Stars.is)

pub returns-in-Stars-clause-few : goal.returns-in-Stars-clause-few
returns-in-Stars-clause-few c = λ s t is are.
    let many = c.set_need.ensures.entries is.stars_are.entries are.stars_are.entries (set-is (stars-at c.requires.bits c.stars_of-first.ensures.bits c.stars_of-first.ensures.root s is)) (set-is (stars-at c.requires.bits c.stars_of-second.ensures.bits c.stars_of-second.ensures.root t are)) in
    let one = set-size (form_at c.args.heap.now) (IsGoodVector c.args.heap.now) c.args.bits is.stars s.stars is.stars_are in
    let two = set-size (form_at c.args.heap.now) (IsGoodVector c.args.heap.now) c.args.bits are.stars t.stars are.stars_are in
    omega (arith, many, one, two, ap (λ k. merge_size (plain_kind k) s t) c.in-Stars.is, stars-size c.in-Stars.stars s t)

pub returns-in-Buffers-clause-rows : goal.returns-in-Buffers-clause-rows
returns-in-Buffers-clause-rows c =
    let s = c.requires.states.0 in
    let t = c.requires.states.1 in
    let is = c.requires.states.2 in
    let are = c.requires.states.3 in
    let same = buffers-need-is s t is are c.buffers_of-first.ensures.bits (c.buffers_of-first.ensures.root s is) (c.buffers_of-second.ensures.root t are) in
    omega (arith, c.map_union_need.ensures.need, same, ap (λ k. merge_rows k c.args.heap.now c.args.bits c.args.state c.args.other) c.in-Buffers.is)

pub returns-in-Buffers-clause-few : goal.returns-in-Buffers-clause-few
returns-in-Buffers-clause-few c = λ s t is are.
    let many = c.map_union_need.ensures.entries is.buffers_are.bindings are.buffers_are.bindings (map-is (buffers-at c.requires.bits c.buffers_of-first.ensures.bits c.buffers_of-first.ensures.root s is)) (map-is (buffers-at c.requires.bits c.buffers_of-second.ensures.bits c.buffers_of-second.ensures.root t are)) in
    let one = map-size (form_at c.args.heap.now) (IsGoodVector c.args.heap.now) c.args.bits (AreLinesIn c.args.heap.now c.args.bits) is.buffers s.buffers is.buffers_are in
    let two = map-size (form_at c.args.heap.now) (IsGoodVector c.args.heap.now) c.args.bits (AreLinesIn c.args.heap.now c.args.bits) are.buffers t.buffers are.buffers_are in
    omega (arith, many, one, two, ap (λ k. merge_size (plain_kind k) s t) c.in-Buffers.is)
