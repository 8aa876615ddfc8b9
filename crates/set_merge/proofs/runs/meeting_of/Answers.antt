use Rattle.std.proofs.Common.{◌≡◌, ◌≢◌, arith, drop, true, inl, inr}
use Rattle.std.proofs.lemmas.Bool.{cases_Bool}
use Rattle.set_merge.proofs.MeetingLemmas.{turn-none, less-run, less-room, less-shorter, less-more, greater-run, greater-room, greater-shorter, greater-more, equal-left_run, equal-right_run, equal-left_room, equal-right_room, equal-shorter, equal-shorter_right, equal-more, turn-end, turn-end_right, turn-few, turn-waits}
use Rattle.set_merge.proofs.runs.meeting_of.Goals as goal

pub order_of_fronts-requires-clause-first : goal.order_of_fronts-requires-clause-first
order_of_fronts-requires-clause-first g c =
    let now = c.loop-right.invariant c.requires.first.0 c.requires.second.0 c.requires.first.1 c.requires.second.1 in
    (drop c.loop-right.first c.requires.first.0, now.left_run)

pub order_of_fronts-requires-clause-second : goal.order_of_fronts-requires-clause-second
order_of_fronts-requires-clause-second g c =
    let now = c.loop-right.invariant c.requires.first.0 c.requires.second.0 c.requires.first.1 c.requires.second.1 in
    (drop c.loop-right.second c.requires.second.0, now.right_run)

pub loop-right-init : goal.loop-right-init
loop-right-init g c = λ es ds first second.
    turn-none g.T.Ord.cmp g.met.T.Ord.total c.args.heap.now c.rows_form_a_graph.ensures c.args.a.now c.args.b.now es ds first second

pub front_of-left-requires : goal.front_of-left-requires
front_of-left-requires g c =
    let other : c.loop-right.left ≢ c.loop-right.right = λ same. let here : c.is_same.result ≡ true = c.is_same.ensures.1 same in let test = c.loop-right-test.true in cc in
    less-run g.T.Ord.cmp g.met.T.Ord.total c.args.heap.now c.rows_form_a_graph.ensures c.args.a.now c.args.b.now c.requires.first.0 c.requires.second.0 c.requires.first.1 c.requires.second.1 c.loop-right.left c.loop-right.right c.loop-right.first c.loop-right.second (c.loop-right.invariant c.requires.first.0 c.requires.second.0 c.requires.first.1 c.requires.second.1) other c.in-Less.ensures.both c.in-Less.ensures.second

pub overflow_add-first : goal.overflow_add-first
overflow_add-first g c =
    let other : c.loop-right.left ≢ c.loop-right.right = λ same. let here : c.is_same.result ≡ true = c.is_same.ensures.1 same in let test = c.loop-right-test.true in cc in
    let room = less-room g.T.Ord.cmp g.met.T.Ord.total c.args.heap.now c.rows_form_a_graph.ensures c.args.a.now c.args.b.now c.requires.first.0 c.requires.second.0 c.requires.first.1 c.requires.second.1 c.loop-right.left c.loop-right.right c.loop-right.first c.loop-right.second (c.loop-right.invariant c.requires.first.0 c.requires.second.0 c.requires.first.1 c.requires.second.1) other c.in-Less.ensures.both c.in-Less.ensures.second in
    omega (arith, room)

pub loop-right-smaller-in-Less : goal.loop-right-smaller-in-Less
loop-right-smaller-in-Less g c =
    let other : c.loop-right.left ≢ c.loop-right.right = λ same. let here : c.is_same.result ≡ true = c.is_same.ensures.1 same in let test = c.loop-right-test.true in cc in
    let shorter = less-shorter g.T.Ord.cmp g.met.T.Ord.total c.args.heap.now c.rows_form_a_graph.ensures c.args.a.now c.args.b.now c.requires.first.0 c.requires.second.0 c.requires.first.1 c.requires.second.1 c.loop-right.left c.loop-right.right c.loop-right.first c.loop-right.second (c.loop-right.invariant c.requires.first.0 c.requires.second.0 c.requires.first.1 c.requires.second.1) other c.in-Less.ensures.both c.in-Less.ensures.second c.front_of-left.result.rest c.front_of-left.ensures.next in
    omega (arith, shorter)

pub loop-right-preserved-in-Less : goal.loop-right-preserved-in-Less
loop-right-preserved-in-Less g c = λ es ds first second.
    let other : c.loop-right.left ≢ c.loop-right.right = λ same. let here : c.is_same.result ≡ true = c.is_same.ensures.1 same in let test = c.loop-right-test.true in cc in
    less-more g.T.Ord.cmp g.met.T.Ord.total c.args.heap.now c.rows_form_a_graph.ensures c.args.a.now c.args.b.now es ds first second c.loop-right.left c.loop-right.right c.loop-right.first c.loop-right.second (c.loop-right.invariant es ds first second) other c.in-Less.ensures.both c.in-Less.ensures.second c.front_of-left.result.rest c.front_of-left.result.entry c.front_of-left.ensures.next c.front_of-left.ensures.front

pub front_of-left-requires-in-Equal : goal.front_of-left-requires-in-Equal
front_of-left-requires-in-Equal g c =
    let other : c.loop-right.left ≢ c.loop-right.right = λ same. let here : c.is_same.result ≡ true = c.is_same.ensures.1 same in let test = c.loop-right-test.true in cc in
    equal-left_run g.T.Ord.cmp g.met.T.Ord.total c.args.heap.now c.rows_form_a_graph.ensures c.args.a.now c.args.b.now c.requires.first.0 c.requires.second.0 c.requires.first.1 c.requires.second.1 c.loop-right.left c.loop-right.right c.loop-right.first c.loop-right.second (c.loop-right.invariant c.requires.first.0 c.requires.second.0 c.requires.first.1 c.requires.second.1) other c.in-Equal.ensures.both c.in-Equal.ensures.first c.in-Equal.ensures.second

pub front_of-right-requires : goal.front_of-right-requires
front_of-right-requires g c =
    let other : c.loop-right.left ≢ c.loop-right.right = λ same. let here : c.is_same.result ≡ true = c.is_same.ensures.1 same in let test = c.loop-right-test.true in cc in
    equal-right_run g.T.Ord.cmp g.met.T.Ord.total c.args.heap.now c.rows_form_a_graph.ensures c.args.a.now c.args.b.now c.requires.first.0 c.requires.second.0 c.requires.first.1 c.requires.second.1 c.loop-right.left c.loop-right.right c.loop-right.first c.loop-right.second (c.loop-right.invariant c.requires.first.0 c.requires.second.0 c.requires.first.1 c.requires.second.1) other c.in-Equal.ensures.both c.in-Equal.ensures.first c.in-Equal.ensures.second

pub overflow_add-first-in-Equal : goal.overflow_add-first-in-Equal
overflow_add-first-in-Equal g c =
    let other : c.loop-right.left ≢ c.loop-right.right = λ same. let here : c.is_same.result ≡ true = c.is_same.ensures.1 same in let test = c.loop-right-test.true in cc in
    let room = equal-left_room g.T.Ord.cmp g.met.T.Ord.total c.args.heap.now c.rows_form_a_graph.ensures c.args.a.now c.args.b.now c.requires.first.0 c.requires.second.0 c.requires.first.1 c.requires.second.1 c.loop-right.left c.loop-right.right c.loop-right.first c.loop-right.second (c.loop-right.invariant c.requires.first.0 c.requires.second.0 c.requires.first.1 c.requires.second.1) other c.in-Equal.ensures.both c.in-Equal.ensures.first c.in-Equal.ensures.second in
    omega (arith, room)

pub overflow_add-second : goal.overflow_add-second
overflow_add-second g c =
    let other : c.loop-right.left ≢ c.loop-right.right = λ same. let here : c.is_same.result ≡ true = c.is_same.ensures.1 same in let test = c.loop-right-test.true in cc in
    let room = equal-right_room g.T.Ord.cmp g.met.T.Ord.total c.args.heap.now c.rows_form_a_graph.ensures c.args.a.now c.args.b.now c.requires.first.0 c.requires.second.0 c.requires.first.1 c.requires.second.1 c.loop-right.left c.loop-right.right c.loop-right.first c.loop-right.second (c.loop-right.invariant c.requires.first.0 c.requires.second.0 c.requires.first.1 c.requires.second.1) other c.in-Equal.ensures.both c.in-Equal.ensures.first c.in-Equal.ensures.second in
    omega (arith, room)

pub loop-right-smaller-in-Equal : goal.loop-right-smaller-in-Equal
loop-right-smaller-in-Equal g c =
    let other : c.loop-right.left ≢ c.loop-right.right = λ same. let here : c.is_same.result ≡ true = c.is_same.ensures.1 same in let test = c.loop-right-test.true in cc in
    let shorter = equal-shorter g.T.Ord.cmp g.met.T.Ord.total c.args.heap.now c.rows_form_a_graph.ensures c.args.a.now c.args.b.now c.requires.first.0 c.requires.second.0 c.requires.first.1 c.requires.second.1 c.loop-right.left c.loop-right.right c.loop-right.first c.loop-right.second (c.loop-right.invariant c.requires.first.0 c.requires.second.0 c.requires.first.1 c.requires.second.1) other c.in-Equal.ensures.both c.in-Equal.ensures.first c.in-Equal.ensures.second c.front_of-left-in-Equal.result.rest c.front_of-left-in-Equal.ensures.next in
    let shorter' = equal-shorter_right g.T.Ord.cmp g.met.T.Ord.total c.args.heap.now c.rows_form_a_graph.ensures c.args.a.now c.args.b.now c.requires.first.0 c.requires.second.0 c.requires.first.1 c.requires.second.1 c.loop-right.left c.loop-right.right c.loop-right.first c.loop-right.second (c.loop-right.invariant c.requires.first.0 c.requires.second.0 c.requires.first.1 c.requires.second.1) other c.in-Equal.ensures.both c.in-Equal.ensures.first c.in-Equal.ensures.second c.front_of-right.result.rest c.front_of-right.ensures.next in
    omega (arith, shorter, shorter')

pub loop-right-preserved-in-Equal : goal.loop-right-preserved-in-Equal
loop-right-preserved-in-Equal g c = λ es ds first second.
    let other : c.loop-right.left ≢ c.loop-right.right = λ same. let here : c.is_same.result ≡ true = c.is_same.ensures.1 same in let test = c.loop-right-test.true in cc in
    equal-more g.T.Ord.cmp g.met.T.Ord.total c.args.heap.now c.rows_form_a_graph.ensures c.args.a.now c.args.b.now es ds first second c.loop-right.left c.loop-right.right c.loop-right.first c.loop-right.second (c.loop-right.invariant es ds first second) other c.in-Equal.ensures.both c.in-Equal.ensures.first c.in-Equal.ensures.second c.front_of-left-in-Equal.result.rest c.front_of-right.result.rest c.front_of-left-in-Equal.result.entry c.front_of-right.result.entry c.front_of-left-in-Equal.ensures.next c.front_of-right.ensures.next c.front_of-left-in-Equal.ensures.front c.front_of-right.ensures.front

pub front_of-right-requires-in-Greater : goal.front_of-right-requires-in-Greater
front_of-right-requires-in-Greater g c =
    let other : c.loop-right.left ≢ c.loop-right.right = λ same. let here : c.is_same.result ≡ true = c.is_same.ensures.1 same in let test = c.loop-right-test.true in cc in
    greater-run g.T.Ord.cmp g.met.T.Ord.total c.args.heap.now c.rows_form_a_graph.ensures c.args.a.now c.args.b.now c.requires.first.0 c.requires.second.0 c.requires.first.1 c.requires.second.1 c.loop-right.left c.loop-right.right c.loop-right.first c.loop-right.second (c.loop-right.invariant c.requires.first.0 c.requires.second.0 c.requires.first.1 c.requires.second.1) other c.in-Greater.ensures.both c.in-Greater.ensures.first

pub overflow_add-second-in-Greater : goal.overflow_add-second-in-Greater
overflow_add-second-in-Greater g c =
    let other : c.loop-right.left ≢ c.loop-right.right = λ same. let here : c.is_same.result ≡ true = c.is_same.ensures.1 same in let test = c.loop-right-test.true in cc in
    let room = greater-room g.T.Ord.cmp g.met.T.Ord.total c.args.heap.now c.rows_form_a_graph.ensures c.args.a.now c.args.b.now c.requires.first.0 c.requires.second.0 c.requires.first.1 c.requires.second.1 c.loop-right.left c.loop-right.right c.loop-right.first c.loop-right.second (c.loop-right.invariant c.requires.first.0 c.requires.second.0 c.requires.first.1 c.requires.second.1) other c.in-Greater.ensures.both c.in-Greater.ensures.first in
    omega (arith, room)

pub loop-right-smaller : goal.loop-right-smaller
loop-right-smaller g c =
    let other : c.loop-right.left ≢ c.loop-right.right = λ same. let here : c.is_same.result ≡ true = c.is_same.ensures.1 same in let test = c.loop-right-test.true in cc in
    let shorter = greater-shorter g.T.Ord.cmp g.met.T.Ord.total c.args.heap.now c.rows_form_a_graph.ensures c.args.a.now c.args.b.now c.requires.first.0 c.requires.second.0 c.requires.first.1 c.requires.second.1 c.loop-right.left c.loop-right.right c.loop-right.first c.loop-right.second (c.loop-right.invariant c.requires.first.0 c.requires.second.0 c.requires.first.1 c.requires.second.1) other c.in-Greater.ensures.both c.in-Greater.ensures.first c.front_of-right-in-Greater.result.rest c.front_of-right-in-Greater.ensures.next in
    omega (arith, shorter)

pub loop-right-preserved : goal.loop-right-preserved
loop-right-preserved g c = λ es ds first second.
    let other : c.loop-right.left ≢ c.loop-right.right = λ same. let here : c.is_same.result ≡ true = c.is_same.ensures.1 same in let test = c.loop-right-test.true in cc in
    greater-more g.T.Ord.cmp g.met.T.Ord.total c.args.heap.now c.rows_form_a_graph.ensures c.args.a.now c.args.b.now es ds first second c.loop-right.left c.loop-right.right c.loop-right.first c.loop-right.second (c.loop-right.invariant es ds first second) other c.in-Greater.ensures.both c.in-Greater.ensures.first c.front_of-right-in-Greater.result.rest c.front_of-right-in-Greater.result.entry c.front_of-right-in-Greater.ensures.next c.front_of-right-in-Greater.ensures.front

pub returns-clause-meeting : goal.returns-clause-meeting
returns-clause-meeting g c = λ es ds first second.
    let same : c.loop-right.left ≡ c.loop-right.right = c.is_same.ensures.0 (elim (cases_Bool c.is_same.result) [ inl here ↦ here | inr absent ↦ absurd (let test = c.loop-right-test.false in cc) ]) in
    let now = c.loop-right.invariant es ds first second in
    let end = turn-end g.T.Ord.cmp g.met.T.Ord.total c.args.heap.now c.rows_form_a_graph.ensures c.args.a.now c.args.b.now es ds first second c.loop-right.left c.loop-right.right c.loop-right.first c.loop-right.second now same in
    (now.left_few, now.right_few, end.0, end.1)

pub returns-clause-first : goal.returns-clause-first
returns-clause-first g c =
    let same : c.loop-right.left ≡ c.loop-right.right = c.is_same.ensures.0 (elim (cases_Bool c.is_same.result) [ inl here ↦ here | inr absent ↦ absurd (let test = c.loop-right-test.false in cc) ]) in
    (turn-end g.T.Ord.cmp g.met.T.Ord.total c.args.heap.now c.rows_form_a_graph.ensures c.args.a.now c.args.b.now c.requires.first.0 c.requires.second.0 c.requires.first.1 c.requires.second.1 c.loop-right.left c.loop-right.right c.loop-right.first c.loop-right.second (c.loop-right.invariant c.requires.first.0 c.requires.second.0 c.requires.first.1 c.requires.second.1) same).2

pub returns-clause-second : goal.returns-clause-second
returns-clause-second g c =
    let same : c.loop-right.left ≡ c.loop-right.right = c.is_same.ensures.0 (elim (cases_Bool c.is_same.result) [ inl here ↦ here | inr absent ↦ absurd (let test = c.loop-right-test.false in cc) ]) in
    turn-end_right g.T.Ord.cmp g.met.T.Ord.total c.args.heap.now c.rows_form_a_graph.ensures c.args.a.now c.args.b.now c.requires.first.0 c.requires.second.0 c.requires.first.1 c.requires.second.1 c.loop-right.left c.loop-right.right c.loop-right.first c.loop-right.second (c.loop-right.invariant c.requires.first.0 c.requires.second.0 c.requires.first.1 c.requires.second.1) same

pub returns-clause-few : goal.returns-clause-few
returns-clause-few g c =
    turn-few g.T.Ord.cmp g.met.T.Ord.total c.args.heap.now c.rows_form_a_graph.ensures c.args.a.now c.args.b.now c.requires.first.0 c.requires.second.0 c.requires.first.1 c.requires.second.1 c.loop-right.left c.loop-right.right c.loop-right.first c.loop-right.second (c.loop-right.invariant c.requires.first.0 c.requires.second.0 c.requires.first.1 c.requires.second.1)

pub returns-clause-rows : goal.returns-clause-rows
returns-clause-rows g c = λ some.
    let same : c.loop-right.left ≡ c.loop-right.right = c.is_same.ensures.0 (elim (cases_Bool c.is_same.result) [ inl here ↦ here | inr absent ↦ absurd (let test = c.loop-right-test.false in cc) ]) in
    turn-waits g.T.Ord.cmp g.met.T.Ord.total c.args.heap.now c.rows_form_a_graph.ensures c.args.a.now c.args.b.now c.requires.first.0 c.requires.second.0 c.requires.first.1 c.requires.second.1 c.loop-right.left c.loop-right.right c.loop-right.first c.loop-right.second (c.loop-right.invariant c.requires.first.0 c.requires.second.0 c.requires.first.1 c.requires.second.1) same some
