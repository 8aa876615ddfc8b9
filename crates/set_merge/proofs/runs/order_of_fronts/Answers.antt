use Rattle.std.proofs.Common.{◌∙◌, sym}
use Rattle.node_heap.specs.Heap.{form_at}
use Rattle.champ_chain.proofs.SpotLemmas.{same-order}
use Rattle.set_merge.proofs.RunLemmas.{not-true, some-run, run-some, keyed, front-key}
use Rattle.set_merge.proofs.runs.order_of_fronts.Goals as goal

pub front_of-first-requires : goal.front_of-first-requires
front_of-first-requires g c =
    some-run (form_at c.args.heap.now) c.args.a.now c.requires.first.0 c.requires.first.1 (λ e. not-true c.is_same.result c.if-is_same.false (c.is_same.ensures.1 e))

pub front_of-second-requires : goal.front_of-second-requires
front_of-second-requires g c =
    some-run (form_at c.args.heap.now) c.args.b.now c.requires.second.0 c.requires.second.1 (λ e. not-true c.is_same-2.result c.if-is_same-2.false (c.is_same-2.ensures.1 e))

pub key_of-requires : goal.key_of-requires
key_of-requires g c =
    let F = form_at c.args.heap.now in
    let s = some-run F c.args.a.now c.requires.first.0 c.requires.first.1 (λ e. not-true c.is_same.result c.if-is_same.false (c.is_same.ensures.1 e)) in
    keyed F c.front_of-first.result.entry s.0.key (front-key F c.args.a.now s.0 s.1 c.front_of-first.result.entry s.2 (c.front_of-first.ensures.front s.0 s.1 s.2).0)

pub key_of-requires-2 : goal.key_of-requires-2
key_of-requires-2 g c =
    let F = form_at c.args.heap.now in
    let s = some-run F c.args.b.now c.requires.second.0 c.requires.second.1 (λ e. not-true c.is_same-2.result c.if-is_same-2.false (c.is_same-2.ensures.1 e)) in
    keyed F c.front_of-second.result.entry s.0.key (front-key F c.args.b.now s.0 s.1 c.front_of-second.result.entry s.2 (c.front_of-second.ensures.front s.0 s.1 s.2).0)

pub returns-clause-both : goal.returns-clause-both
returns-clause-both g c = λ e d es ds run run'.
    let F = form_at c.args.heap.now in
    c.cmp.ensures
    ∙ sym (same-order g.T.Ord.cmp F c.front_of-first.result.entry c.front_of-second.result.entry c.key_of.result.now c.key_of-2.result.now e.key d.key c.key_of.ensures c.key_of-2.ensures
    (front-key F c.args.a.now e es c.front_of-first.result.entry run (c.front_of-first.ensures.front e es run).0)
    (front-key F c.args.b.now d ds c.front_of-second.result.entry run' (c.front_of-second.ensures.front d ds run').0))

pub returns-clause-first : goal.returns-clause-first
returns-clause-first g c = λ e es run none.
    absurd (run-some (form_at c.args.heap.now) c.args.b.now c.requires.second.0 c.requires.second.1 (λ same. not-true c.is_same-2.result c.if-is_same-2.false (c.is_same-2.ensures.1 same)) none)

pub returns-clause-second : goal.returns-clause-second
returns-clause-second g c = λ d ds none run.
    absurd (run-some (form_at c.args.heap.now) c.args.a.now c.requires.first.0 c.requires.first.1 (λ same. not-true c.is_same.result c.if-is_same.false (c.is_same.ensures.1 same)) none)
