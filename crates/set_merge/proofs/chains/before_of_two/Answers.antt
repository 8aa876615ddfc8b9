use Rattle.std.proofs.Common.{◌+◌, ◌∙◌, sym, subst, [], ◌∷◌, ◌++◌, arith, cond}
use Rattle.node_heap.specs.Heap.{form_at}
use Rattle.champ_chain.proofs.FrameLemmas.{forms-kept}
use Rattle.champ_chain.proofs.SpotLemmas.{same-order}
use Rattle.set_merge.specs.Walk.{IsRun}
use Rattle.set_merge.proofs.RunLemmas.{run-kept, keyed, front-key}
use Rattle.set_merge.proofs.ChainLemmas.{IsOver-then}
use Rattle.set_merge.proofs.BaseLemmas.{first-of, run-first, before-equal, before-less, before-greater}
use Rattle.set_merge.proofs.chains.before_of_two.Goals as goal

pub front_of-x-requires : goal.front_of-x-requires
front_of-x-requires g c =
    let f = c.requires.fronts.3.fronts_of in
    run-first (form_at c.args.heap.now) c.args.fronts.now.a c.args.fronts.now.first c.requires.fronts.0 f.first.run (omega (arith, c.requires.short.0)) f.number

pub front_of-y-requires : goal.front_of-y-requires
front_of-y-requires g c =
    let f = c.requires.fronts.3.fronts_of in
    run-first (form_at c.args.heap.now) c.args.fronts.now.b c.args.fronts.now.second c.requires.fronts.1 f.second.run (omega (arith, c.requires.short.1)) f.other_number

pub key_of-requires : goal.key_of-requires
key_of-requires g c =
    let F = form_at c.args.heap.now in
    let f = c.requires.fronts.3.fronts_of in
    let s = run-first F c.args.fronts.now.a c.args.fronts.now.first c.requires.fronts.0 f.first.run (omega (arith, c.requires.short.0)) f.number in
    keyed F c.front_of-x.result.entry s.0.key (front-key F c.args.fronts.now.a s.0 s.1 c.front_of-x.result.entry s.2 (c.front_of-x.ensures.front s.0 s.1 s.2).0)

pub key_of-requires-2 : goal.key_of-requires-2
key_of-requires-2 g c =
    let F = form_at c.args.heap.now in
    let f = c.requires.fronts.3.fronts_of in
    let s = run-first F c.args.fronts.now.b c.args.fronts.now.second c.requires.fronts.1 f.second.run (omega (arith, c.requires.short.1)) f.other_number in
    keyed F c.front_of-y.result.entry s.0.key (front-key F c.args.fronts.now.b s.0 s.1 c.front_of-y.result.entry s.2 (c.front_of-y.ensures.front s.0 s.1 s.2).0)

pub over_if-made-requires-clause-run : goal.over_if-made-requires-clause-run
over_if-made-requires-clause-run g c =
    let f = c.requires.fronts.3.fronts_of in
    run-first (form_at c.args.heap.now) c.args.fronts.now.b c.args.fronts.now.second c.requires.fronts.1 f.second.run (omega (arith, c.requires.short.1)) f.other_number

pub over_if-requires-clause-run : goal.over_if-requires-clause-run
over_if-requires-clause-run g c =
    let f = c.requires.fronts.3.fronts_of in
    let F = form_at c.args.heap.now in
    let G = form_at c.over_if-made.new.heap in
    let s = run-first F c.args.fronts.now.a c.args.fronts.now.first c.requires.fronts.0 f.first.run (omega (arith, c.requires.short.0)) f.number in
    (s.0, s.1, run-kept F G (forms-kept c.args.heap.now c.over_if-made.new.heap c.over_if-made.ensures.over.builds.extends) c.args.fronts.now.a _ s.2)

pub over_if-requires-clause-after : goal.over_if-requires-clause-after
over_if-requires-clause-after g c =
    let f = c.requires.fronts.3 in
    let s = run-first (form_at c.args.heap.now) c.args.fronts.now.b c.args.fronts.now.second c.requires.fronts.1 f.fronts_of.second.run (omega (arith, c.requires.short.1)) f.fronts_of.other_number in
    (cond c.args.keeps.second (s.0 ∷ []) [] ++ c.requires.fronts.2, c.over_if-made.ensures.run s.0 s.1 c.requires.fronts.2 s.2 f.run_after)

pub over_if-requires-in-Equal-clause-run : goal.over_if-requires-in-Equal-clause-run
over_if-requires-in-Equal-clause-run g c =
    let f = c.requires.fronts.3.fronts_of in
    run-first (form_at c.args.heap.now) c.args.fronts.now.a c.args.fronts.now.first c.requires.fronts.0 f.first.run (omega (arith, c.requires.short.0)) f.number

pub over_if-made-requires-in-Greater-clause-run : goal.over_if-made-requires-in-Greater-clause-run
over_if-made-requires-in-Greater-clause-run g c =
    let f = c.requires.fronts.3.fronts_of in
    run-first (form_at c.args.heap.now) c.args.fronts.now.a c.args.fronts.now.first c.requires.fronts.0 f.first.run (omega (arith, c.requires.short.0)) f.number

pub over_if-requires-in-Greater-clause-run : goal.over_if-requires-in-Greater-clause-run
over_if-requires-in-Greater-clause-run g c =
    let f = c.requires.fronts.3.fronts_of in
    let F = form_at c.args.heap.now in
    let G = form_at c.over_if-made-in-Greater.new.heap in
    let s = run-first F c.args.fronts.now.b c.args.fronts.now.second c.requires.fronts.1 f.second.run (omega (arith, c.requires.short.1)) f.other_number in
    (s.0, s.1, run-kept F G (forms-kept c.args.heap.now c.over_if-made-in-Greater.new.heap c.over_if-made-in-Greater.ensures.over.builds.extends) c.args.fronts.now.b _ s.2)

pub over_if-requires-in-Greater-clause-after : goal.over_if-requires-in-Greater-clause-after
over_if-requires-in-Greater-clause-after g c =
    let f = c.requires.fronts.3 in
    let s = run-first (form_at c.args.heap.now) c.args.fronts.now.a c.args.fronts.now.first c.requires.fronts.0 f.fronts_of.first.run (omega (arith, c.requires.short.0)) f.fronts_of.number in
    (cond c.args.keeps.first (s.0 ∷ []) [] ++ c.requires.fronts.2, c.over_if-made-in-Greater.ensures.run s.0 s.1 c.requires.fronts.2 s.2 f.run_after)

pub returns-in-Less-clause-over : goal.returns-in-Less-clause-over
returns-in-Less-clause-over g c =
    IsOver-then c.args.heap.now c.over_if-made.new.heap c.over_if.new.heap c.args.after.now c.over_if-made.result c.over_if.result 1 1 (c.args.fronts.now.first + c.args.fronts.now.second)
    c.over_if-made.ensures.over c.over_if.ensures.over (omega (arith, c.requires.short.0, c.requires.short.1))

pub returns-in-Greater-clause-over : goal.returns-in-Greater-clause-over
returns-in-Greater-clause-over g c =
    IsOver-then c.args.heap.now c.over_if-made-in-Greater.new.heap c.over_if-in-Greater.new.heap c.args.after.now c.over_if-made-in-Greater.result c.over_if-in-Greater.result 1 1 (c.args.fronts.now.first + c.args.fronts.now.second)
    c.over_if-made-in-Greater.ensures.over c.over_if-in-Greater.ensures.over (omega (arith, c.requires.short.0, c.requires.short.1))

pub returns-in-Less-clause-run : goal.returns-in-Less-clause-run
returns-in-Less-clause-run g c = λ es ds ts f.
    let F = form_at c.args.heap.now in
    let G = form_at c.over_if-made.new.heap in
    let fronts = c.args.fronts.now in
    let s = first-of fronts.first es (omega (arith, c.requires.short.0)) f.fronts_of.number in
    let s' = first-of fronts.second ds (omega (arith, c.requires.short.1)) f.fronts_of.other_number in
    let run = subst (IsRun F fronts.a) s.whole f.fronts_of.first.run in
    let run' = subst (IsRun F fronts.b) s'.whole f.fronts_of.second.run in
    let order =
    same-order g.T.Ord.cmp F c.front_of-x.result.entry c.front_of-y.result.entry c.key_of.result.now c.key_of-2.result.now s.first.key s'.first.key c.key_of.ensures c.key_of-2.ensures
    (front-key F fronts.a s.first s.others c.front_of-x.result.entry run (c.front_of-x.ensures.front s.first s.others run).0)
    (front-key F fronts.b s'.first s'.others c.front_of-y.result.entry run' (c.front_of-y.ensures.front s'.first s'.others run').0) in
    let made = c.over_if-made.ensures.run s'.first s'.others ts run' f.run_after in
    let kept = run-kept F G (forms-kept c.args.heap.now c.over_if-made.new.heap c.over_if-made.ensures.over.builds.extends) fronts.a _ run in
    before-less g.T.Ord.cmp c.args.keeps F fronts c.args.after.now es ds ts f (form_at c.over_if.new.heap) c.over_if.result g.met.T.Ord.total s.first s'.first s.others s'.others s.whole s'.whole c.requires.short.0 c.requires.short.1
    (order ∙ sym {b = g.T.Ord.cmp c.key_of.result.now c.key_of-2.result.now} c.in-Less.ensures) (c.over_if.ensures.run s.first s.others _ kept made)

pub returns-in-Equal-clause-run : goal.returns-in-Equal-clause-run
returns-in-Equal-clause-run g c = λ es ds ts f.
    let F = form_at c.args.heap.now in
    let fronts = c.args.fronts.now in
    let s = first-of fronts.first es (omega (arith, c.requires.short.0)) f.fronts_of.number in
    let s' = first-of fronts.second ds (omega (arith, c.requires.short.1)) f.fronts_of.other_number in
    let run = subst (IsRun F fronts.a) s.whole f.fronts_of.first.run in
    let run' = subst (IsRun F fronts.b) s'.whole f.fronts_of.second.run in
    let order =
    same-order g.T.Ord.cmp F c.front_of-x.result.entry c.front_of-y.result.entry c.key_of.result.now c.key_of-2.result.now s.first.key s'.first.key c.key_of.ensures c.key_of-2.ensures
    (front-key F fronts.a s.first s.others c.front_of-x.result.entry run (c.front_of-x.ensures.front s.first s.others run).0)
    (front-key F fronts.b s'.first s'.others c.front_of-y.result.entry run' (c.front_of-y.ensures.front s'.first s'.others run').0) in
    before-equal g.T.Ord.cmp c.args.keeps F fronts c.args.after.now es ds ts f (form_at c.over_if-in-Equal.new.heap) c.over_if-in-Equal.result g.met.T.Ord.total s.first s'.first s.others s'.others s.whole s'.whole c.requires.short.0 c.requires.short.1
    (order ∙ sym {b = g.T.Ord.cmp c.key_of.result.now c.key_of-2.result.now} c.in-Equal.ensures) (c.over_if-in-Equal.ensures.run s.first s.others ts run f.run_after)

pub returns-in-Greater-clause-run : goal.returns-in-Greater-clause-run
returns-in-Greater-clause-run g c = λ es ds ts f.
    let F = form_at c.args.heap.now in
    let G = form_at c.over_if-made-in-Greater.new.heap in
    let fronts = c.args.fronts.now in
    let s = first-of fronts.first es (omega (arith, c.requires.short.0)) f.fronts_of.number in
    let s' = first-of fronts.second ds (omega (arith, c.requires.short.1)) f.fronts_of.other_number in
    let run = subst (IsRun F fronts.a) s.whole f.fronts_of.first.run in
    let run' = subst (IsRun F fronts.b) s'.whole f.fronts_of.second.run in
    let order =
    same-order g.T.Ord.cmp F c.front_of-x.result.entry c.front_of-y.result.entry c.key_of.result.now c.key_of-2.result.now s.first.key s'.first.key c.key_of.ensures c.key_of-2.ensures
    (front-key F fronts.a s.first s.others c.front_of-x.result.entry run (c.front_of-x.ensures.front s.first s.others run).0)
    (front-key F fronts.b s'.first s'.others c.front_of-y.result.entry run' (c.front_of-y.ensures.front s'.first s'.others run').0) in
    let made = c.over_if-made-in-Greater.ensures.run s.first s.others ts run f.run_after in
    let kept = run-kept F G (forms-kept c.args.heap.now c.over_if-made-in-Greater.new.heap c.over_if-made-in-Greater.ensures.over.builds.extends) fronts.b _ run' in
    before-greater g.T.Ord.cmp c.args.keeps F fronts c.args.after.now es ds ts f (form_at c.over_if-in-Greater.new.heap) c.over_if-in-Greater.result g.met.T.Ord.total s.first s'.first s.others s'.others s.whole s'.whole c.requires.short.0 c.requires.short.1
    (order ∙ sym {b = g.T.Ord.cmp c.key_of.result.now c.key_of-2.result.now} c.in-Greater.ensures) (c.over_if-in-Greater.ensures.run s'.first s'.others _ kept made)
