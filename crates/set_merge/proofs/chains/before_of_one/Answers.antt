use Rattle.std.proofs.Common.{◌<◌, subst, arith}
use Rattle.node_heap.specs.Heap.{form_at}
use Rattle.set_merge.specs.Walk.{IsRun}
use Rattle.set_merge.proofs.BaseLemmas.{first-of, run-first, before-none, before-first, before-second}
use Rattle.set_merge.proofs.chains.before_of_one.Goals as goal

pub returns-then-fronts-eq0-2-clause-run : goal.returns-then-fronts-eq0-2-clause-run
returns-then-fronts-eq0-2-clause-run g c = λ es ds ts f.
    before-none g.T.Ord.cmp c.args.keeps (form_at c.args.heap.now) c.args.fronts.now c.args.after.now es ds ts f (form_at c.args.heap.now) c.args.after.now c.if-fronts-eq0.true c.if-fronts-eq0-2.true f.run_after

pub over_if-requires-clause-run : goal.over_if-requires-clause-run
over_if-requires-clause-run g c =
    let f = c.requires.fronts.3.fronts_of in
    run-first (form_at c.args.heap.now) c.args.fronts.now.b c.args.fronts.now.second c.requires.fronts.1 f.second.run (omega (arith, c.if-fronts-eq0-2.false)) f.other_number

pub returns-then-fronts-eq0-clause-run : goal.returns-then-fronts-eq0-clause-run
returns-then-fronts-eq0-clause-run g c = λ es ds ts f.
    let F = form_at c.args.heap.now in
    let n = c.args.fronts.now.second in
    let some : 0 < n = omega (arith, c.if-fronts-eq0-2.false) in
    let s = first-of n ds some f.fronts_of.other_number in
    before-second g.T.Ord.cmp c.args.keeps F c.args.fronts.now c.args.after.now es ds ts f (form_at c.over_if.new.heap) c.over_if.result s.first s.others s.whole c.if-fronts-eq0.true (omega (arith, some, c.requires.short.1))
    (c.over_if.ensures.run s.first s.others ts (subst (IsRun F c.args.fronts.now.b) s.whole f.fronts_of.second.run) f.run_after)

pub over_if-requires-then-fronts-eq0-3-clause-run : goal.over_if-requires-then-fronts-eq0-3-clause-run
over_if-requires-then-fronts-eq0-3-clause-run g c =
    let f = c.requires.fronts.3.fronts_of in
    run-first (form_at c.args.heap.now) c.args.fronts.now.a c.args.fronts.now.first c.requires.fronts.0 f.first.run (omega (arith, c.if-fronts-eq0.false)) f.number

pub returns-then-fronts-eq0-3-clause-run : goal.returns-then-fronts-eq0-3-clause-run
returns-then-fronts-eq0-3-clause-run g c = λ es ds ts f.
    let F = form_at c.args.heap.now in
    let n = c.args.fronts.now.first in
    let some : 0 < n = omega (arith, c.if-fronts-eq0.false) in
    let s = first-of n es some f.fronts_of.number in
    before-first g.T.Ord.cmp c.args.keeps F c.args.fronts.now c.args.after.now es ds ts f (form_at c.over_if-then-fronts-eq0-3.new.heap) c.over_if-then-fronts-eq0-3.result s.first s.others s.whole (omega (arith, some, c.requires.short.0)) c.if-fronts-eq0-3.true
    (c.over_if-then-fronts-eq0-3.ensures.run s.first s.others ts (subst (IsRun F c.args.fronts.now.a) s.whole f.fronts_of.first.run) f.run_after)
