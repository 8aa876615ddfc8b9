use Rattle.std.proofs.Common.{arith, ◌≡◌, subst, sym, drop}
use Rattle.node_heap.specs.Heap.{form_at}
use Rattle.set_merge.specs.Walk.{IsRun}
use Rattle.set_merge.proofs.RunLemmas.{split-at}
use Rattle.set_merge.proofs.runs.run_after.Goals as goal

pub front_of-left-requires : goal.front_of-left-requires
front_of-left-requires g c =
    let s = split-at c.loop-passed._passed c.requires.0 (omega (arith, c.loop-passed-test.true, c.requires.2)) in
    (s.first, s.others, subst (IsRun (form_at c.args.heap.now) c.loop-passed.left) s.here (c.loop-passed.invariant c.requires.0 c.requires.1 c.requires.2))

pub loop-passed-init : goal.loop-passed-init
loop-passed-init g c = λ es run fits. run

pub loop-passed-preserved : goal.loop-passed-preserved
loop-passed-preserved g c = λ es run fits.
    let s = split-at c.loop-passed._passed es (omega (arith, c.loop-passed-test.true, fits)) in
    let front = c.front_of-left.ensures.front s.first s.others (subst (IsRun (form_at c.args.heap.now) c.loop-passed.left) s.here (c.loop-passed.invariant es run fits)) in
    subst (IsRun (form_at c.args.heap.now) c.front_of-left.result.rest) (sym s.next) front.1

pub returns : goal.returns
returns g c = λ es run fits.
    let all : c.loop-passed._passed ≡ c.args.number = omega arith in
    subst (λ n. IsRun (form_at c.args.heap.now) c.loop-passed.left (drop n es)) all (c.loop-passed.invariant es run fits)
