use Rattle.std.proofs.Common.{arith, ap, subst, drop, length, length-drop}
use Rattle.node_heap.specs.Heap.{form_at}
use Rattle.champ_chain.specs.Chain.{AreChainRows}
use Rattle.champ_chain.proofs.FrameLemmas.{rows-live}
use Rattle.champ_chain.proofs.SpotLemmas.{first-row, row-next, rows-none}
use Rattle.champ_chain.proofs.CopyLemmas.{rows-next}
use Rattle.champ_chain.proofs.rows.rows_from.Goals as goal

pub row_of-row-requires : goal.row_of-row-requires
row_of-row-requires g c =
    let rows = (c.loop-passed.invariant c.requires.0 c.requires.1).0 in
    let at = first-row (form_at c.args.heap.now) c.in-Some.link _ (subst (λ r. AreChainRows (form_at c.args.heap.now) r (drop c.loop-passed.passed c.requires.0)) c.in-Some.is rows) in
    (at.first.link, at.next, at.row)

pub loop-passed-init : goal.loop-passed-init
loop-passed-init g c = λ es rows. (rows, omega arith)

pub loop-passed-preserved : goal.loop-passed-preserved
loop-passed-preserved g c = λ es rows.
    let F = form_at c.args.heap.now in
    let at = first-row F c.in-Some.link (drop c.loop-passed.passed es) (subst (λ r. AreChainRows F r (drop c.loop-passed.passed es)) c.in-Some.is (c.loop-passed.invariant es rows).0) in
    let same = row-next F c.in-Some.link at.first.link c.row_of-row.result.entry at.next c.row_of-row.result.next at.row c.row_of-row.ensures in
    (rows-next F c.loop-passed.passed c.in-Some.link es c.row_of-row.result.next at same, omega (arith, length-drop c.loop-passed.passed es, ap length at.whole))

pub returns-in-None-clause-number : goal.returns-in-None-clause-number
returns-in-None-clause-number g c = λ es rows.
    let kept = c.loop-passed.invariant es rows in
    let rest = rows-none (form_at c.args.heap.now) (drop c.loop-passed.passed es) (subst (λ r. AreChainRows (form_at c.args.heap.now) r (drop c.loop-passed.passed es)) c.in-None.is kept.0) in
    omega (arith, kept.1, length-drop c.loop-passed.passed es, ap length rest)

pub returns-in-None-clause-few : goal.returns-in-None-clause-few
returns-in-None-clause-few g c = omega (arith, c.loop-passed-test.true, c.live-most.ensures.value, c.live-most.ensures.graph.few_rows)

pub returns-clause-number : goal.returns-clause-number
returns-clause-number g c = λ es rows.
    let fits = rows-live c.args.heap.now c.live-most.ensures.graph es c.args.first rows in
    omega (arith, fits, c.live-most.ensures.value, c.loop-passed-test.false, (c.loop-passed.invariant es rows).1)

pub returns-clause-few : goal.returns-clause-few
returns-clause-few g c = omega (arith, c.live-most.ensures.value, c.live-most.ensures.graph.few_rows)
