use Rattle.std.proofs.Common.{arith, ◌≡◌, ◌∙◌, subst, drop, Some}
use Rattle.node_heap.specs.Heap.{form_at}
use Rattle.champ_chain.specs.Chain.{AreChainRows}
use Rattle.champ_chain.proofs.SpotLemmas.{first-row, row-next}
use Rattle.champ_chain.proofs.CopyLemmas.{rows-after, rows-last}
use Rattle.champ_chain.proofs.rows.row_after.Goals as goal

pub row_of-requires : goal.row_of-requires
row_of-requires g c =
    let at = first-row (form_at c.args.heap.now) c.loop-passed.row _ (c.loop-passed.invariant c.requires.0 c.requires.1 c.requires.2) in
    (at.first.link, at.next, at.row)

pub unreachable-requires : goal.unreachable-requires
unreachable-requires g c =
    let rows = c.loop-passed.invariant c.requires.0 c.requires.1 c.requires.2 in
    let at = first-row (form_at c.args.heap.now) c.loop-passed.row _ rows in
    rows-last (form_at c.args.heap.now) c.loop-passed._passed c.loop-passed.row c.requires.0 rows (omega (arith, c.loop-passed-test.true, c.requires.2)) at
    (row-next (form_at c.args.heap.now) c.loop-passed.row _ _ at.next c.row_of.result.next at.row c.row_of.ensures ∙ c.in-None.is)

pub loop-passed-init : goal.loop-passed-init
loop-passed-init g c = λ es rows less. rows

pub loop-passed-preserved : goal.loop-passed-preserved
loop-passed-preserved g c = λ es rows less.
    let kept = c.loop-passed.invariant es rows less in
    let at = first-row (form_at c.args.heap.now) c.loop-passed.row _ kept in
    rows-after (form_at c.args.heap.now) c.loop-passed._passed c.loop-passed.row es kept (omega (arith, c.loop-passed-test.true, less)) c.in-Some.next at
    (row-next (form_at c.args.heap.now) c.loop-passed.row _ _ at.next c.row_of.result.next at.row c.row_of.ensures ∙ c.in-Some.is)

pub returns : goal.returns
returns g c = λ es rows less.
    let all : c.loop-passed._passed ≡ c.args.number = omega arith in
    subst (λ n. AreChainRows (form_at c.args.heap.now) (Some c.loop-passed.row) (drop n es)) all (c.loop-passed.invariant es rows less)
