use Rattle.std.proofs.Common.{subst}
use Rattle.node_heap.specs.Heap.{form_at}
use Rattle.champ_chain.proofs.SpotLemmas.{first-row}
use Rattle.champ_chain.proofs.CopyLemmas.{more-rows}
use Rattle.set_merge.specs.Walk.{IsRun}
use Rattle.set_merge.proofs.RunLemmas.{lone-run}
use Rattle.set_merge.proofs.chains.closed_place.Goals as goal

pub row_of-row-requires : goal.row_of-row-requires
row_of-row-requires g c =
    let at = first-row (form_at c.args.heap.now) c.in-Node.link c.requires.0 (subst (λ p. IsRun (form_at c.args.heap.now) p c.requires.0) c.in-Node.is c.requires.1) in
    (at.first.link, at.next, at.row)

pub returns-in-Some : goal.returns-in-Some
returns-in-Some g c = λ es run.
    let rows = subst (λ p. IsRun (form_at c.args.heap.now) p es) c.in-Node.is run in
    (more-rows (form_at c.args.heap.now) c.in-Node.link c.row_of-row.result.entry c.in-Some.field-0 c.row_of-row.result.next es rows c.row_of-row.ensures c.in-Some.is, rows)

pub returns-in-None : goal.returns-in-None
returns-in-None g c = λ es run.
    lone-run (form_at c.args.heap.now) c.in-Node.link c.row_of-row.result.entry c.row_of-row.result.next es
    (subst (λ p. IsRun (form_at c.args.heap.now) p es) c.in-Node.is run) c.row_of-row.ensures c.in-None.is
