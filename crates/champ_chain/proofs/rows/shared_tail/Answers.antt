use Rattle.std.proofs.Common.{subst}
use Rattle.node_heap.specs.Heap.{form_at}
use Rattle.champ_chain.specs.Chain.{IsEntryOrRows}
use Rattle.champ_chain.proofs.FrameLemmas.{rows-kept, forms-kept}
use Rattle.champ_chain.proofs.SpotLemmas.{first-row}
use Rattle.champ_chain.proofs.CopyLemmas.{read-live, lone-entry, lone-row, more-rows, entry-or-rows, chain-live}
use Rattle.node_heap.proofs.BuildLemmas.{Builds-hold}
use Rattle.champ_chain.proofs.rows.shared_tail.Goals as goal

pub row_of-row-requires : goal.row_of-row-requires
row_of-row-requires g c =
    let at = first-row (form_at c.args.heap.now) c.args.tail c.requires.tail.0 c.requires.tail.1 in
    (at.first.link, at.next, at.row)

pub hold-requires-clause-live : goal.hold-requires-clause-live
hold-requires-clause-live g c = read-live c.args.heap.now c.args.tail c.row_of-row.result.entry c.row_of-row.result.next c.requires.tail.0 c.requires.tail.1 c.row_of-row.ensures

pub hold-requires-in-Some-clause-live : goal.hold-requires-in-Some-clause-live
hold-requires-in-Some-clause-live g c = chain-live c.args.heap.now c.args.tail c.row_of-row.result.entry c.row_of-row.result.next c.row_of-row.ensures

pub returns-in-None-clause-builds : goal.returns-in-None-clause-builds
returns-in-None-clause-builds g c = Builds-hold c.hold.ensures.holds c.hold.ensures.makes c.hold.ensures.count c.hold.ensures.graph c.hold.ensures.extends

pub returns-in-Some-clause-builds : goal.returns-in-Some-clause-builds
returns-in-Some-clause-builds g c = Builds-hold c.hold-in-Some.ensures.holds c.hold-in-Some.ensures.makes c.hold-in-Some.ensures.count c.hold-in-Some.ensures.graph c.hold-in-Some.ensures.extends

pub returns-in-None-clause-rows : goal.returns-in-None-clause-rows
returns-in-None-clause-rows g c = λ ts rows.
    subst (IsEntryOrRows (form_at c.hold.new.self) c.row_of-row.result.entry)
    (lone-row (form_at c.args.heap.now) c.args.tail c.row_of-row.result.entry c.row_of-row.result.next ts rows c.row_of-row.ensures c.in-None.is)
    (lone-entry c.args.heap.now c.hold.new.self c.args.tail c.row_of-row.result.entry c.row_of-row.result.next ts c.hold.ensures.extends rows c.row_of-row.ensures)

pub returns-in-Some-clause-rows : goal.returns-in-Some-clause-rows
returns-in-Some-clause-rows g c = λ ts rows.
    entry-or-rows (form_at c.hold-in-Some.new.self) c.args.tail ts
    (more-rows (form_at c.args.heap.now) c.args.tail c.row_of-row.result.entry _ c.row_of-row.result.next ts rows c.row_of-row.ensures c.in-Some.is)
    (rows-kept (form_at c.args.heap.now) (form_at c.hold-in-Some.new.self) (forms-kept c.args.heap.now c.hold-in-Some.new.self c.hold-in-Some.ensures.extends) _ ts rows)
