use Rattle.std.proofs.Common.{arith, ◌≤◌, ap, ◌++◌, take, length, Some, length-append}
use Rattle.std.proofs.lemmas.List.{length-take}
use Rattle.node_heap.specs.Heap.{form_at}
use Rattle.champ_chain.proofs.FrameLemmas.{rows-kept, forms-kept}
use Rattle.champ_chain.proofs.SpotLemmas.{first-row}
use Rattle.champ_chain.proofs.CopyLemmas.{chain-live, entry-or-rows}
use Rattle.node_heap.proofs.BuildLemmas.{Builds-hold, Builds-more, Builds-then}
use Rattle.champ_chain.proofs.rows.over_tail.Goals as goal

pub hold-requires-clause-live : goal.hold-requires-clause-live
hold-requires-clause-live g c =
    let at = first-row (form_at c.args.heap.now) c.args.tail c.requires.tail.0 c.requires.tail.1 in
    chain-live c.args.heap.now c.args.tail at.first.link at.next at.row

pub returns-clause-builds : goal.returns-clause-builds
returns-clause-builds g c =
    let held = Builds-hold c.hold.ensures.holds c.hold.ensures.makes c.hold.ensures.count c.hold.ensures.graph c.hold.ensures.extends in
    Builds-more 0 c.args.number (Builds-then held c.copied.ensures.builds) (omega arith) (omega arith)

pub returns-clause-rows : goal.returns-clause-rows
returns-clause-rows g c = λ es ts rows fits rest.
    let keeps = forms-kept c.args.heap.now c.hold.new.self c.hold.ensures.extends in
    let at = first-row (form_at c.args.heap.now) c.args.tail ts rest in
    let two : 2 ≤ length (take c.args.number es ++ ts) = omega (arith, length-append (take c.args.number es) ts, length-take c.args.number es, fits, c.if-number-eq0.false, ap length at.whole) in
    entry-or-rows (form_at c.copied.new.heap) c.copied.result (take c.args.number es ++ ts) two
    (c.copied.ensures.rows es ts (rows-kept (form_at c.args.heap.now) (form_at c.hold.new.self) keeps (Some c.args.from) es rows) fits (rows-kept (form_at c.args.heap.now) (form_at c.hold.new.self) keeps (Some c.args.tail) ts rest))
