use Rattle.std.proofs.Common.{arith, ◌≤◌, sym, subst, [], take, length, Some, append-nil}
use Rattle.std.proofs.lemmas.List.{length-take}
use Rattle.node_heap.specs.Heap.{form_at}
use Rattle.champ_chain.specs.Chain.{AreChainRows, IsEntryOrRows}
use Rattle.champ_chain.proofs.SpotLemmas.{first-row}
use Rattle.champ_chain.proofs.CopyLemmas.{read-live, lone-entry, entry-or-rows, rows-empty}
use Rattle.node_heap.proofs.BuildLemmas.{Builds-hold, Builds-more}
use Rattle.champ_chain.proofs.rows.front_of.Goals as goal

pub row_of-entry-requires : goal.row_of-entry-requires
row_of-entry-requires g c =
    let at = first-row (form_at c.args.heap.now) c.args.from c.requires.rows.0 c.requires.rows.1 in
    (at.first.link, at.next, at.row)

pub hold-requires-clause-live : goal.hold-requires-clause-live
hold-requires-clause-live g c = read-live c.args.heap.now c.args.from c.row_of-entry.result.entry c.row_of-entry.result.next c.requires.rows.0 c.requires.rows.1 c.row_of-entry.ensures

pub returns-then-number-eq1-clause-builds : goal.returns-then-number-eq1-clause-builds
returns-then-number-eq1-clause-builds g c =
    Builds-more 0 c.args.number (Builds-hold c.hold.ensures.holds c.hold.ensures.makes c.hold.ensures.count c.hold.ensures.graph c.hold.ensures.extends) (omega arith) (omega arith)

pub returns-then-number-eq1-clause-rows : goal.returns-then-number-eq1-clause-rows
returns-then-number-eq1-clause-rows g c = λ es rows fits.
    subst (λ n. IsEntryOrRows (form_at c.hold.new.self) c.row_of-entry.result.entry (take n es)) (sym c.if-number-eq1.true)
    (lone-entry c.args.heap.now c.hold.new.self c.args.from c.row_of-entry.result.entry c.row_of-entry.result.next es c.hold.ensures.extends rows c.row_of-entry.ensures)

pub returns-else-number-eq1-clause-builds : goal.returns-else-number-eq1-clause-builds
returns-else-number-eq1-clause-builds g c = c.copied.ensures.builds

pub returns-else-number-eq1-clause-rows : goal.returns-else-number-eq1-clause-rows
returns-else-number-eq1-clause-rows g c = λ es rows fits.
    let two : 2 ≤ length (take c.args.number es) = omega (arith, length-take c.args.number es, fits, c.requires.some, c.if-number-eq1.false) in
    entry-or-rows (form_at c.copied.new.heap) c.copied.result (take c.args.number es) two
    (subst (AreChainRows (form_at c.copied.new.heap) (Some c.copied.result)) (append-nil (take c.args.number es)) (c.copied.ensures.rows es [] rows fits (rows-empty (form_at c.args.heap.now))))
