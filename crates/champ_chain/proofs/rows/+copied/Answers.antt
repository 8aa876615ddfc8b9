use Rattle.std.proofs.Common.{arith, ◌+◌, ◌-◌, ◌<◌, ◌≤◌, ◌/◌, ◌++◌, sym, subst, length, length-drop, drop, take, Some}
use Rattle.std.specs.Prelude.{option_to_list}
use Rattle.node_heap.specs.Heap.{form_at}
use Rattle.champ_chain.specs.Chain.{AreChainRows}
use Rattle.champ_chain.proofs.FrameLemmas.{rows-kept, forms-kept}
use Rattle.champ_chain.proofs.SpotLemmas.{first-row}
use Rattle.champ_chain.proofs.CopyLemmas.{copied-row, read-live, copy-one, copied-halves}
use Rattle.node_heap.proofs.BuildLemmas.{Builds-hold, Builds-more, Builds-then, count-one}
use Rattle.champ_chain.proofs.rows.+copied.Goals as goal

pub row_of-entry-requires : goal.row_of-entry-requires
row_of-entry-requires g t c =
    let at = first-row (form_at c.args.heap.now) c.args.from c.requires.rows.0 c.requires.rows.1 in
    (at.first.link, at.next, at.row)

pub hold-requires-clause-live : goal.hold-requires-clause-live
hold-requires-clause-live g t c = read-live c.args.heap.now c.args.from c.row_of-entry.result.entry c.row_of-entry.result.next c.requires.rows.0 c.requires.rows.1 c.row_of-entry.ensures

pub returns-then-number-eq1-clause-builds : goal.returns-then-number-eq1-clause-builds
returns-then-number-eq1-clause-builds g t c =
    let held = Builds-hold c.hold.ensures.holds c.hold.ensures.makes c.hold.ensures.count c.hold.ensures.graph c.hold.ensures.extends in
    Builds-more 0 c.args.number
    (copy-one c.args.heap.now c.hold.new.self c.row_over.new.heap c.row_of-entry.result.entry c.row_over.result (option_to_list c.args.tail) held c.row_over.ensures.builds) (omega arith) c.requires.some

pub returns-then-number-eq1-clause-rows : goal.returns-then-number-eq1-clause-rows
returns-then-number-eq1-clause-rows g t c = λ es ts rows fits rest.
    subst (λ n. AreChainRows (form_at c.row_over.new.heap) (Some c.row_over.result) (take n es ++ ts)) (sym c.if-number-eq1.true)
    (copied-row c.args.heap.now c.row_over.new.heap c.args.from c.row_over.result c.row_of-entry.result.entry c.row_of-entry.result.next c.args.tail es ts
    (returns-then-number-eq1-clause-builds g t c).extends rows c.row_of-entry.ensures c.row_over.ensures.row rest)

pub copied-requires : goal.copied-requires
copied-requires g t c κs within =
    let half : c.args.number / 2 ≤ c.args.number = omega arith in
    let some : 0 < c.args.number / 2 = omega (arith, c.requires.some, c.if-number-eq1.false) in
    let grown = c.copied-last.ensures.builds in (
      omega (arith, c.decreases),
      (
        within,
        (
          some,
          (
            omega (arith, grown.makes.spare_nodes, grown.few_nodes, c.requires.spare),
            (
              λ l. omega (arith, grown.holds l, c.requires.held l, count-one l c.copied-last.result),
              (
                omega (arith, grown.total, c.requires.few),
                (c.requires.rows.0, rows-kept (form_at c.args.heap.now) (form_at c.copied-last.new.heap) (forms-kept c.args.heap.now c.copied-last.new.heap grown.extends) _ c.requires.rows.0 c.requires.rows.1, omega (arith, c.requires.rows.2)),
              ),
            ),
          ),
        ),
      ),
    )

pub returns-clause-builds : goal.returns-clause-builds
returns-clause-builds g t c =
    let whole : (c.args.number - c.args.number / 2) + c.args.number / 2 ≤ c.args.number = omega arith in
    Builds-more 0 c.args.number (Builds-then c.copied-last.ensures.builds c.copied.ensures.builds) (omega arith) whole

pub returns-clause-rows : goal.returns-clause-rows
returns-clause-rows g t c = λ es ts rows fits rest.
    let half : c.args.number / 2 ≤ c.args.number = omega arith in
    let less : c.args.number / 2 < length es = omega (arith, c.requires.some, c.if-number-eq1.false, fits) in
    let more = forms-kept c.args.heap.now c.copied-last.new.heap c.copied-last.ensures.builds.extends in
    let last = c.copied-last.ensures.rows (drop (c.args.number / 2) es) ts (c.row_after-middle.ensures es rows less) (omega (arith, length-drop (c.args.number / 2) es, fits)) rest in
    copied-halves c.args.heap.now c.copied-last.new.heap c.copied.new.heap c.args.from c.row_after-middle.result c.copied-last.result c.copied.result (c.args.number / 2) c.args.number c.args.tail es ts half fits last
    (λ us are. c.copied.ensures.rows es us (rows-kept (form_at c.args.heap.now) (form_at c.copied-last.new.heap) more _ es rows) (omega arith) are)
