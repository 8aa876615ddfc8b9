use Rattle.std.proofs.Common.{◌≡◌, sym, subst, Some, None, [], ◌∷◌, arith}
use Rattle.node_heap.specs.Heap.{form_at}
use Rattle.node_heap.specs.Calls.{Builds}
use Rattle.node_heap.proofs.BuildLemmas.{Builds-hold, Builds-then, Builds-more}
use Rattle.node_heap.proofs.Frames.{Extends-trans}
use Rattle.champ_chain.specs.Entry.{entry}
use Rattle.champ_chain.specs.Chain.{AreChainRows}
use Rattle.champ_chain.proofs.FrameLemmas.{forms-kept, key-kept}
use Rattle.champ_chain.proofs.SpotLemmas.{first-row}
use Rattle.champ_chain.proofs.CopyLemmas.{chain-live, chain-form, rows-over, rows-empty}
use Rattle.set_merge.specs.declared.merged.Merged.TheVariants.{Old}
use Rattle.set_merge.specs.Walk.{IsRun}
use Rattle.set_merge.specs.Chains.{waiting}
use Rattle.set_merge.proofs.chains.old_rows_of.Goals as goal

pub hold-requires-in-Node-clause-live : goal.hold-requires-in-Node-clause-live
hold-requires-in-Node-clause-live g c =
    let at = first-row (form_at c.args.heap.now) c.in-Node.row c.requires.run.0 (subst (λ p. IsRun (form_at c.args.heap.now) p c.requires.run.0) c.in-Node.is c.requires.run.1) in
    chain-live c.args.heap.now c.in-Node.row at.first.link at.next at.row

pub returns-in-Empty-clause-rows : goal.returns-in-Empty-clause-rows
returns-in-Empty-clause-rows g c = λ es run.
    let none : es ≡ [] = subst (λ p. IsRun (form_at c.args.heap.now) p es) c.in-Empty.is run in
    subst (AreChainRows (form_at c.args.heap.now) None) (sym none) (rows-empty (form_at c.args.heap.now))

pub returns-in-Entry-clause-builds : goal.returns-in-Entry-clause-builds
returns-in-Entry-clause-builds g c =
    let held = Builds-hold c.hold.ensures.holds c.hold.ensures.makes c.hold.ensures.count c.hold.ensures.graph c.hold.ensures.extends in
    subst (λ p. Builds c.args.heap.now c.row_over.new.heap [] (c.row_over.result ∷ []) 0 (waiting (Old p))) (sym c.in-Entry.is)
    (Builds-more 0 1 (Builds-then held c.row_over.ensures.builds) (omega arith) (omega arith))

pub returns-in-Entry-clause-rows : goal.returns-in-Entry-clause-rows
returns-in-Entry-clause-rows g c = λ es run.
    let lone = subst (λ p. IsRun (form_at c.args.heap.now) p es) c.in-Entry.is run in
    let G = form_at c.row_over.new.heap in
    let more = Extends-trans c.hold.ensures.extends c.row_over.ensures.builds.extends in
    subst (AreChainRows G (Some c.row_over.result)) (sym lone.1)
    (rows-over G c.row_over.result (entry lone.0 c.in-Entry.last) None [] (chain-form c.row_over.new.heap c.row_over.result (c.in-Entry.last ∷ []) c.row_over.ensures.row)
    (key-kept (form_at c.args.heap.now) G (forms-kept c.args.heap.now c.row_over.new.heap more) c.in-Entry.last lone.0 lone.2) (rows-empty G))
