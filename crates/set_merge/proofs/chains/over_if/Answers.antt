use Rattle.std.proofs.Common.{◌≡◌, sym, ap, subst, Some, [], ◌∷◌, ◌++◌, cond}
use Rattle.node_heap.specs.Heap.{form_at}
use Rattle.champ_chain.specs.Entry.{Entry, entry, key_at}
use Rattle.set_merge.specs.Chains.{IsMergedRun}
use Rattle.set_merge.proofs.ChainLemmas.{IsOver-none}
use Rattle.set_merge.proofs.RunLemmas.{run-key}
use Rattle.set_merge.proofs.chains.over_if.Goals as goal

pub over-requires-clause-entry : goal.over-requires-clause-entry
over-requires-clause-entry g c =
    let r = c.requires.run in
    let front = c.front_of-entry.ensures.front r.0 r.1 r.2 in
    (r.0.key, subst (λ x. key_at (form_at c.args.heap.now) x ≡ Some r.0.key) (sym front.0) (run-key (form_at c.args.heap.now) c.args.run.now r.0 r.1 r.2))

pub returns-then-kept-clause-run : goal.returns-then-kept-clause-run
returns-then-kept-clause-run g c = λ e es ts run after.
    let front = c.front_of-entry.ensures.front e es run in
    let key = subst (λ x. key_at (form_at c.args.heap.now) x ≡ Some e.key) (sym front.0) (run-key (form_at c.args.heap.now) c.args.run.now e es run) in
    let made = c.over.ensures.run e.key ts key after in
    let whole : entry e.key c.front_of-entry.result.entry ≡ e = ap (entry e.key) front.0 in
    subst (λ b. IsMergedRun (form_at c.over.new.heap) c.over.result (cond b (e ∷ []) [] ++ ts)) (sym c.if-kept.true)
    (subst (λ (d : Entry _). IsMergedRun (form_at c.over.new.heap) c.over.result (d ∷ ts)) whole made)

pub returns-else-kept-clause-over : goal.returns-else-kept-clause-over
returns-else-kept-clause-over g c = IsOver-none c.args.heap.now c.args.after.now 1 c.requires.graph
