use Rattle.std.proofs.Common.{sym, subst}
use Rattle.node_heap.specs.Heap.{form_at}
use Rattle.set_merge.specs.Chains.{AreFrontsOf, AreHalves}
use Rattle.set_merge.proofs.FrontLemmas.{turned_of, fronts-turned, halves-turned}
use Rattle.set_merge.proofs.chains.halves.Goals as goal

pub returns-then-fronts-clause-halves : goal.returns-then-fronts-clause-halves
returns-then-fronts-clause-halves g c = λ es ds f.
    let F = form_at c.args.heap.now in
    let early = c.halves_by_first-early.result.0 in
    let late = c.halves_by_first-early.result.1 in
    let turned = subst (λ x. AreFrontsOf F g.T.Ord.cmp x ds es) (sym c.turned.ensures) (fronts-turned g.T.Ord.cmp F c.args.fronts.now es ds f) in
    let halves = subst (λ x. AreHalves F g.T.Ord.cmp x early late ds es) c.turned.ensures (c.halves_by_first-early.ensures.halves ds es turned) in
    subst (λ x. AreHalves F g.T.Ord.cmp c.args.fronts.now x c.turned-then-fronts-2.result es ds) (sym c.turned-then-fronts.ensures)
    (subst (λ y. AreHalves F g.T.Ord.cmp c.args.fronts.now (turned_of early) y es ds) (sym c.turned-then-fronts-2.ensures) (halves-turned g.T.Ord.cmp F c.args.fronts.now early late es ds halves))
