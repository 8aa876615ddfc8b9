use Rattle.std.proofs.Common.{arith, subst, sym, ap, ◌++◌, take, append-nil}
use Rattle.node_heap.specs.Heap.{form_at}
use Rattle.champ_chain.specs.Chain.{AreChainRows, IsEntryOrRows}
use Rattle.std.proofs.Common.{length}
use Rattle.champ_chain.proofs.SpotLemmas.{rows-none}
use Rattle.champ_chain.proofs.rows.closed.Goals as goal

pub front_of-requires-clause-some : goal.front_of-requires-clause-some
front_of-requires-clause-some g c =
    let none = rows-none (form_at c.args.heap.now) c.requires.tail.0 (subst (λ t. AreChainRows (form_at c.args.heap.now) t c.requires.tail.0) c.in-None.is c.requires.tail.1) in
    omega (arith, c.requires.tail.2, ap length none)

pub over_tail-requires-clause-tail : goal.over_tail-requires-clause-tail
over_tail-requires-clause-tail g c = (c.requires.tail.0, subst (λ t. AreChainRows (form_at c.args.heap.now) t c.requires.tail.0) c.in-Some.is c.requires.tail.1)

pub returns-in-None-clause-rows : goal.returns-in-None-clause-rows
returns-in-None-clause-rows g c = λ es ts rows fits rest.
    let none = rows-none (form_at c.args.heap.now) ts (subst (λ t. AreChainRows (form_at c.args.heap.now) t ts) c.in-None.is rest) in
    subst (λ us. IsEntryOrRows (form_at c.front_of.new.heap) c.front_of.result (take c.args.number es ++ us)) (sym none)
    (subst (IsEntryOrRows (form_at c.front_of.new.heap) c.front_of.result) (sym (append-nil (take c.args.number es))) (c.front_of.ensures.rows es rows fits))

pub returns-in-Some-clause-rows : goal.returns-in-Some-clause-rows
returns-in-Some-clause-rows g c = λ es ts rows fits rest.
    c.over_tail.ensures.rows es ts rows fits (subst (λ t. AreChainRows (form_at c.args.heap.now) t ts) c.in-Some.is rest)
