use Rattle.std.proofs.Common.{sym, subst, ◌∷◌, [], ◌++◌, take, Some}
use Rattle.node_heap.specs.Heap.{form_at}
use Rattle.champ_chain.specs.Chain.{AreChainRows}
use Rattle.champ_chain.proofs.CopyLemmas.{held-one}
use Rattle.node_heap.proofs.BuildLemmas.{Builds-refl}
use Rattle.champ_chain.proofs.rows.copied_over.Goals as goal

pub returns-then-number-eq0-clause-builds : goal.returns-then-number-eq0-clause-builds
returns-then-number-eq0-clause-builds g c = Builds-refl c.args.heap.now (c.args.tail ∷ []) 0 c.args.number c.requires.graph

pub returns-then-number-eq0-clause-rows : goal.returns-then-number-eq0-clause-rows
returns-then-number-eq0-clause-rows g c = λ es ts rows fits rest. subst (λ n. AreChainRows (form_at c.args.heap.now) (Some c.args.tail) (take n es ++ ts)) (sym c.if-number-eq0.true) rest

pub copied-requires-clause-held : goal.copied-requires-clause-held
copied-requires-clause-held g c = λ l. held-one c.args.heap.now c.args.tail l c.requires.held
