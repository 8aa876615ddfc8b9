use Rattle.std.proofs.Common.{[], ◌∷◌, ◌++◌, refl, arith}
use Rattle.space_state.proofs.Keeping.{few-holds, redo-holds, redo-stands, keeps-redo, rises-trades, turns-by}
use Rattle.space_state.proofs.roots.RootedHeap.push_redo.Goals as goal

pub pushed-redo-requires-clause-few : goal.pushed-redo-requires-clause-few
pushed-redo-requires-clause-few c = few-holds c.requires.kept.2 (omega arith)

pub pushed-redo-requires-clause-held : goal.pushed-redo-requires-clause-held
pushed-redo-requires-clause-held c = rw c.from_root.ensures (redo-holds c.requires.kept.2)

pub pushed-redo-requires-clause-history : goal.pushed-redo-requires-clause-history
pushed-redo-requires-clause-history c = rw c.from_root.ensures (c.args.self.now.bits, c.requires.kept.0.redo, redo-stands c.requires.kept.2, c.requires.kept.4)

pub returns-clause-turns : goal.returns-clause-turns
returns-clause-turns c = λ W x K is.
    let did = rw c.from_root.ensures at c.pushed-redo.ensures in
    rw c.into_root-self.ensures (turns-by 9 (keeps-redo c.pushed-redo.result (W.redo ++ x ∷ []) (c.args.state ∷ []) [] K did.keeps did.trades (did.history c.args.self.now.bits W.redo x (redo-stands K) is)) refl (rises-trades did.trades))

pub returns-clause-spares : goal.returns-clause-spares
returns-clause-spares c = c.pushed-redo.ensures.spares
