use Rattle.std.proofs.Common.{◌≡◌, [], ◌∷◌, true, false, refl, sym, ◌∙◌, arith}
use Rattle.plain_space.specs.Workspace.{in_batch}
use Rattle.space_state.specs.declared.undo_end.TheConstants.{TURN_NODES}
use Rattle.space_state.proofs.Keeping.{current-stands, keeps-current, rises-refl, turns-after}
use Rattle.space_state.proofs.roots.RootedHeap.turn_to.Goals as goal

pub give_up-requires : goal.give_up-requires
give_up-requires c =
    let W = c.requires.kept.0 in
    let x = c.requires.kept.1 in
    (record W { current = x }, keeps-current c.args.next x c.requires.kept.2 c.requires.kept.3)

pub record-requires-clause-kept : goal.record-requires-clause-kept
record-requires-clause-kept c =
    let W = c.requires.kept.0 in
    let x = c.requires.kept.1 in
    let K = c.requires.kept.2 in
    let turned = keeps-current c.args.next x K c.requires.kept.3 in
    ([], record W { current = x }, W.current, turned, omega arith, current-stands K)

pub returns-then-in_batch-clause-turns : goal.returns-then-in_batch-clause-turns
returns-then-in_batch-clause-turns c = λ W x K is.
    let turned = keeps-current c.args.next x K is in
    let inside : in_batch W ≡ true = sym (c.in_batch.ensures (c.args.self.now.roots.current ∷ []) (record W { current = x }) turned) ∙ c.if-in_batch.true in
    rw inside (turns-after 0 TURN_NODES (rises-refl c.args.self.now.heap) refl (c.give_up.ensures.turns (record W { current = x }) turned) (omega arith))

pub returns-else-in_batch-clause-turns : goal.returns-else-in_batch-clause-turns
returns-else-in_batch-clause-turns c = λ W x K is.
    let turned = keeps-current c.args.next x K is in
    let outside : in_batch W ≡ false = sym (c.in_batch.ensures (c.args.self.now.roots.current ∷ []) (record W { current = x }) turned) ∙ c.if-in_batch.false in
    rw outside (turns-after 0 TURN_NODES (rises-refl c.args.self.now.heap) refl
    (c.record.ensures.turns [] (record W { current = x }) W.current turned (current-stands K)).turns (omega arith))

pub returns-then-in_batch-clause-spares : goal.returns-then-in_batch-clause-spares
returns-then-in_batch-clause-spares c = c.give_up.ensures.spares

pub returns-else-in_batch-clause-spares : goal.returns-else-in_batch-clause-spares
returns-else-in_batch-clause-spares c = c.record.ensures.spares

pub returns-then-in_batch-clause-below : goal.returns-then-in_batch-clause-below
returns-then-in_batch-clause-below c = λ W x K is fewer. omega (arith, c.give_up.ensures.made)

pub returns-else-in_batch-clause-below : goal.returns-else-in_batch-clause-below
returns-else-in_batch-clause-below c = λ W x K is fewer. c.record.ensures.below [] (record W { current = x }) W.current (keeps-current c.args.next x K is) (current-stands K) fewer
