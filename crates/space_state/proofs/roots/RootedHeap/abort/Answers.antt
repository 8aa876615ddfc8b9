use Rattle.std.proofs.Common.{refl, arith}
use Rattle.plain_space.specs.Cost.{cost}
use Rattle.space_state.proofs.Keeping.{keeps-closed, keeps-current, batch-open, batch-closed, rises-refl, turns-after}
use Rattle.space_state.proofs.Steps.{abort-refused, abort-done, base-told, base-none}
use Rattle.space_state.proofs.roots.RootedHeap.abort.Goals as goal

pub returns-in_default-clause-obeys : goal.returns-in_default-clause-obeys
returns-in_default-clause-obeys c = λ W K. record { due = abort-refused W (batch-closed (base-none c.base.ensures c.in_default.is) K); same = refl }

pub give_up-requires : goal.give_up-requires
give_up-requires c =
    let W = c.requires.0 in
    let K = c.requires.1 in
    let opened = base-told c.base.ensures c.in-Some.is in
    let base = batch-open c.in-Some.base opened K in
    (_, keeps-current c.in-Some.base base.0 (keeps-closed c.in-Some.base opened K) base.2)

pub returns-clause-obeys : goal.returns-clause-obeys
unfolding cost
returns-clause-obeys c = λ W K.
    let opened = base-told c.base.ensures c.in-Some.is in
    let base = batch-open c.in-Some.base opened K in
    record {
      after = _;
      told = abort-done W base.0 base.1;
      turns = turns-after 0 0 (rises-refl c.args.self.now.heap) refl (c.give_up.ensures.turns _ (keeps-current c.in-Some.base base.0 (keeps-closed c.in-Some.base opened K) base.2)) (omega arith);
      few_made = λ placed inside. absurd placed;
    }

pub returns-clause-spares : goal.returns-clause-spares
returns-clause-spares c = λ W K. c.give_up.ensures.spares
