use Rattle.std.proofs.Common.{◌≡◌, [], false, sym, ◌∙◌, refl}
use Rattle.plain_space.specs.Workspace.{in_batch}
use Rattle.plain_space.specs.Cost.{cost}
use Rattle.space_state.proofs.Keeping.{keeps-gained, keeps-open, current-stands, answered-one, rises-answered, room-made, turns-by}
use Rattle.space_state.proofs.Steps.{begin-refused, begin-done, closed-batch}
use Rattle.state_rows.proofs.Room.{room-made as none-taken}
use Rattle.space_state.proofs.roots.RootedHeap.begin.Goals as goal

pub returns-then-in_batch-clause-obeys : goal.returns-then-in_batch-clause-obeys
returns-then-in_batch-clause-obeys c = λ W K. record { due = begin-refused W (sym (c.in_batch.ensures [] W K) ∙ c.if-in_batch.true); same = refl }

pub returns-clause-room : goal.returns-clause-room
returns-clause-room c = room-made c.hold.ensures.makes

pub returns-clause-obeys : goal.returns-clause-obeys
unfolding cost
returns-clause-obeys c = λ W K.
    let outside : in_batch W ≡ false = sym (c.in_batch.ensures [] W K) ∙ c.if-in_batch.false in
    let once = answered-one c.hold.ensures.extends c.hold.ensures.graph c.hold.ensures.holds c.hold.ensures.count c.hold.ensures.makes in
    let held = keeps-gained K once in
    record {
      after = _;
      told = begin-done W outside;
      turns = turns-by 0 (keeps-open c.args.self.now.roots.current W.current (closed-batch K outside) held (current-stands held)) refl (rises-answered once);
      few_made = λ placed inside. absurd placed;
    }

pub returns-clause-spares : goal.returns-clause-spares
returns-clause-spares c = λ W K. none-taken c.hold.ensures.makes
