use Rattle.std.proofs.Common.{◌≡◌, [], true, false, refl, sym, ◌∙◌, arith}
use Rattle.shell_terms.specs.Command.{back}
use Rattle.plain_space.specs.Workspace.{Workspace, in_batch}
use Rattle.plain_space.specs.Cost.{cost}
use Rattle.state_rows.specs.InHeap.{IsStateIn}
use Rattle.space_state.specs.Roots.{Keeps}
use Rattle.space_state.proofs.Keeping.{heap-is, turns-after}
use Rattle.space_state.proofs.Steps.{back-refused, back-absent, back-done, none-there, some-there, IsHeld, is-held, may-lack, memory-refused}
use Rattle.state_rows.proofs.Room.{room-made, room-then}
use Rattle.space_state.proofs.Hoarding.{room-reserved}
use Rattle.space_state.proofs.roots.RootedHeap.back.Goals as goal
use Rattle.space_state.proofs.roots.RootedHeap.back.Goals.{After-hold}

pub returns-then-in_batch-clause-ends : goal.returns-then-in_batch-clause-ends
returns-then-in_batch-clause-ends c = λ W K. record { due = back-refused W _ (sym (c.in_batch.ensures [] W K) ∙ c.if-in_batch.true); same = refl }

pub returns-in_default-clause-ends : goal.returns-in_default-clause-ends
returns-in_default-clause-ends c = λ W K.
    let outside : in_batch W ≡ false = sym (c.in_batch.ensures [] W K) ∙ c.if-in_batch.false in
    record { due = back-absent W _ outside (none-there (IsStateIn c.args.self.now.heap c.args.self.now.bits) (c.version.ensures W K) c.in_default.is); same = refl }

pub returns-in_err-reserve-clause-ends : goal.returns-in_err-reserve-clause-ends
returns-in_err-reserve-clause-ends c = λ W K.
    let outside : in_batch W ≡ false = sym (c.in_batch.ensures [] W K) ∙ c.if-in_batch.false in
    let there = some-there (IsStateIn c.args.self.now.heap c.args.self.now.bits) (c.version.ensures W K) c.in-Some.is in
    memory-refused c.from_residual.result c.from_residual.ensures.1 (may-lack (back _) refl (back-done W _ outside there.0 there.1)) (heap-is c.in_err-reserve.ensures.refused)

-- the version's state, which is held besides
held : (c : After-hold) (W : Workspace) (K : Keeps c.args.self.now [] W) → IsHeld c.args.self.now c.hold.new.self c.in-Some.state (some-there (IsStateIn c.args.self.now.heap c.args.self.now.bits) (c.version.ensures W K) c.in-Some.is).0 W
held c W K =
    let did = c.hold.ensures in
    is-held K (some-there (IsStateIn c.args.self.now.heap c.args.self.now.bits) (c.version.ensures W K) c.in-Some.is).2 c.reserve.ensures.rest did.rows did.extends did.graph did.holds did.count did.makes

pub turn_to-requires-clause-kept : goal.turn_to-requires-clause-kept
turn_to-requires-clause-kept c =
    let W = c.requires.0 in
    let K = c.requires.1 in
    let held = held (goal.at.turn_to-requires-clause-kept c).After-hold W K in
    (W, _, held.keeps, held.is)

pub returns-clause-ends : goal.returns-clause-ends
unfolding cost
returns-clause-ends c = λ W K.
    let outside : in_batch W ≡ false = sym (c.in_batch.ensures [] W K) ∙ c.if-in_batch.false in
    let there = some-there (IsStateIn c.args.self.now.heap c.args.self.now.bits) (c.version.ensures W K) c.in-Some.is in
    let held = held (goal.at.returns-clause-ends c).After-hold W K in
    record { after = _; told = back-done W _ outside there.0 there.1; turns = turns-after 0 256 held.rises refl (c.turn_to.ensures.turns W there.0 held.keeps held.is) (omega arith); few_made = λ placed inside. absurd placed }

pub returns-clause-spares : goal.returns-clause-spares
returns-clause-spares c = λ W K. room-then (room-then (room-reserved c.in_ok-reserve.ensures.greater c.reserve.ensures.rest) (room-made c.hold.ensures.makes)) c.turn_to.ensures.spares

pub returns-clause-made : goal.returns-clause-made
returns-clause-made c = omega (arith, c.turn_to.ensures.made, c.hold.ensures.makes.made, c.reserve.ensures.rest.made)

pub returns-clause-below : goal.returns-clause-below
returns-clause-below c = λ W K fewer.
    let there = some-there (IsStateIn c.args.self.now.heap c.args.self.now.bits) (c.version.ensures W K) c.in-Some.is in
    let held = held (goal.at.returns-clause-below c).After-hold W K in
    let made = c.turn_to.ensures.below W there.0 held.keeps held.is fewer in
    omega (arith, made, c.hold.ensures.makes.made, c.reserve.ensures.rest.made)
