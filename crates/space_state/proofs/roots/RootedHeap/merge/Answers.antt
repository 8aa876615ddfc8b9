use Rattle.std.proofs.Common.{◌≡◌, ℕ, ◌+◌, ◌*◌, [], refl, ap, sym, subst, ◌∙◌, arith}
use Rattle.elem_core.specs.Shown.{name_bytes}
use Rattle.shell_terms.specs.Command.{merge}
use Rattle.plain_space.specs.Workspace.{State, Workspace, merged_with, with_current}
use Rattle.plain_space.specs.Cost.{merge_size}
use Rattle.state_rows.specs.declared.merge.Merging.{Merging}
use Rattle.state_rows.specs.InHeap.{IsStateIn}
use Rattle.state_rows.specs.Merging.{plain_kind, merge_rows}
use Rattle.state_rows.proofs.Room.{room-then}
use Rattle.state_rows.proofs.TwoStates.{rows-same}
use Rattle.space_state.specs.declared.room.TheConstants.{EDIT_NODES}
use Rattle.space_state.specs.Roots.{Keeps}
use Rattle.space_state.specs.Turns.{IsSame, TurnsTo}
use Rattle.space_state.specs.Needed.{merge_nodes}
use Rattle.space_state.specs.declared.roots.RootedHeap.{RootedHeap}
use Rattle.space_state.proofs.Keeping.{keeps-same, current-stands, unchanged-stands, turns-then}
use Rattle.space_state.proofs.Editing.{fails, passes}
use Rattle.space_state.proofs.Hoarding.{room-more}
use Rattle.space_state.proofs.Steps.{merge-absent, merge-done, merge-costs, merge-needs, none-there, some-there, may-lack, room-refused, HasNext, has-next}
use Rattle.space_state.proofs.roots.RootedHeap.merge.Goals as goal
use Rattle.space_state.proofs.roots.RootedHeap.merge.Goals.{After-merged-next}

-- the state of the version, where room was made
other-stands : (s t : RootedHeap) (l : ℕ) (x : State) → IsSame s t → IsStateIn s.heap s.bits l x → IsStateIn t.heap t.bits l x
other-stands s t l x same is = subst (λ b. IsStateIn t.heap b l x) (sym same.bits) ((unchanged-stands s.bits same.heap l).state x is)

-- what the merge needs then is what it needed before
same-need : (s t : RootedHeap) (kind : Merging) (l : ℕ) → IsSame s t → merge_rows kind t.heap t.bits t.roots.current l ≡ merge_rows kind s.heap s.bits s.roots.current l
same-need s t kind l same =
    rows-same s.heap t.heap kind t.bits t.roots.current l same.heap.rows
    ∙ ap (λ b. merge_rows kind s.heap b t.roots.current l) same.bits
    ∙ ap (λ r. merge_rows kind s.heap s.bits r.current l) same.roots

pub returns-in_default-clause-ends : goal.returns-in_default-clause-ends
returns-in_default-clause-ends c = λ W K.
    record { due = merge-absent W _ (plain_kind c.args.kind) (none-there (IsStateIn c.args.self.now.heap c.args.self.now.bits) (c.version.ensures W K) c.in_default.is); same = refl }

pub merge_need-rows-requires-clause-states : goal.merge_need-rows-requires-clause-states
merge_need-rows-requires-clause-states c =
    let W = c.requires.0 in
    let K = c.requires.1 in
    let there = some-there (IsStateIn c.args.self.now.heap c.args.self.now.bits) (c.version.ensures W K) c.in-Some.is in
    (W.current, there.0, current-stands K, there.2)

pub returns-in_err-make_room_with-clause-ends : goal.returns-in_err-make_room_with-clause-ends
returns-in_err-make_room_with-clause-ends c = λ W K.
    let there = some-there (IsStateIn c.args.self.now.heap c.args.self.now.bits) (c.version.ensures W K) c.in-Some.is in
    let command = merge (plain_kind c.args.kind) (name_bytes c.args.version) in
    fails c.in_err-make_room_with.field-0.0 c.from_residual.result c.from_residual.ensures.1
    (room-refused command (may-lack command refl (merge-done W _ (plain_kind c.args.kind) there.0 there.1)) (c.in_err-make_room_with.ensures.room W K))

pub returns-in_err-make_room_with-clause-ample : goal.returns-in_err-make_room_with-clause-ample
returns-in_err-make_room_with-clause-ample c = λ W K spares.
    let there = some-there (IsStateIn c.args.self.now.heap c.args.self.now.bits) (c.version.ensures W K) c.in-Some.is in
    let few = c.merge_need-rows.ensures.few W.current there.0 (current-stands K) there.2 in
    let needs = merge-needs W (name_bytes c.args.version) (plain_kind c.args.kind) there.0 there.1 in
    passes c.in_err-make_room_with.field-0.0 c.from_residual.result c.from_residual.ensures.1
    (c.in_err-make_room_with.ensures.ample (spares.0, omega (arith, spares.1, few, needs)))

pub merged-next-requires-clause-states : goal.merged-next-requires-clause-states
merged-next-requires-clause-states c =
    let W = c.requires.0 in
    let K = c.requires.1 in
    let there = some-there (IsStateIn c.args.self.now.heap c.args.self.now.bits) (c.version.ensures W K) c.in-Some.is in
    let room = c.in_ok-make_room_with.ensures.room W K in
    (W.current, there.0, current-stands (keeps-same room.same K), other-stands c.args.self.now c.make_room_with.new.self c.in-Some.other there.0 room.same there.2)

pub merged-next-requires-clause-spares : goal.merged-next-requires-clause-spares
merged-next-requires-clause-spares c =
    let room = c.in_ok-make_room_with.ensures.room c.requires.0 c.requires.1 in
    let rows = same-need c.args.self.now c.make_room_with.new.self c.args.kind c.in-Some.other room.same in
    (omega arith, omega (arith, room.spares.1, rows, c.merge_need-rows.ensures.rows))

-- the merged state
next : (c : After-merged-next) (W : Workspace) (K : Keeps c.args.self.now [] W) (x : State) → IsStateIn c.args.self.now.heap c.args.self.now.bits c.in-Some.other x
    → HasNext c.args.self.now (record c.make_room_with.new.self { heap = c.merged-next.new.heap }) c.merged-next.result (merged_with (plain_kind c.args.kind) W.current x) W c.merge_need-rows.result
next c W K x is =
    let room = c.in_ok-make_room_with.ensures.room W K in
    let rows = same-need c.args.self.now c.make_room_with.new.self c.args.kind c.in-Some.other room.same in
    has-next 1 _ _ K room c.merged-next.ensures.answered
    (c.merged-next.ensures.state W.current x (current-stands (keeps-same room.same K)) (other-stands c.args.self.now c.make_room_with.new.self c.in-Some.other x room.same is))
    (omega arith) (rows ∙ sym c.merge_need-rows.ensures.rows)

pub turn_to-requires-clause-spares : goal.turn_to-requires-clause-spares
turn_to-requires-clause-spares c =
    let there = some-there (IsStateIn c.args.self.now.heap c.args.self.now.bits) (c.version.ensures c.requires.0 c.requires.1) c.in-Some.is in
    (next (goal.at.turn_to-requires-clause-spares c).After-merged-next c.requires.0 c.requires.1 there.0 there.2).spares

pub turn_to-requires-clause-kept : goal.turn_to-requires-clause-kept
turn_to-requires-clause-kept c =
    let there = some-there (IsStateIn c.args.self.now.heap c.args.self.now.bits) (c.version.ensures c.requires.0 c.requires.1) c.in-Some.is in
    let made = next (goal.at.turn_to-requires-clause-kept c).After-merged-next c.requires.0 c.requires.1 there.0 there.2 in
    (c.requires.0, _, made.turns.keeps, made.is)

pub returns-clause-ends : goal.returns-clause-ends
returns-clause-ends c = λ W K.
    let kind = plain_kind c.args.kind in
    let name = name_bytes c.args.version in
    let there = some-there (IsStateIn c.args.self.now.heap c.args.self.now.bits) (c.version.ensures W K) c.in-Some.is in
    let few = c.merge_need-rows.ensures.few W.current there.0 (current-stands K) there.2 in
    let made = next (goal.at.returns-clause-ends c).After-merged-next W K there.0 there.2 in
    record {
      after = with_current W (merged_with kind W.current there.0);
      told = merge-done W name kind there.0 there.1;
      turns =
          subst (λ (m : ℕ). TurnsTo c.args.self.now c.turn_to.new.self [] m (with_current W (merged_with kind W.current there.0))) (sym (merge-costs W name kind there.0 there.1 c.args.self.now.bits))
          (turns-then (256 + 16 * merge_size kind W.current there.0) made.turns (c.turn_to.ensures.turns W _ made.turns.keeps made.is) (omega (arith, few)));
      few_made = λ placed inside. absurd placed;
    }

pub returns-clause-spares : goal.returns-clause-spares
returns-clause-spares c = λ W K.
    let there = some-there (IsStateIn c.args.self.now.heap c.args.self.now.bits) (c.version.ensures W K) c.in-Some.is in
    let few = c.merge_need-rows.ensures.few W.current there.0 (current-stands K) there.2 in
    let needs = merge-needs W (name_bytes c.args.version) (plain_kind c.args.kind) there.0 there.1 in
    room-more 2 (EDIT_NODES + merge_nodes (plain_kind c.args.kind) W (name_bytes c.args.version)) (omega arith) (omega (arith, few, needs))
    (room-then (room-then c.in_ok-make_room_with.ensures.spares c.merged-next.ensures.spares) c.turn_to.ensures.spares)
