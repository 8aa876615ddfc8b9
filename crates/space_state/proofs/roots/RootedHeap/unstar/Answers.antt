use Rattle.std.proofs.Common.{◌≡◌, ◌+◌, [], true, refl, sym, ◌∙◌, arith}
use Rattle.elem_core.specs.declared.codes.TheConstants.{LEVELS}
use Rattle.elem_core.specs.Shown.{name_bytes}
use Rattle.shell_terms.specs.Edit.{unstar}
use Rattle.plain_space.specs.Workspace.{Workspace, is_starred, with_current, without_star}
use Rattle.plain_space.specs.Cost.{cost, alike_stars}
use Rattle.space_state.specs.Roots.{Keeps}
use Rattle.space_state.proofs.Keeping.{keeps-same, current-stands, turns-then}
use Rattle.space_state.proofs.Editing.{unstar-made, does, no-room, fails}
use Rattle.space_state.proofs.Steps.{unstar-absent, spares-suffice, HasNext, has-next}
use Rattle.state_rows.proofs.Room.{room-then}
use Rattle.space_state.proofs.roots.RootedHeap.unstar.Goals as goal
use Rattle.space_state.proofs.roots.RootedHeap.unstar.Goals.{In_ok-make_star_room, After-without_star-next}

pub returns-then-not-is_starred-clause-ends : goal.returns-then-not-is_starred-clause-ends
returns-then-not-is_starred-clause-ends c = λ W K. record { due = unstar-absent W _ (sym (c.is_starred.ensures W K) ∙ c.if-not-is_starred.true); same = refl }

pub returns-in_err-make_star_room-clause-ends : goal.returns-in_err-make_star_room-clause-ends
returns-in_err-make_star_room-clause-ends c = λ W K.
    let there : is_starred W.current (name_bytes c.args.name) ≡ true = sym (c.is_starred.ensures W K) ∙ c.if-not-is_starred.false in
    fails c.in_err-make_star_room.field-0.0 c.from_residual.result c.from_residual.ensures.1 (no-room W (unstar _) _ (unstar-made W.current _ there) (c.in_err-make_star_room.ensures.room W K))

-- as many names are alike, by the bits after room was made
alike : (c : In_ok-make_star_room) (W : Workspace) → Keeps c.args.self.now [] W → alike_stars c.make_star_room.new.self.bits W.current (name_bytes c.args.name) ≡ alike_stars c.args.self.now.bits W.current (name_bytes c.args.name)
alike c W K = rw (c.in_ok-make_star_room.ensures.room W K).same.bits refl

-- the state without the star
next : (c : After-without_star-next) (W : Workspace) → Keeps c.args.self.now [] W
    → HasNext c.args.self.now (record c.make_star_room.new.self { heap = c.without_star-next.new.heap }) c.without_star-next.result (without_star W.current (name_bytes c.args.name)) W (alike_stars c.args.self.now.bits W.current (name_bytes c.args.name))
next c W K =
    let room = c.in_ok-make_star_room.ensures.room W K in
    let now = current-stands (keeps-same room.same K) in
    has-next (LEVELS + 1) _ _ K room (c.without_star-next.ensures.answered W.current now) (c.without_star-next.ensures.state W.current now) (omega arith) (alike (goal.at.After-without_star-next c).In_ok-make_star_room W K)

pub without_star-next-requires-clause-state : goal.without_star-next-requires-clause-state
without_star-next-requires-clause-state c =
    let W = c.requires.0 in
    let K = c.requires.1 in
    let there : is_starred W.current (name_bytes c.args.name) ≡ true = sym (c.is_starred.ensures W K) ∙ c.if-not-is_starred.false in
    let as_many = alike (goal.at.without_star-next-requires-clause-state c).In_ok-make_star_room W K in
    (W.current, current-stands (keeps-same (c.in_ok-make_star_room.ensures.room W K).same K), there, spares-suffice c.make_star_room.new.self.heap 0 (LEVELS + 1) _ _ (c.in_ok-make_star_room.ensures.room W K).spares (omega arith) (omega arith) as_many)

pub turn_to-requires-clause-spares : goal.turn_to-requires-clause-spares
turn_to-requires-clause-spares c = (next (goal.at.turn_to-requires-clause-spares c).After-without_star-next c.requires.0 c.requires.1).spares

pub turn_to-requires-clause-kept : goal.turn_to-requires-clause-kept
turn_to-requires-clause-kept c =
    let made = next (goal.at.turn_to-requires-clause-kept c).After-without_star-next c.requires.0 c.requires.1 in
    (c.requires.0, _, made.turns.keeps, made.is)

pub returns-clause-ends : goal.returns-clause-ends
unfolding cost
returns-clause-ends c = λ W K.
    let there : is_starred W.current (name_bytes c.args.name) ≡ true = sym (c.is_starred.ensures W K) ∙ c.if-not-is_starred.false in
    let made = next (goal.at.returns-clause-ends c).After-without_star-next W K in
    record {
      after = with_current W (without_star W.current (name_bytes c.args.name));
      told = does W (unstar (name_bytes c.args.name)) _ (unstar-made W.current (name_bytes c.args.name) there);
      turns = turns-then (256 + alike_stars c.args.self.now.bits W.current (name_bytes c.args.name)) made.turns (c.turn_to.ensures.turns W _ made.turns.keeps made.is) (omega arith);
      few_made = λ placed inside. absurd placed;
    }

pub returns-clause-spares : goal.returns-clause-spares
returns-clause-spares c = λ W K. room-then (room-then (c.in_ok-make_star_room.ensures.spares W K) c.without_star-next.ensures.spares) c.turn_to.ensures.spares
