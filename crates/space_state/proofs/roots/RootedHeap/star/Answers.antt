use Rattle.std.proofs.Common.{◌≡◌, ◌+◌, [], false, refl, sym, ◌∙◌, arith}
use Rattle.champ_trie.specs.declared.TheConstants.{ADD_NODES}
use Rattle.elem_core.specs.Shown.{name_bytes}
use Rattle.shell_terms.specs.Edit.{star}
use Rattle.plain_space.specs.Workspace.{Workspace, is_starred, with_current, with_star}
use Rattle.plain_space.specs.Cost.{cost, alike_stars}
use Rattle.space_state.specs.Roots.{Keeps}
use Rattle.space_state.proofs.Keeping.{keeps-same, current-stands, turns-then}
use Rattle.space_state.proofs.Editing.{star-made, does, may-lack, no-room, fails}
use Rattle.space_state.proofs.Steps.{star-taken, memory-refused, spares-suffice, HasNext, has-next}
use Rattle.state_rows.proofs.Room.{room-then}
use Rattle.space_state.proofs.roots.RootedHeap.star.Goals as goal
use Rattle.space_state.proofs.roots.RootedHeap.star.Goals.{In_ok-make_star_room, After-with_star-next}

pub returns-then-is_starred-clause-ends : goal.returns-then-is_starred-clause-ends
returns-then-is_starred-clause-ends c = λ W K. record { due = star-taken W _ (sym (c.is_starred.ensures W K) ∙ c.if-is_starred.true); same = refl }

pub returns-in_err-key-clause-ends : goal.returns-in_err-key-clause-ends
returns-in_err-key-clause-ends c = λ W K.
    let none : is_starred W.current (name_bytes c.args.name) ≡ false = sym (c.is_starred.ensures W K) ∙ c.if-is_starred.false in
    memory-refused c.from_residual.result c.from_residual.ensures.1 (may-lack W (star _) _ (star-made W.current _ none)) refl

pub returns-in_err-make_star_room-clause-ends : goal.returns-in_err-make_star_room-clause-ends
returns-in_err-make_star_room-clause-ends c = λ W K.
    let none : is_starred W.current (name_bytes c.args.name) ≡ false = sym (c.is_starred.ensures W K) ∙ c.if-is_starred.false in
    fails c.in_err-make_star_room.field-0.0 c.from_residual-in_err-make_star_room.result c.from_residual-in_err-make_star_room.ensures.1 (no-room W (star _) _ (star-made W.current _ none) (c.in_err-make_star_room.ensures.room W K))

-- as many names are alike, by the bits after room was made and by the key
alike : (c : In_ok-make_star_room) (W : Workspace) → Keeps c.args.self.now [] W → alike_stars c.make_star_room.new.self.bits W.current c.in_ok-key.key ≡ alike_stars c.args.self.now.bits W.current (name_bytes c.args.name)
alike c W K =
    let key : c.in_ok-key.key ≡ name_bytes c.args.name = c.in_ok-key.ensures.kept ∙ c.as_line.ensures in
    rw ((c.in_ok-make_star_room.ensures.room W K).same.bits, key) refl

-- the state with the star
next : (c : After-with_star-next) (W : Workspace) → Keeps c.args.self.now [] W
    → HasNext c.args.self.now (record c.make_star_room.new.self { heap = c.with_star-next.new.heap }) c.with_star-next.result (with_star W.current c.in_ok-key.key) W (alike_stars c.args.self.now.bits W.current (name_bytes c.args.name))
next c W K =
    let room = c.in_ok-make_star_room.ensures.room W K in
    let now = current-stands (keeps-same room.same K) in
    has-next (ADD_NODES + 1) _ _ K room (c.with_star-next.ensures.answered W.current now) (c.with_star-next.ensures.state W.current now) (omega arith) (alike (goal.at.After-with_star-next c).In_ok-make_star_room W K)

pub with_star-next-requires-clause-state : goal.with_star-next-requires-clause-state
with_star-next-requires-clause-state c =
    let W = c.requires.0 in
    let K = c.requires.1 in
    let room = c.in_ok-make_star_room.ensures.room W K in
    (W.current, current-stands (keeps-same (c.in_ok-make_star_room.ensures.room W K).same K), spares-suffice c.make_star_room.new.self.heap 1 (ADD_NODES + 1) _ _ room.spares (omega arith) (omega arith) (alike (goal.at.with_star-next-requires-clause-state c).In_ok-make_star_room W K))

pub turn_to-requires-clause-spares : goal.turn_to-requires-clause-spares
turn_to-requires-clause-spares c = (next (goal.at.turn_to-requires-clause-spares c).After-with_star-next c.requires.0 c.requires.1).spares

pub turn_to-requires-clause-kept : goal.turn_to-requires-clause-kept
turn_to-requires-clause-kept c =
    let made = next (goal.at.turn_to-requires-clause-kept c).After-with_star-next c.requires.0 c.requires.1 in
    (c.requires.0, _, made.turns.keeps, made.is)

pub returns-clause-ends : goal.returns-clause-ends
unfolding cost
returns-clause-ends c = λ W K.
    let none : is_starred W.current (name_bytes c.args.name) ≡ false = sym (c.is_starred.ensures W K) ∙ c.if-is_starred.false in
    let made = next (goal.at.returns-clause-ends c).After-with_star-next W K in
    let key : c.in_ok-key.key ≡ name_bytes c.args.name = c.in_ok-key.ensures.kept ∙ c.as_line.ensures in
    record {
      after = with_current W (with_star W.current c.in_ok-key.key);
      told = rw key (does W (star (name_bytes c.args.name)) _ (star-made W.current (name_bytes c.args.name) none));
      turns = turns-then (256 + alike_stars c.args.self.now.bits W.current (name_bytes c.args.name)) made.turns (c.turn_to.ensures.turns W _ made.turns.keeps made.is) (omega arith);
      few_made = λ placed inside. absurd placed;
    }

pub returns-clause-spares : goal.returns-clause-spares
returns-clause-spares c = λ W K. room-then (room-then (c.in_ok-make_star_room.ensures.spares W K) c.with_star-next.ensures.spares) c.turn_to.ensures.spares
