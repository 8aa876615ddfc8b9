use Rattle.std.proofs.Common.{◌≡◌, ◌+◌, [], ◌∷◌, false, refl, sym, ◌∙◌, arith}
use Rattle.elem_core.specs.Shown.{name_bytes}
use Rattle.shell_terms.specs.Command.{mark}
use Rattle.std.specs.FinMap as map
use Rattle.champ_kinds.specs.declared.map.TheConstants.{INSERT_NODES}
use Rattle.plain_space.specs.Workspace.{Workspace, in_batch}
use Rattle.plain_space.specs.Cost.{cost, alike, alike_versions}
use Rattle.state_rows.specs.InHeap.{IsStateIn, AreVersionsIn}
use Rattle.space_state.specs.Roots.{Keeps}
use Rattle.space_state.specs.Turns.{TurnsTo}
use Rattle.space_state.proofs.Keeping.{keeps-same, keeps-gained, keeps-turned, current-stands, versions-stand, answered-one, rises-same, rises-makes, rises-answered, rises-then, rises-more, turns-by, turns-then}
use Rattle.space_state.proofs.Steps.{mark-refused, mark-taken, mark-done, as-told, may-lack, memory-refused, spares-kept}
use Rattle.state_rows.proofs.Room.{room-made, room-then}
use Rattle.space_state.proofs.roots.RootedHeap.mark.Goals as goal
use Rattle.space_state.proofs.roots.RootedHeap.mark.Goals.{After-hold, After-versions-versions, After-with_version-map}

pub returns-then-in_batch-clause-ends : goal.returns-then-in_batch-clause-ends
returns-then-in_batch-clause-ends c = λ W K. record { due = mark-refused W _ (sym (c.in_batch.ensures [] W K) ∙ c.if-in_batch.true); same = refl }

pub returns-then-is_some-clause-ends : goal.returns-then-is_some-clause-ends
returns-then-is_some-clause-ends c = λ W K.
    let outside : in_batch W ≡ false = sym (c.in_batch.ensures [] W K) ∙ c.if-in_batch.false in
    let there = as-told (IsStateIn c.args.self.now.heap c.args.self.now.bits) _ _ (c.version.ensures W K) (sym c.is_some.ensures ∙ c.if-is_some.true) in
    record { due = mark-taken W _ outside there; same = refl }

pub returns-in_err-make_version_room-clause-ends : goal.returns-in_err-make_version_room-clause-ends
returns-in_err-make_version_room-clause-ends c = λ W K.
    let outside : in_batch W ≡ false = sym (c.in_batch.ensures [] W K) ∙ c.if-in_batch.false in
    let none = as-told (IsStateIn c.args.self.now.heap c.args.self.now.bits) _ _ (c.version.ensures W K) (sym c.is_some.ensures ∙ c.if-is_some.false) in
    memory-refused c.from_residual-in_err-make_version_room.result c.from_residual-in_err-make_version_room.ensures.1 (may-lack (mark _) refl (mark-done W _ outside none)) c.in_err-make_version_room.ensures.refused

pub returns-in_err-key-clause-ends : goal.returns-in_err-key-clause-ends
returns-in_err-key-clause-ends c = λ W K.
    let outside : in_batch W ≡ false = sym (c.in_batch.ensures [] W K) ∙ c.if-in_batch.false in
    let none = as-told (IsStateIn c.args.self.now.heap c.args.self.now.bits) _ _ (c.version.ensures W K) (sym c.is_some.ensures ∙ c.if-is_some.false) in
    memory-refused c.from_residual.result c.from_residual.ensures.1 (may-lack (mark _) refl (mark-done W _ outside none)) refl

-- the current state is held once more, after room was made
held : (c : After-hold) (W : Workspace) → Keeps c.args.self.now [] W → Keeps (record c.make_version_room.new.self { heap = c.hold.new.self }) (c.make_version_room.new.self.roots.current ∷ []) W
held c W K =
    let did = c.hold.ensures in
    keeps-gained (keeps-same c.make_version_room.ensures.same K) (answered-one did.extends did.graph did.holds did.count did.makes)

-- as many names are alike, by the bits of then and by the key
alike-key : (c : After-versions-versions) (W : Workspace) → alike c.versions-versions.result.bits (map.keys W.versions) c.in_ok-key.key ≡ alike_versions c.args.self.now.bits W (name_bytes c.args.name)
alike-key c W =
    let key : c.in_ok-key.key ≡ name_bytes c.args.name = c.in_ok-key.ensures.kept ∙ c.as_line.ensures in
    rw (c.versions-versions.ensures, c.make_version_room.ensures.same.bits, key) refl

-- the versions with the new one
next : (c : After-with_version-map) (W : Workspace) → Keeps c.args.self.now [] W
    → TurnsTo c.args.self.now (record c.make_version_room.new.self { heap = c.with_version-map.new.heap }) (c.with_version-map.result.root ∷ []) (64 + alike_versions c.args.self.now.bits W (name_bytes c.args.name)) W × AreVersionsIn c.with_version-map.new.heap c.make_version_room.new.self.bits c.with_version-map.result.root (map.insert W.versions c.in_ok-key.key W.current)
next c W K =
    let path = goal.at.After-with_version-map c in
    let most = 64 + alike_versions c.args.self.now.bits W (name_bytes c.args.name) in
    let same = c.make_version_room.ensures.same in
    let held = held path.After-hold W K in
    let there : AreVersionsIn c.hold.new.self c.versions-versions.result.bits c.versions-versions.result.root W.versions = rw c.versions-versions.ensures (versions-stand held) in
    let now : IsStateIn c.hold.new.self c.versions-versions.result.bits c.make_version_room.new.self.roots.current W.current = rw c.versions-versions.ensures (current-stands held) in
    let answered = c.with_version-map.ensures.answered W.versions there in
    (turns-by most (keeps-turned held answered) same.bits (rises-more most (rises-then (rises-same same.heap) (rises-then (rises-makes c.hold.ensures.makes) (rises-answered answered))) (omega (arith, alike-key path.After-versions-versions W))), rw c.versions-versions.ensures at (c.with_version-map.ensures.versions W.versions W.current there now))

pub with_version-map-requires-clause-versions : goal.with_version-map-requires-clause-versions
with_version-map-requires-clause-versions c =
    let W = c.requires.0 in
    let K = c.requires.1 in
    let path = goal.at.with_version-map-requires-clause-versions c in
    let spares = spares-kept _ _ 1 INSERT_NODES _ _ (c.in_ok-make_version_room.ensures.room W K) c.hold.ensures.makes (omega arith) (omega arith) (alike-key path.After-versions-versions W) in
    (W.versions, rw c.versions-versions.ensures (versions-stand (held path.After-hold W K)), spares)

pub turn_versions-requires : goal.turn_versions-requires
turn_versions-requires c =
    let made = next (goal.at.turn_versions-requires c).After-with_version-map c.requires.0 c.requires.1 in
    (c.requires.0, _, made.0.keeps, made.1)

pub returns-clause-ends : goal.returns-clause-ends
unfolding cost
returns-clause-ends c = λ W K.
    let outside : in_batch W ≡ false = sym (c.in_batch.ensures [] W K) ∙ c.if-in_batch.false in
    let none = as-told (IsStateIn c.args.self.now.heap c.args.self.now.bits) _ _ (c.version.ensures W K) (sym c.is_some.ensures ∙ c.if-is_some.false) in
    let made = next (goal.at.returns-clause-ends c).After-with_version-map W K in
    let key : c.in_ok-key.key ≡ name_bytes c.args.name = c.in_ok-key.ensures.kept ∙ c.as_line.ensures in
    record {
      after = record W { versions = map.insert W.versions c.in_ok-key.key W.current };
      told = rw key (mark-done W (name_bytes c.args.name) outside none);
      turns = turns-then (64 + alike_versions c.args.self.now.bits W (name_bytes c.args.name)) made.0 (c.turn_versions.ensures.turns W _ made.0.keeps made.1) (omega arith);
      few_made = λ placed inside. absurd placed;
    }

pub returns-clause-spares : goal.returns-clause-spares
returns-clause-spares c = λ W K.
    room-then (room-then (room-then (c.in_ok-make_version_room.ensures.spares W K) (room-made c.hold.ensures.makes)) c.with_version-map.ensures.spares) c.turn_versions.ensures.spares
