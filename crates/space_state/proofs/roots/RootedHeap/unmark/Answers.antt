use Rattle.std.proofs.Common.{◌≡◌, ◌+◌, [], false, not, ap, refl, sym, ◌∙◌, arith}
use Rattle.elem_core.specs.Shown.{name_bytes}
use Rattle.shell_terms.specs.Command.{unmark}
use Rattle.std.specs.FinMap as map
use Rattle.elem_core.specs.declared.codes.TheConstants.{LEVELS}
use Rattle.plain_space.specs.Workspace.{in_batch}
use Rattle.plain_space.specs.Cost.{cost, alike, alike_versions}
use Rattle.state_rows.specs.InHeap.{IsStateIn, AreVersionsIn}
use Rattle.space_state.proofs.Keeping.{keeps-same, keeps-gained, versions-stand, rises-same, rises-answered, rises-then, turns-after}
use Rattle.space_state.proofs.Steps.{unmark-refused, unmark-absent, unmark-done, as-told, may-lack, memory-refused, spares-suffice}
use Rattle.state_rows.proofs.Room.{room-then}
use Rattle.space_state.proofs.roots.RootedHeap.unmark.Goals as goal

pub returns-then-in_batch-clause-ends : goal.returns-then-in_batch-clause-ends
returns-then-in_batch-clause-ends c = λ W K. record { due = unmark-refused W _ (sym (c.in_batch.ensures [] W K) ∙ c.if-in_batch.true); same = refl }

pub returns-then-is_none-clause-ends : goal.returns-then-is_none-clause-ends
returns-then-is_none-clause-ends c = λ W K.
    let outside : in_batch W ≡ false = sym (c.in_batch.ensures [] W K) ∙ c.if-in_batch.false in
    let none = as-told (IsStateIn c.args.self.now.heap c.args.self.now.bits) _ _ (c.version.ensures W K) (c.is_none.ensures ∙ ap not c.if-is_none.true) in
    record { due = unmark-absent W _ outside none; same = refl }

pub returns-in_err-make_version_room-clause-ends : goal.returns-in_err-make_version_room-clause-ends
returns-in_err-make_version_room-clause-ends c = λ W K.
    let outside : in_batch W ≡ false = sym (c.in_batch.ensures [] W K) ∙ c.if-in_batch.false in
    let there = as-told (IsStateIn c.args.self.now.heap c.args.self.now.bits) _ _ (c.version.ensures W K) (c.is_none.ensures ∙ ap not c.if-is_none.false) in
    memory-refused c.from_residual.result c.from_residual.ensures.1 (may-lack (unmark _) refl (unmark-done W _ outside there)) c.in_err-make_version_room.ensures.refused

pub without_version-map-requires-clause-versions : goal.without_version-map-requires-clause-versions
without_version-map-requires-clause-versions c =
    let W = c.requires.0 in
    let K = c.requires.1 in
    let there = as-told (IsStateIn c.args.self.now.heap c.args.self.now.bits) _ _ (c.version.ensures W K) (c.is_none.ensures ∙ ap not c.if-is_none.false) in
    let same : alike c.versions-versions.result.bits (map.keys W.versions) (name_bytes c.args.name) ≡ alike_versions c.args.self.now.bits W (name_bytes c.args.name) =
    rw (c.versions-versions.ensures, c.make_version_room.ensures.same.bits) refl in (
      W.versions,
      rw c.versions-versions.ensures (versions-stand (keeps-same c.make_version_room.ensures.same K)),
      there,
      spares-suffice c.make_version_room.new.self.heap 0 LEVELS _ _ (c.in_ok-make_version_room.ensures.room W K) (omega arith) (omega arith) same,
    )

pub turn_versions-requires : goal.turn_versions-requires
turn_versions-requires c =
    let W = c.requires.0 in
    let K = c.requires.1 in
    let held = keeps-same c.make_version_room.ensures.same K in
    let those : AreVersionsIn c.make_version_room.new.self.heap c.versions-versions.result.bits c.versions-versions.result.root W.versions = rw c.versions-versions.ensures (versions-stand held) in
    let answered = c.without_version-map.ensures.answered W.versions those in
    let are = rw c.versions-versions.ensures at (c.without_version-map.ensures.versions W.versions those) in
    (W, map.remove W.versions (name_bytes c.args.name), keeps-gained held answered, are)

pub returns-clause-ends : goal.returns-clause-ends
unfolding cost
returns-clause-ends c = λ W K.
    let outside : in_batch W ≡ false = sym (c.in_batch.ensures [] W K) ∙ c.if-in_batch.false in
    let there = as-told (IsStateIn c.args.self.now.heap c.args.self.now.bits) _ _ (c.version.ensures W K) (c.is_none.ensures ∙ ap not c.if-is_none.false) in
    let held = keeps-same c.make_version_room.ensures.same K in
    let those : AreVersionsIn c.make_version_room.new.self.heap c.versions-versions.result.bits c.versions-versions.result.root W.versions = rw c.versions-versions.ensures (versions-stand held) in
    let answered = c.without_version-map.ensures.answered W.versions those in
    let are = rw c.versions-versions.ensures at (c.without_version-map.ensures.versions W.versions those) in
    let same : alike c.versions-versions.result.bits (map.keys W.versions) (name_bytes c.args.name) ≡ alike_versions c.args.self.now.bits W (name_bytes c.args.name) =
    rw (c.versions-versions.ensures, c.make_version_room.ensures.same.bits) refl in
    let turned = c.turn_versions.ensures.turns W (map.remove W.versions (name_bytes c.args.name)) (keeps-gained held answered) are in
    record {
      after = _;
      told = unmark-done W (name_bytes c.args.name) outside there;
      turns = turns-after _ (64 + alike_versions c.args.self.now.bits W (name_bytes c.args.name)) (rises-then (rises-same c.make_version_room.ensures.same.heap) (rises-answered answered)) c.make_version_room.ensures.same.bits
          turned (omega (arith, same));
      few_made = λ placed inside. absurd placed;
    }

pub returns-clause-spares : goal.returns-clause-spares
returns-clause-spares c = λ W K. room-then (room-then (c.in_ok-make_version_room.ensures.spares W K) c.without_version-map.ensures.spares) c.turn_versions.ensures.spares
