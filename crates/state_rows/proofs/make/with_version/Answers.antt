use Rattle.std.proofs.Common.{ℕ, refl, arith}
use Rattle.champ_kinds.specs.declared.map.TheConstants.{INSERT_NODES}
use Rattle.plain_space.specs.Workspace.{State}
use Rattle.state_rows.specs.InHeap.{IsStateIn}
use Rattle.state_rows.proofs.Staying.{grown}
use Rattle.state_rows.proofs.Steps.{versions-at, map-is, map-ample, inserted-answered, inserted-is}
use Rattle.state_rows.proofs.Room.{room-spared}
use Rattle.state_rows.proofs.make.with_version.Goals as goal

pub unreachable-requires : goal.unreachable-requires
unreachable-requires c =
    let at = versions-at c.requires.bits c.requires.versions.1 in
    let done = map-ample at c.args.key INSERT_NODES c.in_default.ensures.ample c.requires.versions.2 (omega arith) in
    cc

pub returns-clause-answered : goal.returns-clause-answered
returns-clause-answered c = λ m is. inserted-answered (versions-at c.requires.bits is) c.args.key refl refl c.in-Ok.ensures.answered

pub returns-clause-spares : goal.returns-clause-spares
returns-clause-spares c =
    let at = versions-at c.requires.bits c.requires.versions.1 in
    map-ample at c.args.key INSERT_NODES (λ M is spares. room-spared spares (c.in-Ok.ensures.spares M is)) c.requires.versions.2 (omega arith)

pub returns-clause-versions : goal.returns-clause-versions
returns-clause-versions c = λ m s is state.
    let old = c.args.heap.now in
    let new = c.map_insert.new.heap in
    let bits = (c.args.versions).bits in
    let at = versions-at c.requires.bits is in
    let more = (c.in-Ok.ensures.answered at.named.bindings (map-is at)).extends in
    let stays = λ (k : ℕ) (t : State) (held : IsStateIn old bits k t). (grown old new more bits k).state t held in
    inserted-is at (IsStateIn new bits) stays c.args.key refl c.args.state s c.requires.name (stays c.args.state s state) c.in-Ok.ensures.bits c.in-Ok.ensures.contents
