use Rattle.std.proofs.Common.{ℕ, refl, arith}
use Rattle.elem_core.specs.declared.codes.TheConstants.{LEVELS}
use Rattle.elem_core.specs.Shown.{name_bytes}
use Rattle.plain_space.specs.Workspace.{State}
use Rattle.state_rows.specs.InHeap.{IsStateIn}
use Rattle.state_rows.proofs.Staying.{grown}
use Rattle.state_rows.proofs.Steps.{versions-at, map-ample, removed-answered, removed-is}
use Rattle.state_rows.proofs.Room.{room-spared}
use Rattle.state_rows.proofs.make.without_version.Goals as goal

pub unreachable-requires : goal.unreachable-requires
unreachable-requires c =
    let at = versions-at c.requires.bits c.requires.versions.1 in
    let done = map-ample at (name_bytes c.args.name) LEVELS c.in_default.ensures.ample c.requires.versions.3 (omega arith) in
    cc

pub returns-clause-answered : goal.returns-clause-answered
returns-clause-answered c = λ m is. removed-answered (versions-at c.requires.bits is) (name_bytes c.args.name) c.in-Some.is refl c.in-Ok.ensures.answered

pub returns-clause-spares : goal.returns-clause-spares
returns-clause-spares c =
    let at = versions-at c.requires.bits c.requires.versions.1 in
    map-ample at (name_bytes c.args.name) LEVELS (λ M is spares. room-spared spares (c.in-Ok.ensures.spares M is)) c.requires.versions.3 (omega arith)

pub returns-clause-versions : goal.returns-clause-versions
returns-clause-versions c = λ m is.
    let old = c.args.heap.now in
    let new = c.map_remove.new.heap in
    let bits = (c.args.versions).bits in
    let name = name_bytes c.args.name in
    let at = versions-at c.requires.bits is in
    let more = (removed-answered at name c.in-Some.is refl c.in-Ok.ensures.answered).extends in
    let stays = λ (k : ℕ) (t : State) (held : IsStateIn old bits k t). (grown old new more bits k).state t held in
    removed-is at (IsStateIn new bits) stays name refl c.in-Ok.found c.in-Some.is c.in-Ok.ensures.bits c.in-Ok.ensures.contents
