use Rattle.std.proofs.Common.{ap, ◌∙◌}
use Rattle.space_state.specs.Roots.{base_of}
use Rattle.space_state.proofs.Keeping.{first-held, keeps-released}
use Rattle.space_state.proofs.Taking.{keeps-alone, pool-released}
use Rattle.state_rows.proofs.Room.{room-freed, room-then}
use Rattle.space_state.proofs.roots.RootedHeap.turn_roots.Goals as goal

pub release-requires : goal.release-requires
release-requires c = first-held c.requires.kept.1

pub release-requires-2 : goal.release-requires-2
release-requires-2 c = first-held (keeps-released c.requires.kept.1 c.release.ensures.releases c.release.ensures.graph)

pub release-requires-3 : goal.release-requires-3
release-requires-3 c =
    let first = keeps-released c.requires.kept.1 c.release.ensures.releases c.release.ensures.graph in
    first-held (keeps-released first c.release-2.ensures.releases c.release-2.ensures.graph)

pub release-requires-4 : goal.release-requires-4
release-requires-4 c =
    let first = keeps-released c.requires.kept.1 c.release.ensures.releases c.release.ensures.graph in
    let second = keeps-released first c.release-2.ensures.releases c.release-2.ensures.graph in
    first-held (keeps-released second c.release-3.ensures.releases c.release-3.ensures.graph)

pub returns-clause-kept : goal.returns-clause-kept
returns-clause-kept c = λ W K.
    let first = keeps-released K c.release.ensures.releases c.release.ensures.graph in
    let second = keeps-released first c.release-2.ensures.releases c.release-2.ensures.graph in
    let third = keeps-released second c.release-3.ensures.releases c.release-3.ensures.graph in
    keeps-alone (ap base_of c.requires.closed) (keeps-released third c.release-4.ensures.releases c.release-4.ensures.graph)

pub returns-clause-pool : goal.returns-clause-pool
returns-clause-pool c =
    let W = c.requires.kept.0 in
    let first = keeps-released c.requires.kept.1 c.release.ensures.releases c.release.ensures.graph in
    let second = keeps-released first c.release-2.ensures.releases c.release-2.ensures.graph in
    let third = keeps-released second c.release-3.ensures.releases c.release-3.ensures.graph in
    pool-released third c.release-4.ensures.releases c.release-4.ensures.graph ∙ pool-released second c.release-3.ensures.releases c.release-3.ensures.graph
    ∙ pool-released first c.release-2.ensures.releases c.release-2.ensures.graph ∙ pool-released c.requires.kept.1 c.release.ensures.releases c.release.ensures.graph

pub returns-clause-made : goal.returns-clause-made
returns-clause-made c = c.release-4.ensures.releases.made ∙ c.release-3.ensures.releases.made ∙ c.release-2.ensures.releases.made ∙ c.release.ensures.releases.made

pub returns-clause-spares : goal.returns-clause-spares
returns-clause-spares c =
    room-then (room-then (room-then (room-freed c.release.ensures.releases) (room-freed c.release-2.ensures.releases)) (room-freed c.release-3.ensures.releases)) (room-freed c.release-4.ensures.releases)
