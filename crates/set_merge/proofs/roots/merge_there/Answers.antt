use Rattle.std.proofs.Common.{arith}
use Rattle.node_heap.proofs.BuildLemmas.{Answered-Builds}
use Rattle.node_heap.proofs.RoomLemmas.{KeepsToNeed-Builds}
use Rattle.set_merge.proofs.roots.merge_there.Goals as goal

pub returns-clause-answered : goal.returns-clause-answered
returns-clause-answered g c = Answered-Builds c.merged_root.ensures.builds

pub returns-clause-made : goal.returns-clause-made
returns-clause-made g c = omega (arith, c.merged_root.ensures.builds.makes.made, c.merged_root.ensures.builds.makes.live)

pub returns-clause-spares : goal.returns-clause-spares
returns-clause-spares g c = KeepsToNeed-Builds 0 0 c.merged_root.ensures.builds
