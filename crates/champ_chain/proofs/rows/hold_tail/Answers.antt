use Rattle.node_heap.proofs.BuildLemmas.{Builds-refl}
use Rattle.std.proofs.Common.{[]}
use Rattle.champ_chain.proofs.rows.hold_tail.Goals as goal

pub returns-in_default-clause-builds : goal.returns-in_default-clause-builds
returns-in_default-clause-builds g c = rw c.in_default.is (Builds-refl _ [] 0 0 c.requires.graph)
