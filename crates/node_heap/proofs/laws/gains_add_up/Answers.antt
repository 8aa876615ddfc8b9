use Rattle.node_heap.proofs.EditLaws.{Gains-trans, Gains-Builds, Gains-Changes, MakesJust-Gains}
use Rattle.node_heap.proofs.laws.gains_add_up.Goals as goal

pub returns-clause-follow : goal.returns-clause-follow
returns-clause-follow g c old mid new one two = Gains-trans one two

pub returns-clause-builds : goal.returns-clause-builds
returns-clause-builds g c old new spent gained cells nodes builds = Gains-Builds builds

pub returns-clause-writes : goal.returns-clause-writes
returns-clause-writes g c old new first spent gained most_cells most_nodes cells nodes change others makes = Gains-Changes change others makes

pub returns-clause-just : goal.returns-clause-just
returns-clause-just g c old new gains = MakesJust-Gains gains
