use Rattle.node_heap.proofs.Edited.{Changes-path, Changes-follow}
use Rattle.node_heap.proofs.EditLaws.{Changes-Builds, Changes-hold, Changes-Unchanged, Changes-Releases}
use Rattle.node_heap.proofs.laws.changes_add_up.Goals as goal

pub returns-clause-up : goal.returns-clause-up
returns-clause-up g c old new first last spent gained cells nodes path change = Changes-path path change

pub returns-clause-follow : goal.returns-clause-follow
returns-clause-follow g c old mid new first between spent gained spent' gained' cells nodes cells' nodes' one two = Changes-follow between spent gained spent' gained' one two

pub returns-clause-builds : goal.returns-clause-builds
returns-clause-builds g c old new first spent gained cells nodes graph soles builds = Changes-Builds first graph soles builds

pub returns-clause-holds : goal.returns-clause-holds
returns-clause-holds g c old new first link graph owners builds off = Changes-hold first link graph owners builds off

pub returns-clause-releases : goal.returns-clause-releases
returns-clause-releases g c old new first link graph graph' rel off = Changes-Releases old new link graph rel first off graph'

pub returns-clause-room : goal.returns-clause-room
returns-clause-room g c old new first graph same = Changes-Unchanged first graph same
