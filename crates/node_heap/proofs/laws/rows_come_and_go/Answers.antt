use Rattle.node_heap.proofs.EditLaws.{new-reach, leaf-others, leaf-one}
use Rattle.node_heap.proofs.laws.rows_come_and_go.Goals as goal

pub returns-clause-spent : goal.returns-clause-spent
returns-clause-spent g c old new spent gained cells nodes l m owners builds none live way = new-reach old new spent gained cells nodes owners builds l m none live way

pub returns-clause-others : goal.returns-clause-others
returns-clause-others g c old new link graph leaf rel = leaf-others old new link graph rel leaf

pub returns-clause-one : goal.returns-clause-one
returns-clause-one g c old new link graph leaf rel = leaf-one old new link graph rel leaf
