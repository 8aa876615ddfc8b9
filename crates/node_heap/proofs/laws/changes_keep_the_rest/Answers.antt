use Rattle.node_heap.proofs.Edited.{KeepsPaths-ways, KeepsPaths-owned, KeepsBelow-apart, KeepsBelow-sibling, IsTree-apart}
use Rattle.node_heap.proofs.EditLaws.{KeepsHeld-own, rows-above}
use Rattle.node_heap.proofs.laws.changes_keep_the_rest.Goals as goal

pub returns-clause-ways : goal.returns-clause-ways
returns-clause-ways g c old new first x y spent gained cells nodes change = KeepsPaths-ways change.paths x y

pub returns-clause-paths : goal.returns-clause-paths
returns-clause-paths g c old new first x y spent gained cells nodes change = KeepsPaths-owned change.paths x y

pub returns-clause-rows : goal.returns-clause-rows
returns-clause-rows g c old new first l spent gained cells nodes change some off = KeepsBelow-apart change.apart l some off

pub returns-clause-trees : goal.returns-clause-trees
returns-clause-trees g c old new first l t spent gained cells nodes change some off tree = IsTree-apart change.apart some off tree

pub returns-clause-siblings : goal.returns-clause-siblings
returns-clause-siblings g c old new parent child other l spent gained cells nodes graph one to_child to_other apart change some down = KeepsBelow-sibling parent child other l graph one to_child to_other apart some down change.apart

pub returns-clause-held : goal.returns-clause-held
returns-clause-held g c old new first spent gained cells nodes held one change = KeepsHeld-own first held one change

pub returns-clause-above : goal.returns-clause-above
returns-clause-above g c old new first l m spent gained cells nodes graph change some down up other = rows-above graph change.apart l m some down up other
