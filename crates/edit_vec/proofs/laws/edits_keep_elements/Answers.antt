use Rattle.edit_vec.proofs.LawLemmas.{sets-keep, pushes-keep, pops-keep, pops-keep-held}
use Rattle.edit_vec.proofs.laws.edits_keep_elements.Goals as goal

pub returns-clause-sets : goal.returns-clause-sets
returns-clause-sets g c = sets-keep g.row.T.Denot

pub returns-clause-pushes : goal.returns-clause-pushes
returns-clause-pushes g c = pushes-keep g.row.T.Denot

pub returns-clause-pops : goal.returns-clause-pops
returns-clause-pops g c = pops-keep g.row.T.Denot

pub returns-clause-pops_held : goal.returns-clause-pops_held
returns-clause-pops_held g c = pops-keep-held g.row.T.Denot
