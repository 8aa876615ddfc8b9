use Rattle.rrb_core.proofs.EditLemmas.{leaf-items}
use Rattle.edit_vec.proofs.StepLemmas.{sets-leaf}
use Rattle.edit_vec.proofs.set.set_leaf.Goals as goal

pub replace-requires-clause-index : goal.replace-requires-clause-index
replace-requires-clause-index g c = rw (leaf-items c.args.heap.now c.args.row) at c.requires.inside

pub returns : goal.returns
returns g c = let did = c.replace.ensures in sets-leaf c.requires.row c.requires.inside did.old did.writes did.changes did.makes
