use Rattle.std.proofs.Common.{rules}
use Rattle.edit_vec.proofs.TopLemmas.{holds-root}
use Rattle.edit_vec.proofs.edit.FlexEdit.set.Goals as goal

pub set_by-requires-clause-owner : goal.set_by-requires-clause-owner
set_by-requires-clause-owner g c = rw c.self.view_is (holds-root c.args.heap.now c.args.self.now c.args.element c.requires.held)

pub set_by-requires-clause-good : goal.set_by-requires-clause-good
set_by-requires-clause-good g c = rw c.self.view_is c.requires.good

pub set_by-requires-clause-held : goal.set_by-requires-clause-held
set_by-requires-clause-held g c = rw c.self.view_is c.requires.held

pub set_by-requires-clause-apart : goal.set_by-requires-clause-apart
set_by-requires-clause-apart g c = tt

pub returns-in-Ok-clause-sets : goal.returns-in-Ok-clause-sets
returns-in-Ok-clause-sets g c = rw c.self.view_is at c.in-Ok.ensures.sets

pub returns-in-Err-clause-refused : goal.returns-in-Err-clause-refused
returns-in-Err-clause-refused g c = (c.in-Err.ensures.refused, search rules)

pub returns-in-Ok-clause-spares : goal.returns-in-Ok-clause-spares
returns-in-Ok-clause-spares g c = c.in-Ok.ensures.spares
