use Rattle.std.proofs.Common.{rules}
use Rattle.edit_vec.proofs.TopLemmas.{holds-root}
use Rattle.edit_vec.proofs.edit.FlexEdit.push.Goals as goal

pub push_by-requires-clause-owner : goal.push_by-requires-clause-owner
push_by-requires-clause-owner g c = rw c.self.view_is (holds-root c.args.heap.now c.args.self.now c.args.element c.requires.held)

pub push_by-requires-clause-good : goal.push_by-requires-clause-good
push_by-requires-clause-good g c = rw c.self.view_is c.requires.good

pub push_by-requires-clause-held : goal.push_by-requires-clause-held
push_by-requires-clause-held g c = rw c.self.view_is c.requires.held

pub push_by-requires-clause-apart : goal.push_by-requires-clause-apart
push_by-requires-clause-apart g c = tt

pub returns-in-Ok-clause-pushes : goal.returns-in-Ok-clause-pushes
returns-in-Ok-clause-pushes g c = rw c.self.view_is at c.in-Ok.ensures.pushes

pub returns-in-Err-clause-refused : goal.returns-in-Err-clause-refused
returns-in-Err-clause-refused g c = (c.in-Err.ensures.refused, search rules)

pub returns-in-Ok-clause-spares : goal.returns-in-Ok-clause-spares
returns-in-Ok-clause-spares g c = c.in-Ok.ensures.spares
