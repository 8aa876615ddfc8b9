use Rattle.std.proofs.Common.{sym, subst}
use Rattle.node_heap.specs.declared.owner.Owner.TheVariants.{Child as by_place}
use Rattle.node_heap.proofs.CallerLemmas.{held-one}
use Rattle.edit_vec.specs.Edit.{SetsElement}
use Rattle.edit_vec.proofs.set.set_at.Goals as goal

pub set_by-requires-clause-owner : goal.set_by-requires-clause-owner
set_by-requires-clause-owner g c = (c.requires.child, c.requires.sole)

pub set_by-requires-clause-good : goal.set_by-requires-clause-good
set_by-requires-clause-good g c = c.requires.good

pub set_by-requires-clause-held : goal.set_by-requires-clause-held
set_by-requires-clause-held g c = λ k. held-one c.args.heap.now c.args.element c.requires.held k

pub set_by-requires-clause-apart : goal.set_by-requires-clause-apart
set_by-requires-clause-apart g c = c.requires.apart

pub returns-in-Ok-clause-sets : goal.returns-in-Ok-clause-sets
returns-in-Ok-clause-sets g c = subst (λ l. SetsElement (by_place c.args.parent c.args.child) c.args.heap.now c.set_by.new.heap l c.args.index c.args.element c.in-Ok.did.1) (sym c.in-Ok.ensures.up.1) c.in-Ok.ensures.sets

pub returns-in-Ok-clause-changes : goal.returns-in-Ok-clause-changes
returns-in-Ok-clause-changes g c = c.in-Ok.ensures.up.0

pub returns-in-Ok-clause-spares : goal.returns-in-Ok-clause-spares
returns-in-Ok-clause-spares g c = c.in-Ok.ensures.spares

pub returns-in-Err-clause-refused : goal.returns-in-Err-clause-refused
returns-in-Err-clause-refused g c = c.in-Err.ensures.refused
