use Rattle.std.proofs.Common.{sym, subst}
use Rattle.node_heap.specs.declared.owner.Owner.TheVariants.{Child as by_place}
use Rattle.node_heap.proofs.CallerLemmas.{held-one, needs-gained}
use Rattle.edit_vec.specs.Edit.{SetsElement}
use Rattle.edit_vec.proofs.set.set_there.Goals as goal

pub set_root-did-requires-clause-owner : goal.set_root-did-requires-clause-owner
set_root-did-requires-clause-owner g c = (c.requires.child, c.requires.sole)

pub set_root-did-requires-clause-good : goal.set_root-did-requires-clause-good
set_root-did-requires-clause-good g c = c.requires.good

pub set_root-did-requires-clause-held : goal.set_root-did-requires-clause-held
set_root-did-requires-clause-held g c = λ k. held-one c.args.heap.now c.args.element c.requires.held k

pub set_root-did-requires-clause-apart : goal.set_root-did-requires-clause-apart
set_root-did-requires-clause-apart g c = c.requires.apart

pub set_root-did-requires-clause-inside : goal.set_root-did-requires-clause-inside
set_root-did-requires-clause-inside g c = c.requires.inside

pub returns-clause-sets : goal.returns-clause-sets
returns-clause-sets g c = subst (λ l. SetsElement (by_place c.args.parent c.args.child) c.args.heap.now c.set_root-did.new.heap l c.args.index c.args.element c.set_root-did.result.1) (sym c.set_root-did.ensures.up.1) c.set_root-did.ensures.sets

pub returns-clause-changes : goal.returns-clause-changes
returns-clause-changes g c = c.set_root-did.ensures.up.0

pub returns-clause-spares : goal.returns-clause-spares
returns-clause-spares g c = needs-gained c.set_root-did.ensures.gains
