use Rattle.std.proofs.Common.{sym, subst}
use Rattle.node_heap.specs.declared.owner.Owner.TheVariants.{Child as by_place}
use Rattle.node_heap.proofs.CallerLemmas.{held-one}
use Rattle.edit_vec.specs.Edit.{PushesElement}
use Rattle.edit_vec.proofs.push.push_at.Goals as goal

pub push_by-requires-clause-owner : goal.push_by-requires-clause-owner
push_by-requires-clause-owner g c = (c.requires.child, c.requires.sole)

pub push_by-requires-clause-good : goal.push_by-requires-clause-good
push_by-requires-clause-good g c = c.requires.good

pub push_by-requires-clause-held : goal.push_by-requires-clause-held
push_by-requires-clause-held g c = λ k. held-one c.args.heap.now c.args.element c.requires.held k

pub push_by-requires-clause-apart : goal.push_by-requires-clause-apart
push_by-requires-clause-apart g c = c.requires.apart

pub returns-in-Ok-clause-pushes : goal.returns-in-Ok-clause-pushes
returns-in-Ok-clause-pushes g c = subst (λ l. PushesElement (by_place c.args.parent c.args.child) c.args.heap.now c.push_by.new.heap l c.args.element) (sym c.in-Ok.ensures.up.1) c.in-Ok.ensures.pushes

pub returns-in-Ok-clause-changes : goal.returns-in-Ok-clause-changes
returns-in-Ok-clause-changes g c = c.in-Ok.ensures.up.0

pub returns-in-Ok-clause-spares : goal.returns-in-Ok-clause-spares
returns-in-Ok-clause-spares g c = c.in-Ok.ensures.spares

pub returns-in-Err-clause-refused : goal.returns-in-Err-clause-refused
returns-in-Err-clause-refused g c = c.in-Err.ensures.refused
