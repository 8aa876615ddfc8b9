use Rattle.std.proofs.Common.{[], subst}
use Rattle.node_heap.specs.declared.owner.Owner.TheVariants.{Hold as by_hold}
use Rattle.node_heap.specs.Owner.{EditsBy}
use Rattle.rrb_core.specs.Vector.{elements, IsVectorOf}
use Rattle.versions.proofs.in_place.opened.Goals as goal

pub returns-clause-vector : goal.returns-clause-vector
returns-clause-vector g c = subst (λ r. IsVectorOf c.open.new.heap c.in-Ok.edit (elements c.args.heap.now r)) c.from_root.ensures c.in-Ok.ensures.items

pub returns-clause-edits : goal.returns-clause-edits
returns-clause-edits g c = subst (λ r. EditsBy (by_hold r) c.args.heap.now c.open.new.heap c.in-Ok.edit [] [] 0 1) c.from_root.ensures c.in-Ok.ensures.edits
