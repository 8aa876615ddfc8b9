use Rattle.std.proofs.Common.{subst, sym}
use Rattle.node_heap.proofs.CallerLemmas.{Gains-Builds}
use Rattle.edit_vec.specs.Steps.{PushesRoot}
use Rattle.edit_vec.proofs.OverTop.{pushes-over}
use Rattle.edit_vec.proofs.push.push_over.Goals as goal

pub root_beside-requires-clause-root : goal.root_beside-requires-clause-root
root_beside-requires-clause-root g c = rw c.in-Hold.is at c.requires.root

pub root_beside-requires-clause-held : goal.root_beside-requires-clause-held
root_beside-requires-clause-held g c = rw c.in-Hold.is at c.requires.held

pub root_beside-requires-clause-height : goal.root_beside-requires-clause-height
root_beside-requires-clause-height g c = rw c.in-Hold.is at c.requires.height

pub root_beside-requires-clause-packed : goal.root_beside-requires-clause-packed
root_beside-requires-clause-packed g c = rw c.in-Hold.is at c.requires.packed

pub push_over_child-requires-clause-sole : goal.push_over_child-requires-clause-sole
push_over_child-requires-clause-sole g c = let can = rw c.in-Child.is at c.requires.owner in can.1

pub push_over_child-requires-clause-child : goal.push_over_child-requires-clause-child
push_over_child-requires-clause-child g c = let can = rw c.in-Child.is at c.requires.owner in can.0

pub push_over_child-requires-clause-root : goal.push_over_child-requires-clause-root
push_over_child-requires-clause-root g c = rw c.in-Child.is at c.requires.root

pub push_over_child-requires-clause-apart : goal.push_over_child-requires-clause-apart
push_over_child-requires-clause-apart g c = rw c.in-Child.is at c.requires.apart

pub push_over_child-requires-clause-height : goal.push_over_child-requires-clause-height
push_over_child-requires-clause-height g c = rw c.in-Child.is at c.requires.height

pub push_over_child-requires-clause-packed : goal.push_over_child-requires-clause-packed
push_over_child-requires-clause-packed g c = rw c.in-Child.is at c.requires.packed

pub returns-in-Hold : goal.returns-in-Hold
returns-in-Hold g c =
    let did = c.root_beside.ensures in
    let can = rw c.in-Hold.is at c.requires.root in
    let height = rw c.in-Hold.is at c.requires.height in
    subst (λ o. PushesRoot o c.args.heap.now c.root_beside.new.heap c.root_beside.result c.args.element) (sym c.in-Hold.is) (record {
      pushes = pushes-over can height (rw c.in-Hold.is at c.requires.packed) did.vector did.tall did.over did.builds;
      up = tt;
      gains = Gains-Builds did.builds;
    })

pub returns-in-Child : goal.returns-in-Child
returns-in-Child g c = subst (λ o. PushesRoot o c.args.heap.now c.push_over_child.new.heap c.push_over_child.result c.args.element) (sym c.in-Child.is) c.push_over_child.ensures
