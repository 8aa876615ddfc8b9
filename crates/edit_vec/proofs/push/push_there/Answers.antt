use Rattle.std.proofs.Common.{arith, sym, subst}
use Rattle.node_heap.specs.declared.owner.Owner.TheVariants.{Child as by_place}
use Rattle.node_heap.proofs.CallerLemmas.{held-one, needs-gained}
use Rattle.edit_vec.specs.Edit.{PushesElement}
use Rattle.edit_vec.proofs.push.push_there.Goals as goal

pub push_root-requires-clause-owner : goal.push_root-requires-clause-owner
push_root-requires-clause-owner g c = (c.requires.child, c.requires.sole)

pub push_root-requires-clause-root : goal.push_root-requires-clause-root
push_root-requires-clause-root g c = record {
  graph = c.rows_form_a_graph.ensures;
  good = c.requires.good;
  short = c.requires.short;
  held = c.requires.held;
  few = omega (arith, c.requires.few);
  spare = c.requires.spare.1;
}

pub push_root-requires-clause-held : goal.push_root-requires-clause-held
push_root-requires-clause-held g c = λ k. held-one c.args.heap.now c.args.element c.requires.held k

pub push_root-requires-clause-apart : goal.push_root-requires-clause-apart
push_root-requires-clause-apart g c = c.requires.apart

pub returns-clause-pushes : goal.returns-clause-pushes
returns-clause-pushes g c = subst (λ l. PushesElement (by_place c.args.parent c.args.child) c.args.heap.now c.push_root.new.heap l c.args.element) (sym c.push_root.ensures.up.1) c.push_root.ensures.pushes

pub returns-clause-changes : goal.returns-clause-changes
returns-clause-changes g c = c.push_root.ensures.up.0

pub returns-clause-spares : goal.returns-clause-spares
returns-clause-spares g c = needs-gained c.push_root.ensures.gains
