use Rattle.std.proofs.Common.{ℕ, [], ◌∷◌, refl, arith}
use Rattle.node_heap.proofs.Counts.{test_same}
use Rattle.node_heap.proofs.BuildLemmas.{count-cons}
use Rattle.node_heap.proofs.CallerLemmas.{needs-gained}
use Rattle.edit_vec.proofs.TopLemmas.{holds-root}
use Rattle.edit_vec.proofs.push.push_held.Goals as goal

pub push_root-root-requires-clause-owner : goal.push_root-root-requires-clause-owner
push_root-root-requires-clause-owner g c = rw c.into_root.ensures (holds-root c.args.heap.now c.args.vector c.args.element c.requires.held)

pub push_root-root-requires-clause-apart : goal.push_root-root-requires-clause-apart
push_root-root-requires-clause-apart g c = tt

pub push_root-root-requires-clause-root : goal.push_root-root-requires-clause-root
push_root-root-requires-clause-root g c =
    let vector : ℕ = c.args.vector in
    let element : ℕ = c.args.element in
    rw c.into_root.ensures (record {
      graph = c.rows_form_a_graph.ensures;
      good = c.requires.good;
      short = c.requires.short;
      held = omega (arith, c.requires.held element, count-cons element vector (element ∷ []), count-cons element element [], test_same element element refl);
      few = omega (arith, c.requires.few);
      spare = c.requires.spare.1;
    })

pub push_root-root-requires-clause-held : goal.push_root-root-requires-clause-held
push_root-root-requires-clause-held g c = rw c.into_root.ensures c.requires.held

pub returns-clause-pushes : goal.returns-clause-pushes
returns-clause-pushes g c = rw c.from_root.ensures (rw c.into_root.ensures at c.push_root-root.ensures.pushes)

pub returns-clause-spares : goal.returns-clause-spares
returns-clause-spares g c = needs-gained c.push_root-root.ensures.gains
