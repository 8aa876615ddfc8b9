use Rattle.std.proofs.Common.{subst, arith, ◌∷◌, []}
use Rattle.std.proofs.lemmas.List.Edits.{length-remove}
use Rattle.std.specs.Prelude.{remove}
use Rattle.node_heap.specs.Forms.{node}
use Rattle.node_heap.specs.Calls.{AddsLike}
use Rattle.node_heap.specs.Heap.{row_at, links_at}
use Rattle.node_heap.proofs.Changed.{node-long}
use Rattle.node_heap.proofs.OwnerLemmas.{insert-removed}
use Rattle.node_heap.proofs.heap.Heap.with_replaced.Goals as goal

pub changed-requires-clause-node : goal.changed-requires-clause-node
changed-requires-clause-node g c = node-long (row_at c.args.self.now c.args.row) c.args.index c.requires.index

pub changed-requires-clause-into : goal.changed-requires-clause-into
changed-requires-clause-into g c = omega (arith, c.requires.index, length-remove (links_at c.args.self.now c.args.row) c.args.index c.requires.index)

pub changed-requires-clause-room : goal.changed-requires-clause-room
changed-requires-clause-room g c none = absurd cc

pub changed-requires-clause-few : goal.changed-requires-clause-few
changed-requires-clause-few g c none = absurd cc

pub returns : goal.returns
returns g c =
    let links = links_at c.args.self.now c.args.row in
    record {
      adds =
          subst (λ xs. AddsLike c.args.self.now c.changed.new.self c.changed.result (node c.args.head xs) (remove links c.args.index) (c.args.new ∷ [])) (insert-removed links c.args.index c.args.new c.requires.index)
          c.changed.ensures.adds;
    }
