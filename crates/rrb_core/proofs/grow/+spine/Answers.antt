use Rattle.std.proofs.Common.{arith, ◌≡◌, ◌+◌, ◌-◌, suc, [], ◌∷◌}
use Rattle.node_heap.specs.Heap.{holds_at}
use Rattle.node_heap.proofs.BuildLemmas.{Builds-then, Builds-more}
use Rattle.rrb_core.proofs.LinkCounts.{one-held}
use Rattle.rrb_core.proofs.BuildLemmas.{builds-held, fresh-before}
use Rattle.rrb_core.proofs.RowLists.{one-row, one-items}
use Rattle.rrb_core.proofs.grow.+spine.Goals as goal

pub leaf_over-requires-clause-held : goal.leaf_over-requires-clause-held
leaf_over-requires-clause-held g t c = one-held c.args.element 0 (holds_at c.args.heap.now) c.requires.held

pub returns-then-height-eq0-clause-made : goal.returns-then-height-eq0-clause-made
returns-then-height-eq0-clause-made g t c = rw c.if-height-eq0.true (record { row = c.leaf_over.ensures.row; builds = c.leaf_over.ensures.builds })

pub inner_over-requires-clause-graph : goal.inner_over-requires-clause-graph
inner_over-requires-clause-graph g t c = c.spine-child.ensures.made.builds.graph

pub inner_over-requires-clause-rows : goal.inner_over-requires-clause-rows
inner_over-requires-clause-rows g t c = one-row c.spine-child.new.heap (c.args.height - 1) c.spine-child.result (c.args.element ∷ []) c.spine-child.ensures.made.row (omega arith)

pub inner_over-requires-clause-short : goal.inner_over-requires-clause-short
inner_over-requires-clause-short g t c = rw (one-items c.spine-child.new.heap (c.args.height - 1) c.spine-child.result (c.args.element ∷ []) c.spine-child.ensures.made.row) (omega arith)

pub inner_over-requires-clause-held : goal.inner_over-requires-clause-held
inner_over-requires-clause-held g t c = builds-held c.args.element c.requires.held c.spine-child.ensures.made.builds

pub inner_over-requires-clause-spare : goal.inner_over-requires-clause-spare
inner_over-requires-clause-spare g t c = omega (arith, c.spine-child.ensures.made.builds.makes.spare_nodes, c.spine-child.ensures.made.builds.few_nodes, c.requires.spare)

pub inner_over-requires-clause-holds : goal.inner_over-requires-clause-holds
inner_over-requires-clause-holds g t c = omega (arith, c.spine-child.ensures.made.builds.total, c.requires.holds)

pub returns-clause-made : goal.returns-clause-made
returns-clause-made g t c =
    let down : suc (c.args.height - 1) ≡ c.args.height = omega arith in
    let items = one-items c.spine-child.new.heap (c.args.height - 1) c.spine-child.result (c.args.element ∷ []) c.spine-child.ensures.made.row in
    record {
      row = rw (down, items) at c.inner_over.ensures.row;
      builds = Builds-more 0 (c.args.height + 1) (Builds-then c.spine-child.ensures.made.builds c.inner_over.ensures.builds) (omega arith) (omega arith);
    }

pub returns-clause-fresh : goal.returns-clause-fresh
returns-clause-fresh g t c = fresh-before c.inner_over.result c.spine-child.ensures.made.builds.extends c.inner_over.ensures.fresh

pub returns-clause-owners : goal.returns-clause-owners
returns-clause-owners g t c = λ k live. omega (arith, c.spine-child.ensures.owners k live, c.inner_over.ensures.owners k (c.spine-child.ensures.made.builds.extends.live k live))
