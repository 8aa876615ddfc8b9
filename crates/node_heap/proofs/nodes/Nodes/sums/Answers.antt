use Rattle.std.proofs.Common.{◌∙◌, ap, subst, IsSome}
use Rattle.std.specs.Prelude.{option_map}
use Rattle.node_heap.specs.Forms.{sums_of}
use Rattle.node_heap.specs.Nodes.{node_head}
use Rattle.node_heap.proofs.Weaving.{at-row, at-trie}
use Rattle.node_heap.proofs.nodes.Nodes.sums.Goals as goal

pub sums-requires : goal.sums-requires
sums-requires c = let i = c.self.inside in subst IsSome (at-row i.rows.slots i.tries.slots c.args.index c.if-index-eq0.true) (rw (← c.self.view_is) at c.requires)

pub returns-then-index-eq0 : goal.returns-then-index-eq0
returns-then-index-eq0 c = let i = c.self.inside in rw (← c.self.view_is) (ap (λ o. option_map sums_of (node_head o)) (at-row i.rows.slots i.tries.slots c.args.index c.if-index-eq0.true) ∙ c.sums.ensures)

pub sums-requires-else-index-eq0 : goal.sums-requires-else-index-eq0
sums-requires-else-index-eq0 c = let i = c.self.inside in subst IsSome (at-trie i.rows.slots i.tries.slots c.args.index c.if-index-eq0.false) (rw (← c.self.view_is) at c.requires)

pub returns-else-index-eq0 : goal.returns-else-index-eq0
returns-else-index-eq0 c = let i = c.self.inside in rw (← c.self.view_is) (ap (λ o. option_map sums_of (node_head o)) (at-trie i.rows.slots i.tries.slots c.args.index c.if-index-eq0.false) ∙ c.sums-else-index-eq0.ensures)
