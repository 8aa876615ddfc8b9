use Rattle.std.proofs.Common.{◌∙◌, ap, subst, IsSome}
use Rattle.node_heap.specs.Nodes.{node_head}
use Rattle.node_heap.proofs.Weaving.{at-row, at-trie}
use Rattle.node_heap.proofs.nodes.Nodes.head.Goals as goal

pub head-requires : goal.head-requires
head-requires c = let i = c.self.inside in subst IsSome (at-row i.rows.slots i.tries.slots c.args.index c.if-index-eq0.true) (rw (← c.self.view_is) at c.requires)

pub returns-then-index-eq0 : goal.returns-then-index-eq0
returns-then-index-eq0 c = let i = c.self.inside in rw (← c.self.view_is) (ap node_head (at-row i.rows.slots i.tries.slots c.args.index c.if-index-eq0.true) ∙ c.head.ensures)

pub head-requires-else-index-eq0 : goal.head-requires-else-index-eq0
head-requires-else-index-eq0 c = let i = c.self.inside in subst IsSome (at-trie i.rows.slots i.tries.slots c.args.index c.if-index-eq0.false) (rw (← c.self.view_is) at c.requires)

pub returns-else-index-eq0 : goal.returns-else-index-eq0
returns-else-index-eq0 c = let i = c.self.inside in rw (← c.self.view_is) (ap node_head (at-trie i.rows.slots i.tries.slots c.args.index c.if-index-eq0.false) ∙ c.head-else-index-eq0.ensures)
