use Rattle.std.proofs.Common.{◌∙◌, sym, ap, subst, IsSome}
use Rattle.node_heap.specs.Nodes.{node_links}
use Rattle.node_heap.proofs.Weaving.{at-row, at-trie}
use Rattle.node_heap.proofs.nodes.Nodes.row_links.Goals as goal

pub row_links-requires : goal.row_links-requires
row_links-requires c = let i = c.self.inside in subst IsSome (at-row i.rows.slots i.tries.slots c.args.index c.if-index-eq0.true) (rw (← c.self.view_is) at c.requires)

pub returns-then-index-eq0 : goal.returns-then-index-eq0
returns-then-index-eq0 c = let i = c.self.inside in rw (← c.self.view_is) (c.row_links.ensures ∙ sym (ap node_links (at-row i.rows.slots i.tries.slots c.args.index c.if-index-eq0.true)))

pub row_links-requires-else-index-eq0 : goal.row_links-requires-else-index-eq0
row_links-requires-else-index-eq0 c = let i = c.self.inside in subst IsSome (at-trie i.rows.slots i.tries.slots c.args.index c.if-index-eq0.false) (rw (← c.self.view_is) at c.requires)

pub returns-else-index-eq0 : goal.returns-else-index-eq0
returns-else-index-eq0 c = let i = c.self.inside in rw (← c.self.view_is) (c.row_links-else-index-eq0.ensures ∙ sym (ap node_links (at-trie i.rows.slots i.tries.slots c.args.index c.if-index-eq0.false)))
