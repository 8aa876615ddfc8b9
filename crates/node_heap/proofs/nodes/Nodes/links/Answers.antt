use Rattle.std.proofs.Common.{◌∙◌, sym, ap, subst, IsSome}
use Rattle.node_heap.specs.Nodes.{node_links}
use Rattle.node_heap.proofs.Weaving.{at-row, at-trie}
use Rattle.node_heap.proofs.nodes.Nodes.links.Goals as goal

pub links-requires : goal.links-requires
links-requires c = let i = c.self.inside in subst IsSome (at-row i.rows.slots i.tries.slots c.args.index c.if-index-eq0.true) (rw (← c.self.view_is) at c.requires)

pub returns-then-index-eq0-clause-value : goal.returns-then-index-eq0-clause-value
returns-then-index-eq0-clause-value c = let i = c.self.inside in rw (← c.self.view_is) (c.links.ensures.value ∙ sym (ap node_links (at-row i.rows.slots i.tries.slots c.args.index c.if-index-eq0.true)))

pub links-requires-else-index-eq0 : goal.links-requires-else-index-eq0
links-requires-else-index-eq0 c = let i = c.self.inside in subst IsSome (at-trie i.rows.slots i.tries.slots c.args.index c.if-index-eq0.false) (rw (← c.self.view_is) at c.requires)

pub returns-else-index-eq0-clause-value : goal.returns-else-index-eq0-clause-value
returns-else-index-eq0-clause-value c = let i = c.self.inside in rw (← c.self.view_is) (c.links-else-index-eq0.ensures.value ∙ sym (ap node_links (at-trie i.rows.slots i.tries.slots c.args.index c.if-index-eq0.false)))
