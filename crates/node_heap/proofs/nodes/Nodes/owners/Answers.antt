use Rattle.std.proofs.Common.{◌∙◌, sym, ap, subst, IsSome}
use Rattle.node_heap.specs.Nodes.{node_owners}
use Rattle.node_heap.proofs.Weaving.{at-row, at-trie}
use Rattle.node_heap.proofs.nodes.Nodes.owners.Goals as goal

pub owners-requires : goal.owners-requires
owners-requires c = let i = c.self.inside in subst IsSome (at-row i.rows.slots i.tries.slots c.args.index c.if-index-eq0.true) (rw (← c.self.view_is) at c.requires)

pub returns-then-index-eq0 : goal.returns-then-index-eq0
returns-then-index-eq0 c = let i = c.self.inside in rw (← c.self.view_is) (c.owners.ensures ∙ sym (ap node_owners (at-row i.rows.slots i.tries.slots c.args.index c.if-index-eq0.true)))

pub owners-requires-else-index-eq0 : goal.owners-requires-else-index-eq0
owners-requires-else-index-eq0 c = let i = c.self.inside in subst IsSome (at-trie i.rows.slots i.tries.slots c.args.index c.if-index-eq0.false) (rw (← c.self.view_is) at c.requires)

pub returns-else-index-eq0 : goal.returns-else-index-eq0
returns-else-index-eq0 c = let i = c.self.inside in rw (← c.self.view_is) (c.owners-else-index-eq0.ensures ∙ sym (ap node_owners (at-trie i.rows.slots i.tries.slots c.args.index c.if-index-eq0.false)))
