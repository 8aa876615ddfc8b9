use Rattle.std.proofs.Common.{◌∙◌, ap, subst, IsSome}
use Rattle.std.specs.Prelude.{option_map}
use Rattle.node_heap.specs.Forms.{kind_of}
use Rattle.node_heap.specs.Nodes.{node_head}
use Rattle.node_heap.proofs.Weaving.{at-row, at-trie}
use Rattle.node_heap.proofs.nodes.Nodes.kind.Goals as goal

pub kind-requires : goal.kind-requires
kind-requires c = let i = c.self.inside in subst IsSome (at-row i.rows.slots i.tries.slots c.args.index c.if-index-eq0.true) (rw (← c.self.view_is) at c.requires)

pub returns-then-index-eq0 : goal.returns-then-index-eq0
returns-then-index-eq0 c = let i = c.self.inside in rw (← c.self.view_is) (ap (λ o. option_map kind_of (node_head o)) (at-row i.rows.slots i.tries.slots c.args.index c.if-index-eq0.true) ∙ c.kind.ensures)

pub kind-requires-else-index-eq0 : goal.kind-requires-else-index-eq0
kind-requires-else-index-eq0 c = let i = c.self.inside in subst IsSome (at-trie i.rows.slots i.tries.slots c.args.index c.if-index-eq0.false) (rw (← c.self.view_is) at c.requires)

pub returns-else-index-eq0 : goal.returns-else-index-eq0
returns-else-index-eq0 c = let i = c.self.inside in rw (← c.self.view_is) (ap (λ o. option_map kind_of (node_head o)) (at-trie i.rows.slots i.tries.slots c.args.index c.if-index-eq0.false) ∙ c.kind-else-index-eq0.ensures)
