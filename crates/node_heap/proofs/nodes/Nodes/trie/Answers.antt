use Rattle.std.proofs.Common.{◌/◌, ◌∙◌, sym, ap, Some}
use Rattle.node_heap.specs.Nodes.{node_head, node_links, node_at}
use Rattle.node_heap.proofs.Weaving.{at-row, at-trie, headed-some, one-head, sets-odd, sets-same}
use Rattle.node_heap.proofs.nodes.Nodes.trie.Goals as goal

pub sets_of-requires : goal.sets_of-requires
sets_of-requires c =
    let i = c.self.inside in
    let is = rw (← c.self.view_is) at c.requires.3 in
    headed-some _ _ (sym (ap node_head (at-trie i.rows.slots i.tries.slots c.args.index c.if-index-ne0.true)) ∙ is)

pub unreachable-requires : goal.unreachable-requires
unreachable-requires c =
    let i = c.self.inside in
    let is = rw (← c.self.view_is) at c.requires.3 in
    sets-odd (node_at i.tries.slots (c.args.index / 2)) _ _ _ (sym (ap node_head (at-trie i.rows.slots i.tries.slots c.args.index c.if-index-ne0.true)) ∙ is) (c.sets_of.ensures ∙ ap Some c.in-Odd.is)

pub returns-then-index-ne0-clause-sets : goal.returns-then-index-ne0-clause-sets
returns-then-index-ne0-clause-sets c =
    let i = c.self.inside in
    let is = rw (← c.self.view_is) at c.requires.3 in
    let at = ap node_head (at-trie i.rows.slots i.tries.slots c.args.index c.if-index-ne0.true) in
    rw (← c.self.view_is) (c.requires.0, at ∙ sets-same (node_at i.tries.slots (c.args.index / 2)) _ _ _ c.sets_of.result _ _ _ (sym at ∙ is) c.sets_of.ensures c.in-Trie.is)

pub returns-then-index-ne0-clause-links : goal.returns-then-index-ne0-clause-links
returns-then-index-ne0-clause-links c =
    let i = c.self.inside in
    rw (← c.self.view_is) (c.links.ensures.value ∙ sym (ap node_links (at-trie i.rows.slots i.tries.slots c.args.index c.if-index-ne0.true)))

pub head-requires : goal.head-requires
head-requires c =
    let i = c.self.inside in
    let is = rw (← c.self.view_is) at c.requires.3 in
    headed-some _ _ (sym (ap node_head (at-row i.rows.slots i.tries.slots c.args.index c.if-index-ne0.false)) ∙ is)

pub unreachable-requires-in_default : goal.unreachable-requires-in_default
unreachable-requires-in_default c =
    let i = c.self.inside in
    let is = rw (← c.self.view_is) at c.requires.3 in
    c.in_default.not-Trie _ _ _ (one-head _ _ _ c.head.ensures (sym (ap node_head (at-row i.rows.slots i.tries.slots c.args.index c.if-index-ne0.false)) ∙ is))

pub returns-clause-sets : goal.returns-clause-sets
returns-clause-sets c =
    let i = c.self.inside in
    rw (← c.self.view_is) (c.in-Trie-head.depth, ap node_head (at-row i.rows.slots i.tries.slots c.args.index c.if-index-ne0.false) ∙ c.head.ensures ∙ ap Some c.in-Trie-head.is)

pub returns-clause-links : goal.returns-clause-links
returns-clause-links c =
    let i = c.self.inside in
    rw (← c.self.view_is) (c.links-in-Trie-head.ensures.value ∙ sym (ap node_links (at-row i.rows.slots i.tries.slots c.args.index c.if-index-ne0.false)))
